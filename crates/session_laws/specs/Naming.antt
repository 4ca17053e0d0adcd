-- Who may open, close, number and name windows.
use Rattle.std.specs.Prelude.{◌≡◌, ◌⊎◌, ℕ, Bool, true, false, List, Option}
use Rattle.std.specs.Option.{option_map}
use Rattle.acl.specs.declared.bits.Bit.TheVariants.{Execute}
use Rattle.acl.specs.declared.act.Object.TheVariants as object
use Rattle.acl.specs.declared.command_name.CommandName.{CommandName}
use Rattle.acl.specs.declared.command_name.CommandName.TheVariants as name
use Rattle.command_lang.specs.Names.{name_of}
use Rattle.session_model.specs.Trace.{EventValue, Open, Closed, Entry}
use Rattle.session_model.specs.Tables.{Window, Tables, window_at}
use Rattle.session_model.specs.Rights.{may_in}
use Rattle.session_model.specs.Sound.{AreFit}
use Rattle.session_model.specs.Given.{Given, commands_of, has_x}
use Rattle.session_model.specs.Promises.{SomeOf, IsOn}
use Rattle.session_model.specs.Run.{IsStep, after}

-- the number and title of a window; None if it isn't open
abbrev pub label_at : Tables → ℕ → Option (ℕ × List ℕ)
label_at t window = option_map (λ (w : Window). (w.number, w.title)) (window_at t window)

-- commands that change the number or title of the window that they act on, or close it
abbrev pub names_its_window : CommandName → Bool
names_its_window name.Title = true
names_its_window name.Number = true
names_its_window name.Kill = true
names_its_window _ = false

-- x on the command and on this window; or x on quit
pub record MayName (t : Tables) (window : ℕ) (g : Given) : Type 0 where
  pub granted : has_x t g ≡ true
  pub acts :
      ((names_its_window (name_of g.order) ≡ true) × IsOn g.caller.window window)
      ⊎ (name_of g.order ≡ name.Quit)

-- why a window's number or title changes, or the window opens or closes: its program ended, a user
-- with x on `screen` opened it, or such a command was given
abbrev pub IsNamed : Tables → Entry → EventValue → ℕ → Type 0
IsNamed t e (Open user rows columns keep title) window =
    (t.next_window ≡ window) × (may_in t user Execute (object.Command name.Screen) ≡ true)
IsNamed t e (Closed at) window = at ≡ window
IsNamed t e event window = SomeOf (MayName t window) (commands_of t event)

abbrev pub WindowsStayIn : Tables → Entry → Type 0
WindowsStayIn t e =
    (window : ℕ) →
    (label_at (after t e) window ≡ label_at t window) ⊎ IsNamed t e e.event window

abbrev pub WindowsStay : Type 0
WindowsStay = (t : Tables) (e : Entry) → AreFit t → IsStep t e → WindowsStayIn t e
