-- What regions show, for all tables that a state stands for.
use Rattle.std.specs.Prelude.{ℕ, ◌≡◌, List}
use Rattle.std.specs.Borrow.{Bor}
use Rattle.acl.specs.declared.user_id.UserId.{UserId}
use Rattle.cells.specs.declared.cell.Cell.{Cell}
use Rattle.regions.specs.declared.layout.Shown.{Shown}
use Rattle.view.specs.declared.view.Contents.{Contents}
use Rattle.view.specs.Granted as view
use Rattle.session_model.specs.Tables as model
use Rattle.session_model.specs.Tables.{Tables}
use Rattle.session_model.specs.Terminals.{terminal_of}
use Rattle.terminal_model.specs.Scrollback.{moved_back}
use Rattle.session_model.specs.Granted.{window_read, part_shown}
use Rattle.windows_model.specs.Matched.{Matched}
use Rattle.windows.specs.declared.window.Window.{Window}
use Rattle.windows.specs.Standing.{WindowStands}
use Rattle.windows.specs.Showing.{cells_of}
use Rattle.session_state.specs.declared.state.State.{State}
use Rattle.session_state.specs.Stands.{Stands}
use Rattle.session_model.specs.Sound.{AreFit}
use Rattle.session_view.specs.declared.parts.Part.{Part}
use Rattle.session_view.specs.declared.parts.Part.TheVariants.{Empty, Hidden, Readable}

-- what a region shows of a window: its number, its title, these lines, its cursor and its modes
abbrev pub ShowsWindow : ℕ → Window → List (Bor (List Cell)) → Contents → Type 0
ShowsWindow back w lines contents = (m : model.Window) → WindowStands m w →
    cells_of lines ≡ moved_back back (terminal_of m).screen →
    view.window_of contents ≡ window_read m back (terminal_of m).screen

-- a window of the table, which may be read, with the lines of its page scrolled back
pub record Reads (t : Tables) (user : UserId) (s : Shown) (w : Window) (back : ℕ)
    (lines : List (List Cell)) : Type 0 where
  pub window : model.Window
  pub stands : WindowStands window w
  pub lines_are : lines ≡ moved_back back (terminal_of window).screen
  pub shown : part_shown t user s ≡ view.read (window_read window back (terminal_of window).screen)

-- it is what the region shows the user
abbrev pub ShowsPart : Tables → UserId → Shown → Part → Type 0
ShowsPart t user s Empty = part_shown t user s ≡ view.vacant
ShowsPart t user s (Hidden number) = part_shown t user s ≡ view.unread number
ShowsPart t user s (Readable w back lines) = Reads t user s w.now back (cells_of lines.items)

abbrev pub IsPart : State → UserId → Shown → Part → Type 0
IsPart s user shown part = (t : Tables) → Stands t s → AreFit t → ShowsPart t user shown part

-- one part a region
abbrev pub AreParts : State → UserId → List Shown → List Part → Type 0
AreParts s user shown parts =
    (t : Tables) → Stands t s → AreFit t → Matched (ShowsPart t user) shown parts
