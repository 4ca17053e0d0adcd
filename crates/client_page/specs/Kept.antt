-- What a kept terminal has read, and what brings it back.
use Rattle.std.specs.Prelude.{◌≡◌, ◌<◌, ◌⊎◌, ℕ, Bool, true, false, List, take, length, Option, Some, None, IfSome}
use Rattle.cells.specs.Page.{IsGridSize}
use Rattle.client_words.specs.declared.arguments.Subcommand.TheVariants.{Window}
use Rattle.client_words.specs.declared.arguments.Arguments.{Arguments}
use Rattle.terminal_model.specs.Reading.{Terminal, ready, reads}
use Rattle.terminal_model.specs.Screen.{starting}
use Rattle.terminal_model.specs.Writing.{Size}
use Rattle.emulator.specs.Standing.{IsBetween, Parts, StandsFor, TakesWriting}
use Rattle.rebuild.specs.Rebuilt.{BringsBack}

-- an emulator has read these bytes in order, from whatever terminal it stood for before
abbrev pub TakesAll : Parts → List ℕ → Parts → Type 0
TakesAll old bytes new = (t : Terminal) → StandsFor old t → StandsFor new (reads t bytes).terminal

-- a kept terminal, too, and it is still kept
abbrev pub ReadsAll : Option Parts → List ℕ → Option Parts → Type 0
ReadsAll None bytes new = new ≡ None
ReadsAll (Some e) bytes None = ⊥
ReadsAll (Some e) bytes (Some e') = TakesAll e bytes e'

-- a kept terminal has this size now, as a terminal that is given it
abbrev pub TakesSize : Option Parts → ℕ → ℕ → Option Parts → Type 0
TakesSize None rows columns new = new ≡ None
TakesSize (Some e) rows columns None = ⊥
TakesSize (Some e) rows columns (Some e') = IsGridSize rows columns × TakesWriting e (Size rows columns) e'

-- only a window that stays keeps a terminal, which has read nothing
abbrev pub Begins : Arguments → Option Parts → Type 0
Begins w p = IfSome p
    (λ e. (w.subcommand ≡ Window) × (0 < w.again) × StandsFor e (ready (starting w.rows w.columns w.keep)))

-- no character, sequence or string of a terminal is incomplete
abbrev pub IsWhole : Terminal → Type 0
IsWhole t = (e : Parts) → StandsFor e t → IsBetween e.screen.state.coding e

-- An emulator has read the bytes that end what was incomplete, or all of them if they don't, and no more.
pub record ReadsToEnd (old : Parts) (bytes : List ℕ) (count : ℕ) (new : Parts) : Type 0 where
  pub taken : TakesAll old (take count bytes) new
  pub ended : (count ≡ length bytes) ⊎ IsBetween new.screen.state.coding new
  pub first : (t : Terminal) → StandsFor old t → (n : ℕ) → n < count → IsWhole (reads t (take n bytes)).terminal → ⊥

-- a kept terminal, too
abbrev pub Settles : Option Parts → List ℕ → ℕ → Option Parts → Type 0
Settles None bytes count new = (count ≡ 0) × (new ≡ None)
Settles (Some e) bytes count None = ⊥
Settles (Some e) bytes count (Some e') = ReadsToEnd e bytes count e'

-- The next page begins blank in the size that the kept terminal has, or no terminal is kept any more.
abbrev pub Blanks : Option Parts → Option Parts → Type 0
Blanks None new = new ≡ None
Blanks (Some e) new = IfSome new
    (λ e'. StandsFor e' (ready (starting e.screen.state.rows e.screen.state.columns e.screen.keep)))

-- these bytes bring a kept terminal back, which isn't hidden
abbrev pub TellsPage : Option Parts → Bool → List ℕ → Type 0
TellsPage None is_hidden bytes = ⊥
TellsPage (Some e) true bytes = ⊥
TellsPage (Some e) false bytes = BringsBack e bytes
