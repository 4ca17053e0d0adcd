-- What actions do to a display.
use Rattle.std.specs.Prelude.{◌≡◌, ℕ, List, []}
use Rattle.terminal_model.specs.declared.action.Action.{Action}
use Rattle.terminal_model.specs.declared.state.State.{State}
use Rattle.terminal_model.specs.Reports.{all_answered}
use Rattle.terminal_model.specs.Table.{all_acted}
use Rattle.vt_screen.specs.declared.screen.Display.{Display}
use Rattle.vt_screen.specs.Displays.{screen_of}
use Rattle.vt_screen.specs.Places.{acted_places, all_acted_places}

-- the display after these actions, in turn, shows the screen after them
abbrev pub ActsByAll : Display → List Action → Display → Type 0
ActsByAll old actions new = screen_of new ≡ all_acted (screen_of old) actions

-- the lines of the page are stored as the change says, and the kept lines are as wide as before
pub record MovesLines (old : Display) (change : State → List ℕ → List ℕ) (new : Display) : Type 0 where
  pub width : new.ring.columns ≡ old.ring.columns
  pub places : new.page.places ≡ change old.state old.page.places

-- each line of the page is stored where it was, and the kept lines are as wide as before
pub record KeepsLines (old new : Display) : Type 0 where
  pub width : new.ring.columns ≡ old.ring.columns
  pub places : new.page.places ≡ old.page.places

-- the places changed as the action says; as the actions say, in turn
abbrev pub MovesLinesBy : Display → Action → Display → Type 0
MovesLinesBy old action new = new.page.places ≡ acted_places old.state action old.page.places

abbrev pub MovesLinesByAll : Display → List Action → Display → Type 0
MovesLinesByAll old actions new =
    new.page.places ≡ all_acted_places (screen_of old) actions old.page.places
