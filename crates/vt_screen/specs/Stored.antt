-- A screen, and the places where its lines are stored.
use Rattle.std.specs.Prelude.{◌≡◌, ℕ, Bool, false, IsTrue, List, []}
use Rattle.control_parser.specs.declared.parser.Func.{Func}
use Rattle.terminal_model.specs.declared.action.Action.{Action}
use Rattle.terminal_model.specs.Screen.{Screen}
use Rattle.terminal_model.specs.Functions.{actions_of}
use Rattle.terminal_model.specs.Reports.{all_answered}
use Rattle.terminal_model.specs.Table.{all_acted}
use Rattle.vt_screen.specs.Places.{all_acted_places}

-- a screen, and for each line of its page the number of its stored line
pub record Stored : Type 0 where
  pub screen : Screen
  pub places : List ℕ

-- the places after a control function: those of the lines that it scrolls are rotated, and no other
-- line moves
abbrev pub effect_places : Screen → Func → List ℕ → List ℕ
effect_places x f places = all_acted_places x (actions_of f) places

-- the screen has performed these actions, in turn, none of which is answered
pub record Performs (old : Stored) (actions : List Action) (new : Stored) : Type 0 where
  pub screen : new.screen ≡ all_acted old.screen actions
  pub places : new.places ≡ all_acted_places old.screen actions old.places
  pub silent : all_answered old.screen actions ≡ []

-- the screen has performed these actions, in turn, and this is their answer
pub record Answers (old : Stored) (actions : List Action) (report : List ℕ) (new : Stored) : Type 0 where
  pub screen : new.screen ≡ all_acted old.screen actions
  pub places : new.places ≡ all_acted_places old.screen actions old.places
  pub answered : report ≡ all_answered old.screen actions

-- it has performed them if it says so; else it is as before
pub record PerformsIf (is_done : Bool) (old : Stored) (actions : List Action) (new : Stored)
    : Type 0 where
  pub performed : IsTrue is_done → Performs old actions new
  pub undone : is_done ≡ false → new ≡ old
