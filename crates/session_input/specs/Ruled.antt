-- Commands that were ruled on.
use Rattle.std.specs.Prelude.{ℕ, ◌≡◌, ◌⊎◌, ◌++◌, true, List, Option, Result, Ok, Err, IfOk}
use Rattle.std.specs.Option.{is_some}
use Rattle.command_lang.specs.declared.command.Command.{Command}
use Rattle.session_model.specs.declared.refusal.Refusal.{Refusal}
use Rattle.session_model.specs.declared.refusal.Refusal.TheVariants.{NoMemory}
use Rattle.session_model.specs.Tables.{Tables}
use Rattle.session_model.specs.Commands.{Ruling, ruling}
use Rattle.session_state.specs.declared.state.Caller.{Caller}
use Rattle.session_state.specs.declared.state.Step.{Step}
use Rattle.session_state.specs.declared.state.State.{State}
use Rattle.session_state.specs.Stands.{Stands}
use Rattle.session_model.specs.Sound.{AreFit}
use Rattle.session_state.specs.Doing.{Answers, Does, IsAsBefore, caller_in}
use Rattle.session_commands.specs.declared.giver.Context.{Context}
use Rattle.session_commands.specs.Contexts.{IsWhole}

-- a command answers as its row says; one that lists changes nothing
abbrev pub Acts : Caller → Command → Context → Result (Option (List ℕ)) Refusal → Context → Type 0
Acts k c old result new =
    IsWhole old result new
    × IfOk result (λ text. is_some text ≡ true
    → IsAsBefore old.state.now new.state.now old.made.now new.made.now)
    × Does k c old.state.now result new.state.now old.made.now new.made.now

-- its deed was done, or it was refused, and its verdicts were noted; or memory was refused
abbrev pub Ruled : Tables → Ruling → Result (Option (List ℕ)) Refusal →
    State → Step → Step → Type 0
Ruled t r (Ok lists) new before after =
    Answers t r.answer (Ok lists) new before.made after.made
    × (after.verdicts.items ≡ before.verdicts.items ++ r.verdicts)
Ruled t r (Err e) new before after =
    (e ≡ NoMemory)
    ⊎ ((r.answer ≡ Err e) × (after.verdicts.items ≡ before.verdicts.items ++ r.verdicts))

-- so it was for all tables that the state stood for
abbrev pub Rules : Caller → Command → State → Result (Option (List ℕ)) Refusal →
    State → Step → Step → Type 0
Rules k c old result new before after =
    (t : Tables) → Stands t old → AreFit t
    → Ruled t (ruling t (caller_in t k) c) result new before after
