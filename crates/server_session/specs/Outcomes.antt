-- What came of a step for the user who tried it.
use Rattle.std.specs.Prelude.{Bool, true, false, Option, Some, None, Ok, Err}
use Rattle.session.specs.Trace.{Reply}
use Rattle.session.specs.refusal.Refusal.TheVariants.{NoMemory}
use Rattle.server_users.specs.declared.allowance.Outcome.{Outcome}
use Rattle.server_users.specs.declared.allowance.Outcome.TheVariants as outcome

-- of a step that was done, from whether all its checks passed and whether one was for a command
abbrev pub checked : Option Bool → Bool → Outcome
checked None execute = outcome.Unchecked
checked (Some false) execute = outcome.Denied
checked (Some true) true = outcome.Granted
checked (Some true) false = outcome.Typed

-- memory ran out: no step; a step that was refused, or of which a check didn't pass, is denied
abbrev pub outcome_of : Reply → Option Bool → Bool → Outcome
outcome_of (Err NoMemory) checks execute = outcome.Untaken
outcome_of (Err other) checks execute = outcome.Denied
outcome_of (Ok done) checks execute = checked checks execute
