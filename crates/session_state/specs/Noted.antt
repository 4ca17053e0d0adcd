-- What is noted of a step.
use Rattle.std.specs.Prelude.{List, []}
use Rattle.acl.specs.declared.act.Act.{Act}
use Rattle.session_model.specs.declared.refusal.Verdict.{Verdict}

-- its acts and its verdicts, in their order
pub record Noted : Type 0 where
  pub acts : List Act
  pub verdicts : List Verdict

abbrev pub nothing : Noted
nothing = record { acts = []; verdicts = [] }
