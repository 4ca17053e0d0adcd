-- What a trail is.
use Rattle.std.specs.Prelude.{List, Result}
use Rattle.acl.specs.declared.act.Act.{Act}
use Rattle.acl.specs.declared.leaders.Edition.{Edition}
use Rattle.acl.specs.declared.user_id.UserId.{UserId}
use Rattle.session.specs.refusal.Refusal.{Refusal}
use Rattle.session.specs.refusal.Verdict.{Verdict}
use Rattle.hub_trail.specs.declared.kept.Kept.{Kept}
use Rattle.hub_trail.specs.declared.kept.Finished.{Finished}

-- a reply without its text
abbrev pub Ending : Type 0
Ending = Result Finished Refusal

-- one entry: its event, what was checked, what was done, and what was answered
pub record Entry : Type 0 where
  pub event : Kept
  pub verdicts : List Verdict
  pub acts : List Act
  pub reply : Ending

-- the edition of groups and the owner of a session, and the entries, the oldest first
pub record Trail : Type 0 where
  pub edition : Edition
  pub owner : UserId
  pub entries : List Entry
