-- What a judge stands for that has taken entries, one after another.
use Rattle.std.specs.Prelude.{Bool, true, false, ◌≡◌, List, [], ◌∷◌, ◌++◌, length}
use Rattle.acl.specs.declared.leaders.Edition.{Edition}
use Rattle.acl.specs.declared.user_id.UserId.{UserId}
use Rattle.hub_trail.specs.Trails.{Entry}
use Rattle.hub_trail.specs.Legal.{acts_after}
use Rattle.hub_trail.specs.Judging.{AreGood, IsBadAt}
use Rattle.rights.specs.Following.{StandsAfter}
use Rattle.hub_check.specs.declared.judge.Judge.{Judge}

-- these entries were taken, and all are good
pub record HasJudged (judge : Judge) (edition : Edition) (owner : UserId) (entries : List Entry)
    : Type 0 where
  pub owner_is : judge.owner ≡ owner
  pub good : AreGood edition owner [] entries
  pub stands : StandsAfter judge.rights edition owner (acts_after [] entries)

-- the next entry is good too, or it is the first one that isn't, whatever entries follow it
abbrev pub Judges : Bool → Judge → Judge → Entry → Type 0
Judges good old new e =
    (edition : Edition) (owner : UserId) (entries : List Entry)
    → HasJudged old edition owner entries
    → (good ≡ true → HasJudged new edition owner (entries ++ e ∷ []))
    × (good ≡ false
    → (more : List Entry) → IsBadAt edition owner [] (entries ++ e ∷ more) (length entries))
