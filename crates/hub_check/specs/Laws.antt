-- Good entries, and legal ones.
use Rattle.std.specs.Prelude.{ℕ, List}
use Rattle.acl.specs.declared.leaders.Edition.{Edition}
use Rattle.acl.specs.declared.user_id.UserId.{UserId}
use Rattle.acl.specs.History.{History}
use Rattle.hub_trail.specs.Trails.{Entry}
use Rattle.hub_trail.specs.Legal.{AreLegal}
use Rattle.hub_trail.specs.Judging.{AreJudgeable, AreGood, IsBadAt, IsIllegalAt}

abbrev pub GoodIsLegal : Type 0
GoodIsLegal =
    (edition : Edition) (owner : UserId) (h : History) (entries : List Entry)
    → AreGood edition owner h entries → AreLegal edition owner h entries

abbrev pub LegalIsGood : Type 0
LegalIsGood =
    (edition : Edition) (owner : UserId) (h : History) (entries : List Entry)
    → AreJudgeable edition owner h entries → AreLegal edition owner h entries
    → AreGood edition owner h entries

abbrev pub BadIsIllegal : Type 0
BadIsIllegal =
    (edition : Edition) (owner : UserId) (h : History) (entries : List Entry) (place : ℕ)
    → AreJudgeable edition owner h entries → IsBadAt edition owner h entries place
    → IsIllegalAt edition owner h entries place

abbrev pub GoodIsNotBad : Type 0
GoodIsNotBad =
    (edition : Edition) (owner : UserId) (h : History) (entries : List Entry) (place : ℕ)
    → AreGood edition owner h entries → IsBadAt edition owner h entries place → ⊥
