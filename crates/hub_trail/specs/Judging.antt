-- What tables of rights and locks can judge: an entry whose acts may come after those before it,
-- and whose verdicts are on objects that are there. Tables have no rows for anything else.
use Rattle.std.specs.Prelude.{ℕ, zero, suc, Bool, true, ◌≡◌, List, [], ◌∷◌}
use Rattle.std.specs.List.{AllByRecursion}
use Rattle.acl.specs.declared.leaders.Edition.{Edition}
use Rattle.acl.specs.declared.user_id.UserId.{UserId}
use Rattle.acl.specs.History.{History, followed_by, there}
use Rattle.rights.specs.Acts.{CanFollow}
use Rattle.session.specs.refusal.Verdict.{Verdict}
use Rattle.session.specs.refusal.Verdict.TheVariants.{Right as right, Lock as lock}
use Rattle.hub_trail.specs.Trails.{Entry}
use Rattle.hub_trail.specs.Legal.{IsLegalEntry}

-- the verdict is on an object that is there
abbrev pub is_on_there : History → Verdict → Bool
is_on_there h (right user bit object answer) = there h object
is_on_there h (lock user window held) = true

-- an entry for which tables have all rows
pub record IsJudgeable (edition : Edition) (owner : UserId) (h : History) (e : Entry)
    : Type 0 where
  pub there : AllByRecursion (λ v. is_on_there h v ≡ true) e.verdicts
  pub follow : CanFollow edition owner h e.acts

-- each of these entries can be judged after the acts of those before it
abbrev pub AreJudgeable : Edition → UserId → History → List Entry → Type 0
AreJudgeable edition owner h [] = Unit {0}
AreJudgeable edition owner h (e ∷ entries) =
    IsJudgeable edition owner h e × AreJudgeable edition owner (followed_by h e.acts) entries

-- ---- what a judge answers

-- an entry that tables can judge, and that is legal
pub record IsGood (edition : Edition) (owner : UserId) (h : History) (e : Entry) : Type 0 where
  pub judgeable : IsJudgeable edition owner h e
  pub legal : IsLegalEntry edition owner h e

abbrev pub AreGood : Edition → UserId → History → List Entry → Type 0
AreGood edition owner h [] = Unit {0}
AreGood edition owner h (e ∷ entries) =
    IsGood edition owner h e × AreGood edition owner (followed_by h e.acts) entries

-- this is the place of the first entry that isn't good
abbrev pub IsBadAt : Edition → UserId → History → List Entry → ℕ → Type 0
IsBadAt edition owner h [] place = ⊥
IsBadAt edition owner h (e ∷ entries) zero = IsGood edition owner h e → ⊥
IsBadAt edition owner h (e ∷ entries) (suc place) =
    IsGood edition owner h e × IsBadAt edition owner (followed_by h e.acts) entries place

-- this is the place of the first entry that isn't legal
abbrev pub IsIllegalAt : Edition → UserId → History → List Entry → ℕ → Type 0
IsIllegalAt edition owner h [] place = ⊥
IsIllegalAt edition owner h (e ∷ entries) zero = IsLegalEntry edition owner h e → ⊥
IsIllegalAt edition owner h (e ∷ entries) (suc place) =
    IsLegalEntry edition owner h e
    × IsIllegalAt edition owner (followed_by h e.acts) entries place
