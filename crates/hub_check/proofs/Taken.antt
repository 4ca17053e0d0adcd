-- One entry more, after others.
use Rattle.hub_check.proofs.Vocabulary.{◌≡◌, ◌∷◌, [], List, length, refl, Edition, UserId, History, followed_by, Entry}
use Rattle.hub_check.proofs.Vocabulary.{acts_after, AreGood, IsBadAt}
use Rattle.std.proofs.Common.{◌++◌}
use Rattle.hub_trail.specs.Judging.{IsGood}

pub good_next : (edition : Edition) (owner : UserId) (h : History) (es : List Entry) (e : Entry)
    → AreGood edition owner h es → IsGood edition owner (acts_after h es) e
    → AreGood edition owner h (es ++ e ∷ [])
good_next edition owner h [] e all good = (good, tt)
good_next edition owner h (x ∷ es) e all good = (all.0, good_next edition owner (followed_by h x.acts) es e all.1 good)

pub acts_next : (h : History) (es : List Entry) (e : Entry)
    → acts_after h (es ++ e ∷ []) ≡ followed_by (acts_after h es) e.acts
acts_next h [] e = refl
acts_next h (x ∷ es) e = acts_next (followed_by h x.acts) es e

pub bad_next : (edition : Edition) (owner : UserId) (h : History) (es : List Entry) (e : Entry) (more : List Entry)
    → AreGood edition owner h es → (IsGood edition owner (acts_after h es) e → ⊥)
    → IsBadAt edition owner h (es ++ e ∷ more) (length es)
bad_next edition owner h [] e more all bad = bad
bad_next edition owner h (x ∷ es) e more all bad =
    (all.0, bad_next edition owner (followed_by h x.acts) es e more all.1 bad)
