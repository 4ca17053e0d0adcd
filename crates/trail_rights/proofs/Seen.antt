-- What is seen of one act more, and of one entry more.
use Rattle.trail_rights.proofs.Vocabulary.{◌≡◌, ◌∙◌, List, [], ◌∷◌, ◌++◌, refl, ap, sym, subst, map, AllByRecursion}
use Rattle.trail_rights.proofs.Vocabulary.{FoldsTo, Act, UserId, followed_by, clients_of, Said, Mark, Decider, Marked}
use Rattle.trail_rights.proofs.Vocabulary.{acts_in, mark_among, marked_after, marked_by, marked_on, entries_in, Settler}
use Rattle.trail_rights.proofs.Vocabulary.{HasDecided, decider_after, sought_by, setting_by, settler_after}
use Rattle.hub.specs.Legal.{acts_after}
use Rattle.trail_rights.specs.Marks.{marked_with, entry_in}
use Rattle.trail_rights.proofs.Decided.{decided_next}

pub all_decided : (owner : UserId) (marked : Marked) (m : Mark) (a : Act) (deciders : List Decider)
    → AllByRecursion (HasDecided owner marked) deciders
    → AllByRecursion (HasDecided owner ((m, a) ∷ marked)) (map (decider_after m a) deciders)
all_decided owner marked m a [] all = tt
all_decided owner marked m a (d ∷ deciders) all =
    (decided_next owner marked d m a all.0, all_decided owner marked m a deciders all.1)

-- ---- what is looked for stays

pub sought_stays : (m : Mark) (a : Act) (deciders : List Decider)
    → map sought_by (map (decider_after m a) deciders) ≡ map sought_by deciders
sought_stays m a [] = refl
sought_stays m a (d ∷ deciders) = ap (λ l. sought_by d ∷ l) (sought_stays m a deciders)

pub settings_stay : (m : Mark) (a : Act) (settlers : List Settler)
    → map setting_by (map (settler_after m a) settlers) ≡ map setting_by settlers
settings_stay m a [] = refl
settings_stay m a (s ∷ settlers) = ap (λ l. setting_by s ∷ l) (settings_stay m a settlers)

-- ---- entries

pub marked_one_more : (marked acts : Marked) (p : Mark × Act)
    → marked_on marked (acts ++ p ∷ []) ≡ p ∷ marked_on marked acts
marked_one_more marked [] p = refl
marked_one_more marked (q ∷ acts) p = marked_one_more (q ∷ marked) acts p

acts_by : (m : Mark) (marked : Marked) (acts : List Act)
    → followed_by (acts_in marked) acts ≡ acts_in (marked_by m marked acts)
acts_by m marked [] = refl
acts_by m marked (a ∷ acts) = acts_by m ((m, a) ∷ marked) acts

pub acts_are : (marked : Marked) (said : List Said)
    → acts_after (acts_in marked) (entries_in said) ≡ acts_in (marked_after marked said)
acts_are marked [] = refl
acts_are marked (x ∷ said) =
    ap (λ h. acts_after h (entries_in said)) (acts_by (mark_among (clients_of (acts_in marked)) x) marked x.2.acts)
    ∙ acts_are (marked_with marked x) said

pub marked_more : (marked : Marked) (said : List Said) (x : Said)
    → marked_after marked (said ++ x ∷ []) ≡ marked_with (marked_after marked said) x
marked_more marked [] x = refl
marked_more marked (y ∷ said) x = marked_more (marked_with marked y) said x

pub entries_more : (said : List Said) (x : Said) → entries_in (said ++ x ∷ []) ≡ entries_in said ++ entry_in x ∷ []
entries_more [] x = refl
entries_more (y ∷ said) x = ap (λ es. entry_in y ∷ es) (entries_more said x)

-- ---- calls

pub folds_more : {F X : Type 0} (R : F → X → F → Type 0) (f : F) (xs : List X) (g : F) (x : X) (h : F)
    → FoldsTo R f xs g → R g x h → FoldsTo R f (xs ++ x ∷ []) h
folds_more R f [] g x h is more = (h, subst (λ z. R z x h) (sym is) more, refl)
folds_more R f (y ∷ xs) g x h is more = (is.0, is.1, folds_more R is.0 xs g x h is.2 more)
