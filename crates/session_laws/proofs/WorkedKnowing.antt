-- A fact of each known user follows if it holds of the owner and of each name that became known.
use Rattle.session_laws.proofs.Vocabulary.{◌≡◌, Bool, true, false, List, [], ◌∷◌, Some, None, refl, subst, ◌||◌}
use Rattle.session_laws.proofs.Vocabulary.{if◌then◌else◌, unwrap_or, AllByRecursion, UserId, same_user, History, latest}
use Rattle.session_laws.proofs.Vocabulary.{decides_known, same_user-true}
use Rattle.acl.specs.declared.act.Act.TheVariants as act
use Rattle.acl.specs.History.{is_known}

-- the names that the acts of the history made known
abbrev pub named : History → List UserId
named [] = []
named (act.Known u ∷ h) = u ∷ named h
named (a ∷ h) = named h

module _ (P : UserId → Type 0) (u : UserId) where
  by_known : (v : UserId) (b : Bool) → same_user v u ≡ b → (x : Bool)
      → unwrap_or (if b then Some true else None) x ≡ true → P v → (x ≡ true → P u) → P u
  by_known v true same x is here later = subst P (same_user-true v u same) here
  by_known v false same x is here later = later is

  by_gone : (b : Bool) (x : Bool) → unwrap_or (if b then Some false else None) x ≡ true → (x ≡ true → P u) → P u
  by_gone true x is later = absurd (cc (is))
  by_gone false x is later = later is

  by_acts : (h : History) → AllByRecursion P (named h) → latest (decides_known u) false h ≡ true → P u
  by_acts [] all is = absurd (cc (is))
  by_acts (act.Known v ∷ h) all is = by_known v (same_user v u) refl (latest (decides_known u) false h) is all.0
      (by_acts h all.1)
  by_acts (act.Gone v ∷ h) all is = by_gone (same_user v u) (latest (decides_known u) false h) is (by_acts h all)
  by_acts (a ∷ h) all is = by_acts h all is

  pub each_known : (owner : UserId) (h : History) → P owner → AllByRecursion P (named h) → is_known owner h u ≡ true
      → P u
  each_known owner h own all is = on (same_user owner u) refl is where
    on : (b : Bool) → same_user owner u ≡ b → (b || latest (decides_known u) false h) ≡ true → P u
    on true same known = subst P (same_user-true owner u same) own
    on false same known = by_acts h all known
