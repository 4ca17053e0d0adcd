-- Who is among the users that are known after a list of names.
use Rattle.acl.proofs.Vocabulary.{◌≡◌, ◌∙◌, ap, sym, refl, Bool, true, false, ◌||◌, List, [], ◌∷◌, ◌++◌, Option, Some}
use Rattle.acl.proofs.Vocabulary.{None, if◌then◌else◌, ℕ, ◌+◌, ◌<◌, take, length, slice_index_or, add-one, list_any}
use Rattle.acl.proofs.Vocabulary.{list_any-append, same_user, among, with_name, with_names, names_user, UserId}
use Rattle.std.proofs.Math.Seq.{take-suc}
use Rattle.acl.proofs.StandsForLemmas.{same_user-true}

or-false : (c : Bool) → (c || false) ≡ c
or-false true = refl
or-false false = refl

or-assoc : (a b c : Bool) → ((a || b) || c) ≡ (a || (b || c))
or-assoc true b c = refl
or-assoc false b c = refl

-- who is among the users after one more name
pub among-with_name : (users : List UserId) (name : Option UserId) (u : UserId)
    → among (with_name users name) u ≡ (among users u || names_user u name)
among-with_name users None u = sym (or-false (among users u))
among-with_name users (Some v) u = by (among users v) refl
  where
    there : (c : Bool) → same_user u v ≡ c → among users v ≡ true → among users u ≡ (among users u || c)
    there true e k = ap (among users) (same_user-true u v e) ∙ k ∙ sym (with_true (among users u))
      where
        with_true : (d : Bool) → (d || true) ≡ true
        with_true true = refl
        with_true false = refl
    there false e k = sym (or-false (among users u))

    by : (c : Bool) → among users v ≡ c
        → among (if c then users else users ++ v ∷ []) u ≡ (among users u || same_user u v)
    by true k = there (same_user u v) refl k
    by false k = list_any-append (same_user u) users (v ∷ []) ∙ ap (λ c. among users u || c) (or-false (same_user u v))

-- who is among the users after a list of names
pub among-with_names : (users : List UserId) (names : List (Option UserId)) (u : UserId)
    → among (with_names users names) u ≡ (among users u || list_any (names_user u) names)
among-with_names users [] u = sym (or-false (among users u))
among-with_names users (name ∷ names) u =
    among-with_names (with_name users name) names u
    ∙ ap (λ c. c || list_any (names_user u) names) (among-with_name users name u)
    ∙ or-assoc (among users u) (names_user u name) (list_any (names_user u) names)

-- adding the users of a longer list of names is adding those of its last name last
pub with_names-push : (users : List UserId) (names : List (Option UserId)) (name : Option UserId)
    → with_names users (names ++ name ∷ []) ≡ with_name (with_names users names) name
with_names-push users [] name = refl
with_names-push users (n ∷ names) name = with_names-push (with_name users n) names name

pub with_names-next : (users : List UserId) (names : List (Option UserId)) (i : ℕ) → i < length names
    → with_names users (take (i + 1) names) ≡ with_name (with_names users (take i names)) (slice_index_or names i None)
with_names-next users names i below =
    ap (with_names users) (ap (λ k. take k names) (add-one i) ∙ take-suc names i None below)
    ∙ with_names-push users (take i names) (slice_index_or names i None)
