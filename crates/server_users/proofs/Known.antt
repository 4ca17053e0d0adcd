-- The names on the lines that were read.
use Rattle.server_users.proofs.Vocabulary.{◌≡◌, ℕ, zero, suc, ◌<◌, ◌++◌, ◌⊎◌, inl, inr, ⊎_elim, Bool, true, false, List}
use Rattle.server_users.proofs.Vocabulary.{[], ◌∷◌, length, get_or, map, refl, sym, ap, ◌∙◌, subst, arith, Some}
use Rattle.server_users.proofs.Vocabulary.{if◌then◌else◌, false≢true, name_of, same_user, UserId, same_user-true}
use Rattle.server_users.proofs.Vocabulary.{same_user-refl, User, names, entries_of}
use Rattle.std.proofs.Common.{not, ◌||◌}
use Rattle.std.specs.Prelude.{All}
use Rattle.std.specs.List.{Contains, list_any}
use Rattle.std.proofs.lemmas.List.{map-append}
use Rattle.std.proofs.lemmas.List.Elements.{Contains-append_right, All-push, All-head, All-tail}
use Rattle.indexmap.specs.IndexSet.{insert_key}
use Rattle.acl.specs.Names.{named_by}
use Rattle.server_users.specs.Stands.{IsNamed}
use Rattle.server_users.proofs.Lines.{at_head, nothing_has}

abbrev pub ids : List User → List UserId
ids us = map (λ (u : User). u.id) us

-- the keys are those users
pub record HasSeen (keys : List UserId) (us : List User) : Type 0 where
  pub users : keys ≡ ids us
  pub named : All IsNamed keys

-- ---- tests

or_right : (a b : Bool) → (a || b) ≡ true → a ≡ false → b ≡ true
or_right true b h e = absurd (false≢true (sym e))
or_right false b h e = h

or_here : (a b : Bool) → a ≡ true → (a || b) ≡ true
or_here true b e = refl
or_here false b e = absurd (false≢true e)

or_there : (a b : Bool) → b ≡ true → (a || b) ≡ true
or_there true b e = refl
or_there false b e = e

not_false : (b r : Bool) → r ≡ not b → r ≡ false → b ≡ true
not_false true r a e = refl
not_false false r a e = absurd (false≢true (sym e ∙ a))

not_true : (b r : Bool) → r ≡ not b → r ≡ true → b ≡ false
not_true true r a e = absurd (false≢true (sym a ∙ e))
not_true false r a e = refl

-- ---- users by their names

same_name : (u k : UserId) → IsNamed u → IsNamed k → name_of u ≡ name_of k → u ≡ k
same_name u k a b e = let both : Some u ≡ Some k = sym a ∙ (ap named_by e ∙ b) in cc (both)

in_list : (us : List User) (k : UserId) → list_any (same_user k) (ids us) ≡ true
    → Contains (names (entries_of us)) (name_of k)
in_list [] k h = absurd (false≢true h)
in_list (u ∷ us) k h =
    by (same_user k u.id) refl
    (λ e. in_list us k (or_right (same_user k u.id) (list_any (same_user k) (ids us)) h e))
  where
    by : (b : Bool) → same_user k u.id ≡ b
        → (same_user k u.id ≡ false → Contains (names (entries_of us)) (name_of k))
        → Contains (names (entries_of (u ∷ us))) (name_of k)
    by true e later = at_head (name_of u.id) (name_of k) (names (entries_of us))
        (ap name_of (sym (same_user-true k u.id e)))
    by false e later =
        Contains-append_right (name_of u.id ∷ []) (names (entries_of us)) (name_of k) (later e)

cons_cases : (n m : List ℕ) (ns : List (List ℕ)) (i : ℕ) → i < length (n ∷ ns) → get_or (n ∷ ns) i m ≡ m
    → (n ≡ m) ⊎ Contains ns m
cons_cases n m ns zero l e = inl e
cons_cases n m ns (suc i) l e = inr (i, omega arith, e)

is_this : (u k : UserId) → IsNamed u → IsNamed k → name_of u ≡ name_of k → same_user k u ≡ true
is_this u k a b e = subst (λ (v : UserId). same_user k v ≡ true) (sym (same_name u k a b e)) (same_user-refl k)

has_user : (us : List User) (k : UserId) → IsNamed k → All IsNamed (ids us)
    → Contains (names (entries_of us)) (name_of k) → list_any (same_user k) (ids us) ≡ true
has_user [] k named all w = absurd (nothing_has (name_of k) w)
has_user (u ∷ us) k named all w =
    ⊎_elim
    (λ e. or_here (same_user k u.id) (list_any (same_user k) (ids us))
    (is_this u.id k (All-head IsNamed u.id (ids us) all) named e))
    (λ v. or_there (same_user k u.id) (list_any (same_user k) (ids us))
    (has_user us k named (All-tail IsNamed u.id (ids us) all) v))
    (cons_cases (name_of u.id) (name_of k) (names (entries_of us)) w.0 w.1 w.2)

-- ---- the set of those that were seen

-- a name that isn't new is on an earlier line
pub was_seen : (keys : List UserId) (us : List User) (k : UserId) (new : Bool) → HasSeen keys us
    → new ≡ not (list_any (same_user k) keys) → new ≡ false → Contains (names (entries_of us)) (name_of k)
was_seen keys us k new seen answer e =
    in_list us k (subst (λ (ks : List UserId). list_any (same_user k) ks ≡ true) seen.users
    (not_false (list_any (same_user k) keys) new answer e))

-- a new one isn't
pub not_seen : (keys : List UserId) (us : List User) (k : UserId) (new : Bool) → HasSeen keys us
    → new ≡ not (list_any (same_user k) keys) → new ≡ true → IsNamed k
    → Contains (names (entries_of us)) (name_of k) → ⊥
not_seen keys us k new seen answer e named w =
    let has : list_any (same_user k) keys ≡ true = subst (λ (ks : List UserId). list_any (same_user k) ks ≡ true)
    (sym seen.users) (has_user us k named (subst (All IsNamed) seen.users seen.named) w) in
    false≢true (sym (not_true (list_any (same_user k) keys) new answer e) ∙ has)

with_key : (keys : List UserId) (k : UserId) → list_any (same_user k) keys ≡ false
    → insert_key same_user keys k ≡ keys ++ k ∷ []
with_key keys k fresh = ap (λ (b : Bool). if b then keys else keys ++ k ∷ []) fresh

pub push_seen : (keys more : List UserId) (us : List User) (u : User) (new : Bool) → HasSeen keys us
    → new ≡ not (list_any (same_user u.id) keys) → new ≡ true → IsNamed u.id
    → more ≡ insert_key same_user keys u.id → HasSeen more (us ++ u ∷ [])
push_seen keys more us u new seen answer e named is =
    let pushed : more ≡ keys ++ u.id ∷ [] = is
    ∙ with_key keys u.id (not_true (list_any (same_user u.id) keys) new answer e) in record {
      users = pushed ∙ (ap (λ (ks : List UserId). ks ++ u.id ∷ []) seen.users
          ∙ sym (map-append (λ (v : User). v.id) us (u ∷ [])));
      named = subst (All IsNamed) (sym pushed) (All-push IsNamed keys u.id seen.named named);
    }
