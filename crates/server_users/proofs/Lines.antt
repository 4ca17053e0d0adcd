-- A file's lines, one after another.
use Rattle.server_users.proofs.Vocabulary.{◌≡◌, ℕ, zero, suc, ◌+◌, ◌<◌, List, [], ◌∷◌, ◌++◌, length, refl, sym, ◌∙◌, ap}
use Rattle.server_users.proofs.Vocabulary.{subst, ◌⊎◌, inl, inr, ⊎_elim, arith, User, names, entry_of, entries_of}
use Rattle.std.proofs.Common.{drop, append_assoc, length-append, length-drop}
use Rattle.std.specs.List.{Contains}
use Rattle.std.proofs.lemmas.List.{append-nil, map-append}
use Rattle.std.proofs.lemmas.Grind.{flat_map-append}
use Rattle.std.proofs.lemmas.List.Elements.{Contains-push_cases, Contains-append_right, All-append, All-cons, All-nil}
use Rattle.server_users.specs.Entries.{Entry, IsUser, AreUsers, HaveOwnNames, spelled, text, IsFileOf, EndsLine, IsLine}
use Rattle.server_users.specs.Entries.{BreaksAt}
use Rattle.server_users.proofs.Spelled.{one_name}

-- what was read: a line for each user, or the whole file if it lacks the last line feed
pub record HaveRead (us : List Entry) (file rest : List ℕ) : Type 0 where
  pub users : AreUsers us
  pub lines : (file ≡ text us ++ rest) ⊎ ((rest ≡ []) × (file ++ 0x0A ∷ [] ≡ text us))

pub nothing_has : (x : List ℕ) → Contains [] x → ⊥
nothing_has x w = omega (arith, w.1)

pub at_head : (x y : List ℕ) (xs : List (List ℕ)) → x ≡ y → Contains (x ∷ xs) y
at_head x y xs e = (0, omega arith, e)

own_push : (us : List Entry) (u : Entry) → HaveOwnNames us → (Contains (names us) u.name → ⊥)
    → HaveOwnNames (us ++ u ∷ [])
own_push [] u h n = (nothing_has u.name, tt)
own_push (v ∷ us) u h n = (
  (λ w. ⊎_elim h.0 (λ e. n (at_head v.name u.name (names us) (sym e)))
      (Contains-push_cases (names us) u.name v.name (subst (λ ns. Contains ns v.name) (map-append
      (λ (e : Entry). e.name) us (u ∷ [])) w))),
  own_push us u h.1 (λ w. n (Contains-append_right (v.name ∷ []) (names us) u.name w)),
)

users_push : (us : List Entry) (u : Entry) → AreUsers us → IsUser u → (Contains (names us) u.name
    → ⊥) → AreUsers (us ++ u ∷ [])
users_push us u are is n = record {
  each = All-append IsUser us (u ∷ []) are.each (All-cons IsUser u [] is (All-nil IsUser));
  once = own_push us u are.once n;
}

text_push : (us : List Entry) (u : Entry)
    → text (us ++ u ∷ []) ≡ text us ++ (spelled u ++ 0x0A ∷ [])
text_push us u = flat_map-append (λ (e : Entry). spelled e ++ 0x0A ∷ []) us (u ∷ [])
    ∙ ap (λ l. text us ++ l) (append-nil (spelled u ++ 0x0A ∷ []))

-- a line is read: the text after it is the rest
read_line : (us : List Entry) (u : Entry) (file rest line more : List ℕ)
    → (file ≡ text us ++ rest) ⊎ ((rest ≡ []) × (file ++ 0x0A ∷ [] ≡ text us))
    → rest ≡ line ++ more → spelled u ≡ line → EndsLine more
    → (file ≡ text (us ++ u ∷ []) ++ drop 1 more) ⊎ ((drop 1 more ≡ []) × (file ++ 0x0A ∷ [] ≡ text
    (us ++ u ∷ [])))
read_line us u file rest line [] (inl e) r s f =
    inr (
      refl,
      ap (λ l. l ++ 0x0A ∷ []) (e ∙ ap (λ l. text us ++ l) (r ∙ (append-nil line ∙ sym s)))
          ∙ (append_assoc (text us) (spelled u) (0x0A ∷ []) ∙ sym (text_push us u)),
    )
read_line us u file rest line (b ∷ more) (inl e) r s f =
    inl (e
    ∙ (ap (λ l. text us ++ l)
    (r ∙ (ap (λ l. l ++ b ∷ more) (sym s) ∙ (ap (λ x. spelled u ++ x ∷ more) f
    ∙ sym (append_assoc (spelled u) (0x0A ∷ []) more))))
    ∙ (sym (append_assoc (text us) (spelled u ++ 0x0A ∷ []) more)
    ∙ ap (λ l. l ++ more) (sym (text_push us u)))))
read_line us u file rest line more (inr w) r s f =
    absurd (omega (
      arith,
      ap length r,
      ap length w.0,
      ap length s,
      length-append line more,
      length-append u.name (0x20 ∷ u.token),
    ))

pub push : (us : List Entry) (u : Entry) (file rest line more : List ℕ) → HaveRead us file rest
    → IsUser u → (Contains (names us) u.name → ⊥)
    → rest ≡ line ++ more → spelled u ≡ line → EndsLine more
    → HaveRead (us ++ u ∷ []) file (drop 1 more)
push us u file rest line more h is n r s f = record {
  users = users_push us u h.users is n;
  lines =
      read_line us u file rest line more h.lines r s f;
}

pub begin : (file : List ℕ) → HaveRead [] file file
begin file = record { users = record { each = All-nil IsUser; once = tt }; lines = inl refl }

pub shorter : (u : Entry) (rest line more : List ℕ) → rest ≡ line ++ more → spelled u ≡ line
    → length (drop 1 more) < length rest
shorter u rest line more r s = omega (
  arith,
  ap length r,
  ap length s,
  length-append line more,
  length-append u.name
      (0x20 ∷ u.token),
  length-drop 1 more,
)

empty : (xs : List ℕ) → length xs ≡ 0 → xs ≡ []
empty [] e = refl
empty (x ∷ xs) e = absurd (omega (arith, e))

pub finish : (us : List Entry) (file rest : List ℕ) → HaveRead us file rest → length rest ≡ 0
    → 0 < length us → IsFileOf us file
finish us file rest h none some = record {
  some = some;
  lines = ⊎_elim (λ e. inl (e
      ∙ (ap (λ l. text us ++ l) (empty rest none) ∙ append-nil (text us)))) (λ w. inr w.1) h.lines;
}

no_feed_alone : (file : List ℕ) → file ++ 0x0A ∷ [] ≡ [] → ⊥
no_feed_alone file e = omega (arith, ap length e, length-append file (0x0A ∷ []))

pub stop : (us : List Entry) (file rest line more : List ℕ) → HaveRead us file rest
    → ((0 < length rest) ⊎ (us ≡ [])) → rest ≡ line ++ more → IsLine line → EndsLine more
    → ((u : Entry) → IsUser u → (Contains (names us) u.name → ⊥) → spelled u ≡ line → ⊥)
    → BreaksAt file (length us + 1)
stop us file rest line more h some r is f wrong = record {
  earlier = us;
  line = line;
  more = more;
  users = h.users;
  number = refl;
  begins = ⊎_elim (λ e. e ∙ ap (λ l. text us ++ l) r)
      (λ w. absurd (⊎_elim (λ lt. omega (arith, lt, ap length w.0)) (λ e. no_feed_alone file (w.1
      ∙ ap text e)) some))
      h.lines;
  is_line = is;
  ends = f;
  stands = ⊎_elim (λ lt. inl (subst (λ l. 0 < length l) r lt)) (λ e. inr e) some;
  wrong = wrong;
}

-- the reading stops at a line whose name is on an earlier line
pub stop_twice : (us : List Entry) (u : Entry) (file rest line more : List ℕ)
    → HaveRead us file rest → ((0 < length rest) ⊎ (us ≡ [])) → rest ≡ line ++ more → IsLine line
    → EndsLine more
    → IsUser u → spelled u ≡ line → Contains (names us) u.name → BreaksAt file (length us + 1)
stop_twice us u file rest line more h some r is f user s has =
    stop us file rest line more h some r is f (λ v too new e. new (subst (Contains (names us))
    (one_name u v user too (s ∙ sym e)) has))

pub no_users : (us : List User) → length us ≡ 0 → entries_of us ≡ []
no_users [] e = refl
no_users (u ∷ us) e = absurd (omega (arith, e))

pub push_entry : (us : List User) (u : User)
    → entries_of (us ++ u ∷ []) ≡ entries_of us ++ entry_of u ∷ []
push_entry us u = map-append entry_of us (u ∷ [])

pub some_of : (n : ℕ) → (n ≡ 0 → ⊥) → 0 < n
some_of zero h = absurd (h refl)
some_of (suc n) h = omega arith
