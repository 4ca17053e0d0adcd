-- Facts that hold for all elements of a list, or for some.
use Rattle.std.proofs.Common.{◌≡◌, ◌<◌, ℕ, Bool, true, false, List, [], ◌∷◌, ◌++◌, Some, refl, ap, sym, ◌∙◌, arith, map}
use Rattle.std.proofs.Common.{subst, filter, inl, inr, ⊎_elim}
use Rattle.std.specs.Prelude.{◌⊎◌, if◌then◌else◌, ◌==◌, ◌&&◌}
use Rattle.std.specs.List.{AllByRecursion}
use Rattle.std.proofs.lemmas.Bool.Decides.{nat_tests}
use Rattle.session_model.specs.Promises.{SomeOf}
use Rattle.session_model.specs.Sound.{Rises}
use Rattle.session_model.specs.Tables.{row_of, with_row}

-- ---- tests

pub equal : (m n : ℕ) → (m == n) ≡ true → m ≡ n
equal m n is = grind (arith, nat_tests, is)

pub itself : (n : ℕ) → (n == n) ≡ true
itself n = grind (arith, nat_tests)

pub other_way : (m n : ℕ) → (m == n) ≡ false → (n == m) ≡ false
other_way m n is = grind (arith, nat_tests, is)

pub not_so : (b : Bool) → (b ≡ true → ⊥) → b ≡ false
not_so true on = absurd (on refl)
not_so false on = refl

pub and_first : (a b : Bool) → (a && b) ≡ true → a ≡ true
and_first true b is = refl
and_first false b is = absurd (cc (is))

pub and_second : (a b : Bool) → (a && b) ≡ true → b ≡ true
and_second true b is = is
and_second false b is = absurd (cc (is))

pub both_true : (a b : Bool) → a ≡ true → b ≡ true → (a && b) ≡ true
both_true true b p q = q
both_true false b p q = p

pub contradicts : {P : Type 0} (b : Bool) → b ≡ true → b ≡ false → P
contradicts true is not = absurd (cc (not))
contradicts false is not = absurd (cc (is))

-- ---- all

pub all_of : {A : Type 0} (P : A → Type 0) (xs : List A) → ((x : A) → P x) → AllByRecursion P xs
all_of P [] on = tt
all_of P (x ∷ xs) on = (on x, all_of P xs on)

pub all_weaken : {A : Type 0} (P Q : A → Type 0) (xs : List A) → ((x : A) → P x → Q x) → AllByRecursion P xs
    → AllByRecursion Q xs
all_weaken P Q [] on all = tt
all_weaken P Q (x ∷ xs) on all = (on x all.0, all_weaken P Q xs on all.1)

pub all_append : {A : Type 0} (P : A → Type 0) (xs ys : List A) → AllByRecursion P xs → AllByRecursion P ys
    → AllByRecursion P (xs ++ ys)
all_append P [] ys p q = q
all_append P (x ∷ xs) ys p q = (p.0, all_append P xs ys p.1 q)

pub all_map : {A B : Type 0} (P : B → Type 0) (f : A → B) (xs : List A) → AllByRecursion (λ x. P (f x)) xs
    → AllByRecursion P (map f xs)
all_map P f [] all = tt
all_map P f (x ∷ xs) all = (all.0, all_map P f xs all.1)

pub all_filter : {A : Type 0} (P : A → Type 0) (p : A → Bool) (xs : List A) → AllByRecursion P xs
    → AllByRecursion P (filter p xs)
all_filter P p [] all = tt
all_filter P p (x ∷ xs) all = on (p x) all.0 (all_filter P p xs all.1) where
  on : (b : Bool) → P x → AllByRecursion P (filter p xs) → AllByRecursion P (if b then x ∷ filter p xs else filter p xs)
  on true here rest = (here, rest)
  on false here rest = rest

-- the elements that a test lets pass, pass it
pub all_passed : {A : Type 0} (P : A → Type 0) (p : A → Bool) (xs : List A) → AllByRecursion (λ x. p x ≡ true → P x) xs
    → AllByRecursion P (filter p xs)
all_passed P p [] all = tt
all_passed P p (x ∷ xs) all = on (p x) all.0 (all_passed P p xs all.1) where
  on : (b : Bool) → (b ≡ true → P x) → AllByRecursion P (filter p xs)
      → AllByRecursion P (if b then x ∷ filter p xs else filter p xs)
  on true here rest = (here refl, rest)
  on false here rest = rest

-- what holds of all that is made of the elements that a test lets pass
pub all_made : {A B : Type 0} (P : B → Type 0) (f : A → B) (p : A → Bool) (xs : List A)
    → ((x : A) → p x ≡ true → P (f x)) → AllByRecursion P (map f (filter p xs))
all_made P f p xs on = all_map P f (filter p xs)
    (all_passed (λ x. P (f x)) p xs (all_of (λ x. p x ≡ true → P (f x)) xs on))

pub filter_all : {A : Type 0} (xs : List A) → filter (λ x. true) xs ≡ xs
filter_all [] = refl
filter_all (x ∷ xs) = ap (λ ys. x ∷ ys) (filter_all xs)

-- ---- some

pub some_weaken : {A : Type 0} (P Q : A → Type 0) (xs : List A) → ((x : A) → P x → Q x) → SomeOf P xs → SomeOf Q xs
some_weaken P Q [] on some = some
some_weaken P Q (x ∷ xs) on some = ⊎_elim (λ (here : P x). inl (on x here)) (λ later. inr (some_weaken P Q xs on later))
    some

-- what follows from each element that has P, follows if some element has it
pub some_gives : {A : Type 0} (P : A → Type 0) (C : Type 0) (xs : List A) → ((x : A) → P x → C) → SomeOf P xs → C
some_gives P C [] on some = absurd some
some_gives P C (x ∷ xs) on some = ⊎_elim (λ (here : P x). on x here) (λ later. some_gives P C xs on later) some

pub some_elim : {A : Type 0} (P Q : A → Type 0) (R : Type 0) (xs : List A) → ((x : A) → P x → Q x → R) → SomeOf P xs
    → AllByRecursion Q xs → R
some_elim P Q R [] on some all = absurd some
some_elim P Q R (x ∷ xs) on some all = ⊎_elim (λ (here : P x). on x here all.0)
    (λ later. some_elim P Q R xs on later all.1) some

-- if each element with P gives C or Q, and some has P, then C holds, or some has Q
pub some_or : {A : Type 0} (P Q : A → Type 0) (C : Type 0) (xs : List A) → ((x : A) → P x → C ⊎ Q x) → SomeOf P xs
    → C ⊎ SomeOf Q xs
some_or P Q C [] on some = absurd some
some_or P Q C (x ∷ xs) on (inl here) = ⊎_elim (λ (c : C). inl c) (λ q. inr (inl q)) (on x here)
some_or P Q C (x ∷ xs) on (inr later) = ⊎_elim (λ (c : C). inl c) (λ some. inr (inr some)) (some_or P Q C xs on later)

-- if all elements have P and some has Q, some has both
pub some_both : {A : Type 0} (P Q : A → Type 0) (xs : List A) → AllByRecursion P xs → SomeOf Q xs
    → SomeOf (λ x. P x × Q x) xs
some_both P Q [] all some = absurd some
some_both P Q (x ∷ xs) all some = ⊎_elim (λ (here : Q x). inl (all.0, here))
    (λ later. inr (some_both P Q xs all.1 later)) some

-- each element of a list is one of its elements
pub members : {A : Type 0} (xs : List A) → AllByRecursion (λ x. SomeOf (λ y. y ≡ x) xs) xs
members [] = tt
members (x ∷ xs) = (
  inl refl,
  all_weaken (λ z. SomeOf (λ y. y ≡ z) xs) (λ z. SomeOf (λ y. y ≡ z) (x ∷ xs)) xs (λ z some. inr some)
      (members xs),
)

pub some_map : {A B : Type 0} (Q : B → Type 0) (f : A → B) (xs : List A) → SomeOf (λ x. Q (f x)) xs
    → SomeOf Q (map f xs)
some_map Q f [] some = some
some_map Q f (x ∷ xs) some = ⊎_elim (λ (here : Q (f x)). inl here) (λ later. inr (some_map Q f xs later)) some

pub some_mapped : {A B : Type 0} (Q : B → Type 0) (f : A → B) (xs : List A) → SomeOf Q (map f xs)
    → SomeOf (λ x. Q (f x)) xs
some_mapped Q f [] some = some
some_mapped Q f (x ∷ xs) some = ⊎_elim (λ (here : Q (f x)). inl here) (λ later. inr (some_mapped Q f xs later)) some

-- ---- rows

pub row_serial : {A : Type 0} (f : A → ℕ) (rows : List A) (s : ℕ) (x : A) → row_of f rows s ≡ Some x → f x ≡ s
row_serial f [] s x is = absurd (cc (is))
row_serial f (r ∷ rows) s x is = on (f r == s) refl is (row_serial f rows s x) where
  on : (b : Bool) → (f r == s) ≡ b → (if b then Some r else row_of f rows s) ≡ Some x
      → (row_of f rows s ≡ Some x → f x ≡ s) → f x ≡ s
  on true same is more = (let e : r ≡ x = cc (is) in ap f (sym e)) ∙ equal (f r) s same
  on false same is more = more is

pub some_row : {A : Type 0} (f : A → ℕ) (rows : List A) (s : ℕ) (x : A) → row_of f rows s ≡ Some x
    → SomeOf (λ y. y ≡ x) rows
some_row f [] s x is = absurd (cc (is))
some_row f (r ∷ rows) s x is = on (f r == s) is (some_row f rows s x) where
  on : (b : Bool) → (if b then Some r else row_of f rows s) ≡ Some x
      → (row_of f rows s ≡ Some x → SomeOf (λ y. y ≡ x) rows) → SomeOf (λ y. y ≡ x) (r ∷ rows)
  on true is more = inl (let e : r ≡ x = cc (is) in e)
  on false is more = inr (more is)

-- ---- a row that is replaced

-- Each row goes on, if the row of a serial goes on as the new one, and each row of another serial
-- as it is.
module _ {A : Type 0} (key : A → ℕ) (Goes : A → A → Type 0) (c x : A) (own : Goes c x)
    (others : (r : A) → (key r == key c) ≡ false → Goes r r) where
  abbrev GoOn : List A → List A → Type 0
  GoOn rows after = AllByRecursion (λ d. SomeOf (λ r. Goes r d) rows) after

  more : (r : A) (rows after : List A) → GoOn rows after → GoOn (r ∷ rows) after
  more r rows after all = all_weaken (λ d. SomeOf (λ q. Goes q d) rows) (λ d. SomeOf (λ q. Goes q d) (r ∷ rows)) after
      (λ d some. inr some) all

  later_rows : (rows : List A) → AllByRecursion (λ m. key c < m) (map key rows) → GoOn rows rows
  later_rows [] above = tt
  later_rows (r ∷ rows) above =
      let lt : key c < key r = above.0 in
      let off : (key r == key c) ≡ false = grind (arith, nat_tests, lt) in
      (inl (others r off), more r rows rows (later_rows rows above.1))

  pub row_goes : (rows : List A) (next : ℕ) → Rises (map key rows) next → row_of key rows (key c) ≡ Some c
      → GoOn rows (with_row key rows (key c) x)
  row_goes [] next rise is = absurd (cc (is))
  row_goes (r ∷ rows) next rise is = on (key r == key c) refl is (row_goes rows next rise.2) where
    on : (b : Bool) → (key r == key c) ≡ b → (if b then Some r else row_of key rows (key c)) ≡ Some c
        → (row_of key rows (key c) ≡ Some c → GoOn rows (with_row key rows (key c) x))
        → GoOn (r ∷ rows) (if b then x ∷ rows else r ∷ with_row key rows (key c) x)
    on true at is rest =
        let e : r ≡ c = cc (is) in (
          inl (subst (λ q. Goes q x) (sym e) own),
          more r rows rows
              (later_rows rows
              (subst (λ n. AllByRecursion (λ m. n < m) (map key rows)) (equal (key r) (key c) at) rise.1)),
        )
    on false at is rest = (inl (others r at), more r rows (with_row key rows (key c) x) (rest is))
