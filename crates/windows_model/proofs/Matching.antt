-- Facts of two tables whose rows belong together in pairs.
use Rattle.std.proofs.Common.{◌≡◌, ℕ, suc, Bool, true, false, List, [], ◌∷◌, ◌++◌, Option, Some, None, map, filter}
use Rattle.std.proofs.Common.{length, refl, ap, sym, subst}
use Rattle.std.specs.Prelude.{if◌then◌else◌, ◌==◌, find, not}
use Rattle.windows_model.specs.Finding.{row_of, with_row}
use Rattle.windows_model.specs.Matched.{Matched, BothOrNone}

-- ---- two rows that were looked up

module _ {A B : Type 0} (R : A → B → Type 0) where
  pub both_there : (o : Option A) (p : Option B) (a : A) → BothOrNone R o p → o ≡ Some a → (b : B) × (p ≡ Some b)
      × R a b
  both_there None p a m at = absurd (cc (at))
  both_there (Some x) None a m at = absurd m
  both_there (Some x) (Some y) a m at = (y, refl, subst (λ z. R z y) (let e : x ≡ a = cc (at) in e) m)

  pub both_back : (o : Option A) (p : Option B) (b : B) → BothOrNone R o p → p ≡ Some b → (a : A) × (o ≡ Some a) × R a b
  both_back o None b m at = absurd (cc (at))
  both_back None (Some y) b m at = absurd m
  both_back (Some x) (Some y) b m at = (x, refl, subst (λ z. R x z) (let e : y ≡ b = cc (at) in e) m)

  pub none_there : (o : Option A) (p : Option B) → BothOrNone R o p → o ≡ None → p ≡ None
  none_there None None m at = refl
  none_there None (Some y) m at = absurd m
  none_there (Some x) p m at = absurd (cc (at))

  pub none_back : (o : Option A) (p : Option B) → BothOrNone R o p → p ≡ None → o ≡ None
  none_back None None m at = refl
  none_back (Some x) None m at = absurd m
  none_back o (Some y) m at = absurd (cc (at))

-- ---- tables

module _ {A B : Type 0} (R : A → B → Type 0) where
  both_by : (b : Bool) (x : A) (y : B) (o : Option A) (p : Option B) → R x y → BothOrNone R o p
      → BothOrNone R (if b then Some x else o) (if b then Some y else p)
  both_by true x y o p m on = m
  both_by false x y o p m on = on

  with_by : (b : Bool) (x new : A) (y made : B) (xs us : List A) (ys vs : List B) → R x y → R new made → Matched R xs ys
      → Matched R us vs
      → Matched R (if b then new ∷ xs else x ∷ us) (if b then made ∷ ys else y ∷ vs)
  with_by true x new y made xs us ys vs m n ms on = (n, ms)
  with_by false x new y made xs us ys vs m n ms on = (m, on)

  kept_by : (b : Bool) (x : A) (y : B) (xs : List A) (ys : List B) → R x y → Matched R xs ys
      → Matched R (if b then x ∷ xs else xs) (if b then y ∷ ys else ys)
  kept_by true x y xs ys m ms = (m, ms)
  kept_by false x y xs ys m ms = ms

  pub length_match : (xs : List A) (ys : List B) → Matched R xs ys → length ys ≡ length xs
  length_match [] [] m = refl
  length_match (x ∷ xs) (y ∷ ys) m = ap (λ n. suc n) (length_match xs ys m.1)
  length_match [] (y ∷ ys) m = absurd m
  length_match (x ∷ xs) [] m = absurd m

  -- both tables stay matched if each of their rows is changed
  pub map_match : (S : A → B → Type 0) (f : A → A) (g : B → B) → ((a : A) (b : B) → R a b → S (f a) (g b))
      → (xs : List A) (ys : List B) → Matched R xs ys → Matched S (map f xs) (map g ys)
  map_match S f g on [] [] m = tt
  map_match S f g on (x ∷ xs) (y ∷ ys) m = (on x y m.0, map_match S f g on xs ys m.1)
  map_match S f g on [] (y ∷ ys) m = absurd m
  map_match S f g on (x ∷ xs) [] m = absurd m

  -- tables matched by one relation are matched by a weaker one
  pub weaker_match : (S : A → B → Type 0) → ((a : A) (b : B) → R a b → S a b) → (xs : List A) (ys : List B)
      → Matched R xs ys → Matched S xs ys
  weaker_match S on [] [] m = tt
  weaker_match S on (x ∷ xs) (y ∷ ys) m = (on x y m.0, weaker_match S on xs ys m.1)
  weaker_match S on [] (y ∷ ys) m = absurd m
  weaker_match S on (x ∷ xs) [] m = absurd m

  -- if a function of each pair of rows has equal values, the tables have equal lists of them
  pub mapped_match : {X : Type 0} (f : A → X) (g : B → X) → ((a : A) (b : B) → R a b → g b ≡ f a)
      → (xs : List A) (ys : List B) → Matched R xs ys → map g ys ≡ map f xs
  mapped_match f g same [] [] m = refl
  mapped_match f g same (x ∷ xs) (y ∷ ys) m = let first = same x y m.0 in let rest = mapped_match f g same xs ys m.1 in
      cc
  mapped_match f g same [] (y ∷ ys) m = absurd m
  mapped_match f g same (x ∷ xs) [] m = absurd m

  pub append_match : (xs more : List A) (ys others : List B) → Matched R xs ys → Matched R more others
      → Matched R (xs ++ more) (ys ++ others)
  append_match [] more [] others m n = n
  append_match (x ∷ xs) more (y ∷ ys) others m n = (m.0, append_match xs more ys others m.1 n)
  append_match [] more (y ∷ ys) others m n = absurd m
  append_match (x ∷ xs) more [] others m n = absurd m

  -- both tables stay matched if a row is added to each
  pub push_match : (xs : List A) (x : A) (ys : List B) (y : B) → Matched R xs ys → R x y
      → Matched R (xs ++ x ∷ []) (ys ++ y ∷ [])
  push_match xs x ys y m r = append_match xs (x ∷ []) ys (y ∷ []) m (r, tt)

  module _ (p : A → Bool) (q : B → Bool) (same : (a : A) (b : B) → R a b → q b ≡ p a) where
    pub filter_match : (xs : List A) (ys : List B) → Matched R xs ys → Matched R (filter p xs) (filter q ys)
    filter_match [] [] m = tt
    filter_match (x ∷ xs) (y ∷ ys) m =
        subst (λ b. Matched R (filter p (x ∷ xs)) (if b then y ∷ filter q ys else filter q ys)) (sym (same x y m.0))
        (kept_by (p x) x y _ _ m.0 (filter_match xs ys m.1))
    filter_match [] (y ∷ ys) m = absurd m
    filter_match (x ∷ xs) [] m = absurd m

    -- the first rows that pass a test match
    pub find_match : (xs : List A) (ys : List B) → Matched R xs ys → BothOrNone R (find p xs) (find q ys)
    find_match [] [] m = tt
    find_match (x ∷ xs) (y ∷ ys) m =
        subst (λ b. BothOrNone R (find p (x ∷ xs)) (if b then Some y else find q ys)) (sym (same x y m.0))
        (both_by (p x) x y _ _ m.0 (find_match xs ys m.1))
    find_match [] (y ∷ ys) m = absurd m
    find_match (x ∷ xs) [] m = absurd m

  module _ (f : A → ℕ) (g : B → ℕ) (same : (a : A) (b : B) → R a b → g b ≡ f a) where
    pub rows_match : (xs : List A) (ys : List B) (s : ℕ) → Matched R xs ys
        → BothOrNone R (row_of f xs s) (row_of g ys s)
    rows_match [] [] s m = tt
    rows_match (x ∷ xs) (y ∷ ys) s m =
        subst (λ n. BothOrNone R (row_of f (x ∷ xs) s) (if n == s then Some y else row_of g ys s)) (sym (same x y m.0))
        (both_by (f x == s) x y _ _ m.0 (rows_match xs ys s m.1))
    rows_match [] (y ∷ ys) s m = absurd m
    rows_match (x ∷ xs) [] s m = absurd m

    pub with_match : (xs : List A) (ys : List B) (s : ℕ) (new : A) (made : B) → R new made → Matched R xs ys
        → Matched R (with_row f xs s new) (with_row g ys s made)
    with_match [] [] s new made n m = tt
    with_match (x ∷ xs) (y ∷ ys) s new made n m =
        subst (λ k. Matched R (with_row f (x ∷ xs) s new) (if k == s then made ∷ ys else y ∷ with_row g ys s made))
        (sym (same x y m.0))
        (with_by (f x == s) x new y made xs _ ys _ m.0 n m.1 (with_match xs ys s new made n m.1))
    with_match [] (y ∷ ys) s new made n m = absurd m
    with_match (x ∷ xs) [] s new made n m = absurd m

    -- the row of one table at the other's serial
    pub row_there : (xs : List A) (ys : List B) (s : ℕ) (a : A) → Matched R xs ys → row_of f xs s ≡ Some a → (b : B)
        × (row_of g ys s ≡ Some b) × R a b
    row_there xs ys s a m at = both_there R (row_of f xs s) (row_of g ys s) a (rows_match xs ys s m) at

    pub row_back : (xs : List A) (ys : List B) (s : ℕ) (b : B) → Matched R xs ys → row_of g ys s ≡ Some b → (a : A)
        × (row_of f xs s ≡ Some a) × R a b
    row_back xs ys s b m at = both_back R (row_of f xs s) (row_of g ys s) b (rows_match xs ys s m) at

    -- both tables stay matched if the rows of a serial are removed
    pub without_match : (xs : List A) (ys : List B) (s : ℕ) → Matched R xs ys
        → Matched R (filter (λ a. not (f a == s)) xs) (filter (λ b. not (g b == s)) ys)
    without_match xs ys s m = filter_match (λ a. not (f a == s)) (λ b. not (g b == s))
        (λ a b r. ap (λ n. not (n == s)) (same a b r)) xs ys m
