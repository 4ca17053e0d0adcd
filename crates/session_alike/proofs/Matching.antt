-- Tables whose rows belong together in pairs, and what is found in them.
use Rattle.std.proofs.Common.{◌≡◌, ℕ, Bool, true, false, List, [], ◌∷◌, ◌++◌, Option, Some, None, refl, ap, sym, ◌∙◌}
use Rattle.std.proofs.Common.{subst, map}
use Rattle.std.specs.Prelude.{if◌then◌else◌, ◌==◌, ◌||◌, find}
use Rattle.std.specs.List.{list_any}
use Rattle.std.proofs.lemmas.List.{map-append}
use Rattle.std.specs.Option.{option_and_then, option_map, option_map_or, option_or}
use Rattle.windows_model.specs.Finding.{row_of, with_row}
use Rattle.windows_model.specs.Matched.{BothOrNone, Matched}

pub map_append : {A B : Type 0} (f : A → B) (xs ys : List A) (xs' ys' : List B) → xs' ≡ map f xs → ys' ≡ map f ys
    → xs' ++ ys' ≡ map f (xs ++ ys)
map_append f xs ys xs' ys' p q = ap (λ zs. zs ++ ys') p ∙ ap (λ zs. map f xs ++ zs) q ∙ sym (map-append f xs ys)

pub find_same : {A : Type 0} (p q : A → Bool) (xs : List A) → ((x : A) → q x ≡ p x) → find q xs ≡ find p xs
find_same p q [] same = refl
find_same p q (x ∷ xs) same = ap (λ b. if b then Some x else find q xs) (same x)
    ∙ ap (λ o. if p x then Some x else o) (find_same p q xs same)

-- what is chosen by tests that say the same
pub pick : {C D : Type 0} (S : C → D → Type 0) (b c : Bool) {x x' : C} {y y' : D} → c ≡ b → S x y → S x' y'
    → S (if b then x else x') (if c then y else y')
pick S true c {x = x} {y = y} {y' = y'} same m k = subst (λ d. S x (if d then y else y')) (sym same) m
pick S false c {x' = x'} {y = y} {y' = y'} same m k = subst (λ d. S x' (if d then y else y')) (sym same) k

pub if_as : {A B : Type 0} (f : A → B) (b : Bool) (x y : A) → (if b then f x else f y) ≡ f (if b then x else y)
if_as f true x y = refl
if_as f false x y = refl

module _ {A B : Type 0} (R : A → B → Type 0) where
  abbrev Both : List A → List B → Type 0
  Both xs ys = Matched R xs ys

  abbrev One : Option A → Option B → Type 0
  One o p = BothOrNone R o p

  pub map_both : {C D : Type 0} (S : C → D → Type 0) (f : A → C) (g : B → D) (xs : List A) (ys : List B)
      → ((x : A) (y : B) → R x y → S (f x) (g y)) → Both xs ys → Matched S (map f xs) (map g ys)
  map_both S f g [] [] same m = tt
  map_both S f g (x ∷ xs) (y ∷ ys) same m = (same x y m.0, map_both S f g xs ys same m.1)
  map_both S f g xs ys same m = absurd m

  -- what is made of each row
  pub made_both : {C D : Type 0} (h : C → D) (f : A → C) (g : B → D) (xs : List A) (ys : List B)
      → ((x : A) (y : B) → R x y → g y ≡ h (f x)) → Both xs ys → map g ys ≡ map h (map f xs)
  made_both h f g [] [] same m = refl
  made_both h f g (x ∷ xs) (y ∷ ys) same m = ap (λ z. z ∷ map g ys) (same x y m.0)
      ∙ ap (λ zs. h (f x) ∷ zs) (made_both h f g xs ys same m.1)
  made_both h f g xs ys same m = absurd m

  -- a test that says the same of both
  module _ (p : A → Bool) (q : B → Bool) (same : (x : A) (y : B) → R x y → q y ≡ p x) where
    pub any_both : (xs : List A) (ys : List B) → Both xs ys → list_any q ys ≡ list_any p xs
    any_both [] [] m = refl
    any_both (x ∷ xs) (y ∷ ys) m = ap (λ b. b || list_any q ys) (same x y m.0)
        ∙ ap (λ b. p x || b) (any_both xs ys m.1)
    any_both xs ys m = absurd m

  -- rows by their serials
  module _ (k : A → ℕ) (l : B → ℕ) (s r : ℕ) (same : (x : A) (y : B) → R x y → (l y == r) ≡ (k x == s)) where
    pub row_both : (xs : List A) (ys : List B) → Both xs ys → One (row_of k xs s) (row_of l ys r)
    row_both [] [] m = tt
    row_both (x ∷ xs) (y ∷ ys) m =
        pick (BothOrNone R) (k x == s) (l y == r) (same x y m.0) m.0 (row_both xs ys m.1)
    row_both xs ys m = absurd m

    pub put_both : (x : A) (y : B) → R x y → (xs : List A) (ys : List B) → Both xs ys
        → Both (with_row k xs s x) (with_row l ys r y)
    put_both x y new [] [] m = tt
    put_both x y new (v ∷ xs) (w ∷ ys) m =
        pick (Matched R) (k v == s) (l w == r) (same v w m.0) (new, m.1) (m.0, put_both x y new xs ys m.1)
    put_both x y new xs ys m = absurd m

  -- ---- what may be there

  pub or_both : (o o' : Option A) (p p' : Option B) → One o p → One o' p' → One (option_or o o') (option_or p p')
  or_both None o' None p' m k = k
  or_both (Some x) o' (Some y) p' m k = m
  or_both o o' p p' m k = absurd m

  pub read_one : {C D : Type 0} (h : C → D) (f : A → C) (g : B → D) (o : Option A) (p : Option B)
      → ((x : A) (y : B) → R x y → g y ≡ h (f x)) → One o p → option_map g p ≡ option_map h (option_map f o)
  read_one h f g None None same m = refl
  read_one h f g (Some x) (Some y) same m = ap Some (same x y m)
  read_one h f g o p same m = absurd m

-- what is done with what is there, or without it
pub cases_both : {A B C D : Type 0} {R : A → B → Type 0} (S : C → D → Type 0) {x : C} {y : D} {F : A → C} {G : B → D}
    (o : Option A) (p : Option B) → BothOrNone R o p → S x y → ((a : A) (b : B) → R a b → S (F a) (G b))
    → S (elim o as (λ _. C) [ None ↦ x | Some a ↦ F a ]) (elim p as (λ _. D) [ None ↦ y | Some b ↦ G b ])
cases_both S None None m none some = none
cases_both S (Some a) (Some b) m none some = some a b m
cases_both S o p m none some = absurd m

pub cases_as : {A B C D : Type 0} (S : C → D → Type 0) (h : A → B) {x : C} {y : D} {F : A → C} (G : B → D)
    (o : Option A) (p : Option B) → p ≡ option_map h o → S x y → ((a : A) → S (F a) (G (h a)))
    → S (elim o as (λ _. C) [ None ↦ x | Some a ↦ F a ]) (elim p as (λ _. D) [ None ↦ y | Some b ↦ G b ])
cases_as {A = A} {B = B} {C = C} {D = D} S h {x = x} {y = y} {F = F} G o p same none some = subst
    (λ q. S (elim o as (λ _. C) [ None ↦ x | Some a ↦ F a ]) (elim q as (λ _. D) [ None ↦ y | Some b ↦ G b ]))
    (sym same) (on o) where
      on : (o : Option A) → S (elim o as (λ _. C) [ None ↦ x | Some a ↦ F a ])
          (elim (option_map h o) as (λ _. D) [ None ↦ y | Some b ↦ G b ])
      on None = none
      on (Some a) = some a

pub read_or : {A B C : Type 0} (R : A → B → Type 0) (f : A → C) (g : B → C) (x : C) (o : Option A) (p : Option B)
    → BothOrNone R o p → ((a : A) (b : B) → R a b → g b ≡ f a) → option_map_or g p x ≡ option_map_or f o x
read_or R f g x None None m same = refl
read_or R f g x (Some a) (Some b) m same = same a b m
read_or R f g x o p m same = absurd m

-- what is looked up by a serial, if there is one
pub then_both : {A B : Type 0} (R : A → B → Type 0) (f : ℕ → Option A) (g : ℕ → Option B) (rename : ℕ → ℕ)
    (o : Option ℕ) → ((s : ℕ) → BothOrNone R (f s) (g (rename s)))
    → BothOrNone R (option_and_then f o) (option_and_then g (option_map rename o))
then_both R f g rename None same = tt
then_both R f g rename (Some s) same = same s
