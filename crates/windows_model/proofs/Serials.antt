-- Facts of tables whose rows have serials, and of searches in them.
use Rattle.std.proofs.Common.{◌≡◌, ◌≢◌, ℕ, zero, suc, ◌<◌, ◌≤◌, Bool, true, false, List, [], ◌∷◌, length, Some, None}
use Rattle.std.proofs.Common.{Ok, Err, set, map, get_or, refl, ap, sym, ◌∙◌, arith, Option}
use Rattle.std.specs.Prelude.{if◌then◌else◌, ◌==◌, slice_get, Result, OnOk, OnErr, IfOk}
use Rattle.std.specs.List.{position, position_or_len}
use Rattle.std.proofs.lemmas.Bool.Decides.{nat_tests}
use Rattle.std.proofs.lemmas.List.Quantifiers.{position-Some}
use Rattle.std.proofs.lemmas.Option.{slice_get-get_or}
use Rattle.std.proofs.lemmas.List.Sums.{fails_before_first}
use Rattle.std.proofs.lemmas.Grind.{common_steps}
use Rattle.windows_model.specs.Finding.{row_of, with_row}

pub if_true : {A : Type 0} (b : Bool) (x y : A) → b ≡ true → (if b then x else y) ≡ x
if_true true x y is = refl
if_true false x y is = absurd (cc (is))

pub if_false : {A : Type 0} (b : Bool) (x y : A) → b ≡ false → (if b then x else y) ≡ y
if_false true x y is = absurd (cc (is))
if_false false x y is = refl

pub by_if : {A : Type 0} (P : A → Type 0) (b : Bool) (x y : A) → P x → P y → P (if b then x else y)
by_if P true x y p q = p
by_if P false x y p q = q

pub same_number : (n : ℕ) → (n == n) ≡ true
same_number n = grind (arith, nat_tests)

pub equal_number : (m n : ℕ) → m ≡ n → (m == n) ≡ true
equal_number m n is = grind (arith, nat_tests, is)

pub other_number : (m n : ℕ) → m ≢ n → (m == n) ≡ false
other_number m n differ = grind (arith, nat_tests, differ)

pub is_equal : (m n : ℕ) → (m == n) ≡ true → m ≡ n
is_equal m n is = grind (arith, nat_tests, is)

pub on_ok : {A E P Q : Type 0} (r : Result A E) → (P → Q) → OnOk r P → OnOk r Q
on_ok (Ok a) f p = f p
on_ok (Err e) f p = tt

pub if_ok : {A E : Type 0} {P Q : A → Type 0} (r : Result A E) → ((a : A) → P a → Q a) → IfOk r P → IfOk r Q
if_ok (Ok a) f p = f a p
if_ok (Err e) f p = tt

pub on_error : {A E P Q : Type 0} (r : Result A E) → (P → Q) → OnErr r P → OnErr r Q
on_error (Ok a) f p = tt
on_error (Err e) f p = f p

module _ {A : Type 0} (f : A → ℕ) where
  -- the row at the first place of a serial is the row of the serial
  pub row_at : (rows : List A) (s i : ℕ) (d : A) → i < length rows → (f (get_or rows i d) == s) ≡ true
      → ((k : ℕ) → k < i → (f (get_or rows k d) == s) ≡ false) → row_of f rows s ≡ slice_get rows i
  row_at [] s i d lt here before = absurd (omega arith)
  row_at (row ∷ rows) s zero d lt here before = if_true (f row == s) _ _ here
  row_at (row ∷ rows) s (suc i) d lt here before =
      if_false (f row == s) _ _ (before 0 (omega arith))
      ∙ row_at rows s i d (omega arith) here (λ k below. before (suc k) (omega arith))

  pub set_at : (rows : List A) (s i : ℕ) (d new : A) → i < length rows → (f (get_or rows i d) == s) ≡ true
      → ((k : ℕ) → k < i → (f (get_or rows k d) == s) ≡ false) → set rows i new ≡ with_row f rows s new
  set_at [] s i d new lt here before = absurd (omega arith)
  set_at (row ∷ rows) s zero d new lt here before = sym (if_true (f row == s) _ _ here)
  set_at (row ∷ rows) s (suc i) d new lt here before =
      ap (λ rs. row ∷ rs) (set_at rows s i d new (omega arith) here (λ k below. before (suc k) (omega arith)))
      ∙ sym (if_false (f row == s) _ _ (before 0 (omega arith)))

  -- if no place has the serial, there is no row of it
  pub none_at : (rows : List A) (s : ℕ) (d : A) → ((k : ℕ) → k < length rows → (f (get_or rows k d) == s) ≡ false)
      → row_of f rows s ≡ None
  none_at [] s d none = refl
  none_at (row ∷ rows) s d none = if_false (f row == s) _ _ (none 0 (omega arith))
      ∙ none_at rows s d (λ k below. none (suc k) (omega arith))

  -- the row at the place that `position` finds is the row of the serial
  pub found : (rows : List A) (s i : ℕ) → position (λ row. f row == s) rows ≡ Some i
      → row_of f rows s ≡ slice_get rows i
  found [] s i at = absurd (cc (at))
  found (r ∷ rows) s i at = let p = position-Some (λ row. f row == s) (r ∷ rows) i r at in row_at (r ∷ rows) s i r p.0
      p.1 p.2

  pub placed : (rows : List A) (s i : ℕ) (new : A) → position (λ row. f row == s) rows ≡ Some i
      → set rows i new ≡ with_row f rows s new
  placed [] s i new at = absurd (cc (at))
  placed (r ∷ rows) s i new at = let p = position-Some (λ row. f row == s) (r ∷ rows) i r at in set_at (r ∷ rows) s i r
      new p.0 p.1 p.2

  pub lost : (rows : List A) (s : ℕ) → position (λ row. f row == s) rows ≡ None → row_of f rows s ≡ None
  lost [] s none = refl
  lost (r ∷ rows) s none =
      let past : length (r ∷ rows) ≤ position_or_len (λ row. f row == s) (r ∷ rows) = grind (arith, common_steps, none)
      in
      none_at (r ∷ rows) s r (λ k lt. fails_before_first (λ row. f row == s) (r ∷ rows) k r (omega (arith, past, lt)))

  pub at_place : (rows items : List A) (s i : ℕ) (row : A) → items ≡ rows → position (λ r. f r == s) rows ≡ Some i
      → i < length rows → row ≡ get_or items i row → row_of f rows s ≡ Some row
  at_place rows items s i row same at lt value = found rows s i at ∙ slice_get-get_or rows i row lt
      ∙ ap Some (ap (λ xs. get_or xs i row) (sym same) ∙ sym value)

  -- a row has the serial by which it is found
  found_by : (b : Bool) (row r : A) (s : ℕ) (rest : Option A) → (f r == s) ≡ b → (if b then Some r else rest) ≡ Some row
      → (rest ≡ Some row → f row ≡ s) → f row ≡ s
  found_by true row r s rest is now on = ap f (sym (let e : r ≡ row = cc (now) in e)) ∙ is_equal (f r) s is
  found_by false row r s rest is now on = on now

  pub serial_is : (rows : List A) (s : ℕ) (row : A) → row_of f rows s ≡ Some row → f row ≡ s
  serial_is [] s row at = absurd (cc (at))
  serial_is (r ∷ rs) s row at = found_by (f r == s) row r s (row_of f rs s) refl at (serial_is rs s row)

  -- the new row is found at its serial
  same_by : (b : Bool) (r : A) (rs changed : List A) (s : ℕ) (old new : A) → (f r == s) ≡ b → f new ≡ s
      → (if b then Some r else row_of f rs s) ≡ Some old
      → (row_of f rs s ≡ Some old → row_of f changed s ≡ Some new)
      → row_of f (if b then new ∷ rs else r ∷ changed) s ≡ Some new
  same_by true r rs changed s old new is serial at on = if_true (f new == s) _ _ (equal_number (f new) s serial)
  same_by false r rs changed s old new is serial at on = if_false (f r == s) _ _ is ∙ on at

  pub with_same : (rows : List A) (s : ℕ) (old new : A) → row_of f rows s ≡ Some old → f new ≡ s
      → row_of f (with_row f rows s new) s ≡ Some new
  with_same [] s old new at serial = absurd (cc (at))
  with_same (r ∷ rs) s old new at serial = same_by (f r == s) r rs (with_row f rs s new) s old new refl serial at
      (λ on. with_same rs s old new on serial)

  -- rows of other serials are unchanged
  other_by : (b : Bool) (r : A) (rs changed : List A) (s t : ℕ) (new : A) → (f r == s) ≡ b → f new ≡ s → t ≢ s
      → row_of f changed t ≡ row_of f rs t
      → row_of f (if b then new ∷ rs else r ∷ changed) t ≡ row_of f (r ∷ rs) t
  other_by true r rs changed s t new is serial differ on =
      if_false (f new == t) _ _ (other_number (f new) t (λ e. differ (sym e ∙ serial)))
      ∙ sym (if_false (f r == t) _ _ (other_number (f r) t (λ e. differ (sym e ∙ is_equal (f r) s is))))
  other_by false r rs changed s t new is serial differ on = ap (λ o. if f r == t then Some r else o) on

  pub with_other : (rows : List A) (s t : ℕ) (new : A) → f new ≡ s → t ≢ s
      → row_of f (with_row f rows s new) t ≡ row_of f rows t
  with_other [] s t new serial differ = refl
  with_other (r ∷ rs) s t new serial differ = other_by (f r == s) r rs (with_row f rs s new) s t new refl serial differ
      (with_other rs s t new serial differ)

  -- the serials are unchanged
  serials_by : (b : Bool) (r : A) (rs changed : List A) (s : ℕ) (new : A) → (f r == s) ≡ b → f new ≡ s
      → map f changed ≡ map f rs → map f (if b then new ∷ rs else r ∷ changed) ≡ map f (r ∷ rs)
  serials_by true r rs changed s new is serial on = ap (λ n. n ∷ map f rs) (serial ∙ sym (is_equal (f r) s is))
  serials_by false r rs changed s new is serial on = ap (λ ns. f r ∷ ns) on

  pub serials_stay : (rows : List A) (s : ℕ) (new : A) → f new ≡ s → map f (with_row f rows s new) ≡ map f rows
  serials_stay [] s new serial = refl
  serials_stay (r ∷ rs) s new serial = serials_by (f r == s) r rs (with_row f rs s new) s new refl serial
      (serials_stay rs s new serial)

  -- putting back the row that was found changes nothing
  pub with_back : (rows : List A) (s : ℕ) (row : A) → row_of f rows s ≡ Some row → with_row f rows s row ≡ rows
  with_back [] s row at = refl
  with_back (r ∷ rs) s row at = back_by (f r == s) at (with_back rs s row) where
    back_by : (b : Bool) → (if b then Some r else row_of f rs s) ≡ Some row
        → (row_of f rs s ≡ Some row → with_row f rs s row ≡ rs)
        → (if b then row ∷ rs else r ∷ with_row f rs s row) ≡ r ∷ rs
    back_by true at on = let e : r ≡ row = cc (at) in ap (λ x. x ∷ rs) (sym e)
    back_by false at on = ap (λ xs. r ∷ xs) (on at)

  -- of two rows put at one serial, the last one stays
  pub with_twice : (rows : List A) (s : ℕ) (once twice : A) → f once ≡ s
      → with_row f (with_row f rows s once) s twice ≡ with_row f rows s twice
  with_twice [] s once twice serial = refl
  with_twice (r ∷ rs) s once twice serial = twice_by (f r == s) refl (with_twice rs s once twice serial) where
    twice_by : (b : Bool) → (f r == s) ≡ b → with_row f (with_row f rs s once) s twice ≡ with_row f rs s twice
        → with_row f (if b then once ∷ rs else r ∷ with_row f rs s once) s twice ≡
        (if b then twice ∷ rs else r ∷ with_row f rs s twice)
    twice_by true is on = if_true (f once == s) _ _ (equal_number (f once) s serial)
    twice_by false is on = if_false (f r == s) _ _ is ∙ ap (λ xs. r ∷ xs) on
