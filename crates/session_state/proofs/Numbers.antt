-- Windows found number by number are the windows by rising numbers, so that Numbered can list them.
use Rattle.session_state.proofs.Vocabulary.{◌≡◌, ℕ, zero, suc, ◌+◌, ◌<◌, ◌≤◌, ◌==◌, Bool, true, false, List, [], ◌∷◌}
use Rattle.session_state.proofs.Vocabulary.{◌++◌, Option, Some, None, option_to_list, nat_lt, if◌then◌else◌, refl, ap}
use Rattle.session_state.proofs.Vocabulary.{◌∙◌, sym, arith, nat_tests, with_number, numbered}
use Rattle.std.specs.List.{AllByRecursion}
use Rattle.session_model.specs.Tables.{Window}
use Rattle.session_model.specs.Sound.{NumbersDiffer}
use Rattle.session_model.specs.Texts.{by_number, in_order}

-- ---- tests

same_test : (m n : ℕ) → m ≡ n → (m == n) ≡ true
same_test m n is = grind (arith, nat_tests, is)

other_test : (m n : ℕ) → (m ≡ n → ⊥) → (m == n) ≡ false
other_test m n differ = grind (arith, nat_tests, differ)

less_test : (m n : ℕ) → m < n → nat_lt m n ≡ true
less_test m n lt = grind (arith, nat_tests, lt)

least_test : (m n : ℕ) → n ≤ m → nat_lt m n ≡ false
least_test m n le = grind (arith, nat_tests, le)

chosen : {A : Type 0} (b : Bool) (x y : A) → b ≡ true → (if b then x else y) ≡ x
chosen true x y is = refl
chosen false x y is = absurd (cc (is))

passed : {A : Type 0} (b : Bool) (x y : A) → b ≡ false → (if b then x else y) ≡ y
passed true x y is = absurd (cc (is))
passed false x y is = refl

-- ---- one window more

-- the window of a number has it
found_number : (windows : List Window) (n : ℕ) (v : Window) → with_number windows n ≡ Some v
    → v.number ≡ n
found_number [] n v at = absurd (cc (at))
found_number (w ∷ windows) n v at =
    by_test (w.number == n) refl at (λ h. found_number windows n v h) where
      by_test : (b : Bool) → (w.number == n) ≡ b
          → (if b then Some w else with_number windows n) ≡ Some v
          → (with_number windows n ≡ Some v → v.number ≡ n) → v.number ≡ n
      by_test true is at on =
          let same : w ≡ v = cc (at) in
          let number : w.number ≡ n = grind (arith, nat_tests, is) in
          ap (λ (x : Window). x.number) (sym same) ∙ number
      by_test false is at on = on at

-- a window of a lower number is none of these
not_here : (w : Window) (windows : List Window) (from count : ℕ) → w.number < from
    → numbered (w ∷ windows) from count ≡ numbered windows from count
not_here w windows from zero below = refl
not_here w windows from (suc count) below =
    ap (λ o. option_to_list o ++ numbered (w ∷ windows) (from + 1) count)
    (passed (w.number == from) (Some w) (with_number windows from)
    (other_test w.number from (λ is. omega (arith, is, below))))
    ∙ ap (λ rest. option_to_list (with_number windows from) ++ rest)
    (not_here w windows (from + 1) count (omega (arith, below)))

-- and stands before them
put_first : (w : Window) (windows : List Window) (from count : ℕ) → w.number < from
    → by_number w (numbered windows from count) ≡ w ∷ numbered windows from count
put_first w windows from zero below = refl
put_first w windows from (suc count) below =
    by_row (with_number windows from) refl
    (put_first w windows (from + 1) count (omega (arith, below))) where
      by_row : (o : Option Window) → with_number windows from ≡ o
          → by_number w (numbered windows (from + 1) count) ≡ w ∷ numbered windows (from + 1) count
          → by_number w (option_to_list o ++ numbered windows (from + 1) count)
          ≡ w ∷ (option_to_list o ++ numbered windows (from + 1) count)
      by_row None at on = on
      by_row (Some v) at on =
          let number : v.number ≡ from = found_number windows from v at in
          chosen (nat_lt w.number v.number) _ _ (less_test w.number v.number (omega (arith, number, below)))

-- a window of another number stands in its place
placed : (w : Window) (windows : List Window) (from count : ℕ)
    → with_number windows w.number ≡ None → from ≤ w.number → w.number < from + count
    → by_number w (numbered windows from count) ≡ numbered (w ∷ windows) from count
placed w windows from zero none low high = absurd (omega (arith, low, high))
placed w windows from (suc count) none low high =
    by_test (w.number == from) refl
    (λ above. placed w windows (from + 1) count none above (omega (arith, high))) where
      later : (w.number == from) ≡ false → from + 1 ≤ w.number
      later is = grind (arith, nat_tests, is, low)

      by_row : (o : Option Window) → with_number windows from ≡ o → from + 1 ≤ w.number
          → (by_number w (numbered windows (from + 1) count)
          ≡ numbered (w ∷ windows) (from + 1) count)
          → by_number w (option_to_list o ++ numbered windows (from + 1) count)
          ≡ option_to_list o ++ numbered (w ∷ windows) (from + 1) count
      by_row None at above on = on
      by_row (Some v) at above on =
          let number : v.number ≡ from = found_number windows from v at in
          passed (nat_lt w.number v.number) _ _
          (least_test w.number v.number (omega (arith, number, above)))
          ∙ ap (λ rest. v ∷ rest) on

      by_test : (b : Bool) → (w.number == from) ≡ b
          → (from + 1 ≤ w.number → by_number w (numbered windows (from + 1) count)
          ≡ numbered (w ∷ windows) (from + 1) count)
          → by_number w (numbered windows from (suc count))
          ≡ option_to_list (if b then Some w else with_number windows from)
          ++ numbered (w ∷ windows) (from + 1) count
      by_test true is on =
          let here : w.number ≡ from = grind (arith, nat_tests, is) in
          let empty : with_number windows from ≡ None = ap (with_number windows) (sym here) ∙ none in
          ap (λ o. by_number w (option_to_list o ++ numbered windows (from + 1) count)) empty
          ∙ (put_first w windows (from + 1) count (omega (arith, here))
          ∙ ap (λ rest. w ∷ rest) (sym (not_here w windows (from + 1) count (omega (arith, here)))))
      by_test false is on = by_row (with_number windows from) refl (later is) (on (later is))

none_numbered : (from count : ℕ) → numbered [] from count ≡ []
none_numbered from zero = refl
none_numbered from (suc count) = none_numbered (from + 1) count

-- the windows in their order are those of each number, one after another
pub order_by_numbers : (windows : List Window) (count : ℕ) → NumbersDiffer windows
    → AllByRecursion (λ (w : Window). w.number < count) windows
    → in_order windows ≡ numbered windows 0 count
order_by_numbers [] count differ below = sym (none_numbered 0 count)
order_by_numbers (w ∷ windows) count differ below =
    ap (by_number w) (order_by_numbers windows count differ.1 below.1)
    ∙ placed w windows 0 count differ.0 (omega arith) (omega (arith, below.0))
