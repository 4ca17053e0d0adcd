-- The digits of a number, read one after another.
use Rattle.command_lang.proofs.Vocabulary.{◌≡◌, ℕ, zero, suc, ◌+◌, ◌-◌, ◌*◌, ◌<◌, true, ◌&&◌, List, [], ◌∷◌, ◌++◌}
use Rattle.command_lang.proofs.Vocabulary.{length, take, get_or, refl, sym, ap, ◌∙◌, arith, ◌^◌, list_all, nat_tests}
use Rattle.command_lang.proofs.Vocabulary.{is_digit, number_after}
use Rattle.std.proofs.Math.Nat.{pow-suc}
use Rattle.std.proofs.lemmas.List.Folds.{list_all-append}

-- taking one more digit appends that digit
take-more : (xs : List ℕ) (i : ℕ) → i < length xs → take (i + 1) xs ≡ take i xs ++ get_or xs i 0 ∷ []
take-more [] i h = absurd (omega (arith, h))
take-more (x ∷ xs) zero h = refl
take-more (x ∷ xs) (suc i) h = ap (λ j. take j (x ∷ xs)) (suc-plus i)
    ∙ ap (λ l. x ∷ l) (take-more xs i (omega (arith, h)))
  where
    suc-plus : (i : ℕ) → suc i + 1 ≡ suc (i + 1)
    suc-plus i = omega arith

number-snoc : (n : ℕ) (xs : List ℕ) (d : ℕ) → number_after n (xs ++ d ∷ []) ≡ number_after n xs * 10 + (d - 48)
number-snoc n [] d = refl
number-snoc n (x ∷ xs) d = number-snoc (n * 10 + (x - 48)) xs d

pub number-more : (xs : List ℕ) (i n : ℕ) → i < length xs → number_after 0 (take i xs) ≡ n
    → number_after 0 (take (i + 1) xs) ≡ n * 10 + (get_or xs i 0 - 48)
number-more xs i n h e = ap (number_after 0) (take-more xs i h) ∙ number-snoc 0 (take i xs) (get_or xs i 0)
    ∙ ap (λ m. m * 10 + (get_or xs i 0 - 48)) e

pub digits-more : (xs : List ℕ) (i : ℕ) → i < length xs → list_all is_digit (take i xs) ≡ true
    → is_digit (get_or xs i 0) ≡ true → list_all is_digit (take (i + 1) xs) ≡ true
digits-more xs i h a e = ap (list_all is_digit) (take-more xs i h)
    ∙ list_all-append is_digit (take i xs) (get_or xs i 0 ∷ []) ∙ (λ j. a j && (e j && true))

pub power-more : (i n x : ℕ) → n < 10 ^ i → is_digit x ≡ true → n * 10 + (x - 48) < 10 ^ (i + 1)
power-more i n x h d =
    let k : suc i ≡ i + 1 = omega arith in
    let e : 10 ^ (i + 1) ≡ 10 ^ i * 10 = ap (λ j. 10 ^ j) (sym k) ∙ pow-suc 10 i in
    let l : x < 58 = grind (arith, nat_tests) in
    omega (arith, h, e, l)
