-- Facts of a name in an array that ends in zeros.
use Rattle.std.proofs.Common.{◌≡◌, ◌∙◌, ℕ, zero, suc, ◌+◌, ◌-◌, ◌<◌, ◌≤◌, Bool, true, false, not, ◌&&◌, ◌==◌, nat_le}
use Rattle.std.proofs.Common.{nat_eq, cond, ap, sym, refl, arith, List, [], ◌∷◌, ◌++◌, length, take, replicate}
use Rattle.std.proofs.Common.{slice_set, slice_index_or, position, unwrap_or, Some, add-one, true≢false, codes}
use Rattle.std.proofs.Common.{zero-add, if◌then◌else◌}
use Rattle.std.specs.List.{list_all, position_from}
use Rattle.std.specs.Cmp.Lexicographic.{pointwise}
use Rattle.std.proofs.lemmas.Iterator.Adapters.{position_from-zero}
use borrow.Author.Tests.{eqb-true, leb-true}
use Rattle.acl_words.specs.Names.{is_name_byte, is_name, begins_with_letter, before_zero}

-- writing the next byte of the word replaces a zero
put-next : (word : List ℕ) (i k : ℕ) → i < length word
    → slice_set (take i word ++ replicate (suc k) 0) i (slice_index_or word i 0) ≡ take (suc i) word ++ replicate k 0
put-next [] i k below = absurd (omega arith)
put-next (b ∷ word) zero k below = refl
put-next (b ∷ word) (suc i) k below = ap (λ xs. b ∷ xs) (put-next word i k (omega arith))

pub put-more : (word name : List ℕ) (i b : ℕ) → name ≡ take i word ++ replicate (20 - i) 0 → i < length word
    → length word ≤ 20 → b ≡ slice_index_or word i 0
    → slice_set name i b ≡ take (i + 1) word ++ replicate (20 - (i + 1)) 0
put-more word name i b is below few at =
    let left : 20 - i ≡ suc (20 - (i + 1)) = omega arith in
    (λ j. slice_set (is j) i (at j))
    ∙ ap (λ k. slice_set (take i word ++ replicate k 0) i (slice_index_or word i 0)) left
    ∙ put-next word i (20 - (i + 1)) below ∙ ap (λ k. take k word ++ replicate (20 - (i + 1)) 0) (sym (add-one i))

-- no byte of a name is zero
nonzero : (b : ℕ) → is_name_byte b ≡ true → (b == 0) ≡ false
nonzero b e = by (b == 0) refl
  where
    by : (c : Bool) → (b == 0) ≡ c → c ≡ false
    by false p = refl
    by true p = absurd (true≢false (sym e ∙ ap is_name_byte (eqb-true b 0 p)))

before_zero-zeros : (n : ℕ) → before_zero (replicate n 0) ≡ []
before_zero-zeros zero = refl
before_zero-zeros (suc n) = refl

spelled : (word : List ℕ) (n : ℕ) → list_all is_name_byte word ≡ true → before_zero (word ++ replicate n 0) ≡ word
spelled [] n e = before_zero-zeros n
spelled (b ∷ word) n e = by (is_name_byte b) refl e (λ f. spelled word n f)
  where
    by : (c : Bool) → is_name_byte b ≡ c → (c && list_all is_name_byte word) ≡ true
        → (list_all is_name_byte word ≡ true → before_zero (word ++ replicate n 0) ≡ word)
        → (if b == 0 then [] else b ∷ before_zero (word ++ replicate n 0)) ≡ b ∷ word
    by true p q rest = ap (λ c. if c then [] else b ∷ before_zero (word ++ replicate n 0)) (nonzero b p)
        ∙ ap (λ xs. b ∷ xs) (rest q)
    by false p q rest = cc

-- what the test for a name says of the word: it has at most 20 bytes
pub few_bytes : (word : List ℕ) → is_name word ≡ true → length word ≤ 20
few_bytes word e = leb-true (length word) 20
    (by (begins_with_letter word) (nat_le (length word) 20) (list_all is_name_byte word)
    (pointwise nat_eq word (codes "none")) e)
  where
    by : (a b c d : Bool) → (a && b && c && not d) ≡ true → b ≡ true
    by true true c d e = refl
    by true false c d e = cc
    by false b c d e = cc

plain : (word : List ℕ) → is_name word ≡ true → list_all is_name_byte word ≡ true
plain word e = by (begins_with_letter word) (nat_le (length word) 20) (list_all is_name_byte word)
    (pointwise nat_eq word (codes "none")) e
  where
    by : (a b c d : Bool) → (a && b && c && not d) ≡ true → c ≡ true
    by true true true d e = refl
    by true true false d e = cc
    by true false c d e = cc
    by false b c d e = cc

pub name_of-named : (word : List ℕ) (n : ℕ) → is_name word ≡ true → before_zero (word ++ replicate n 0) ≡ word
name_of-named word n e = spelled word n (plain word e)

pub filled_in : (word name : List ℕ) (i : ℕ) → name ≡ take i word ++ replicate (20 - i) 0 → i ≡ length word
    → name ≡ word ++ replicate (20 - length word) 0
filled_in word name i is all = is ∙ (λ j. take (all j) word ++ replicate (20 - all j) 0)
    ∙ ap (λ xs. xs ++ replicate (20 - length word) 0) (take-all word)
  where
    take-all : (xs : List ℕ) → take (length xs) xs ≡ xs
    take-all [] = refl
    take-all (x ∷ xs) = ap (λ ys. x ∷ ys) (take-all xs)

-- the bytes before the first zero
before_from : (xs : List ℕ) (i n : ℕ) → length xs ≤ n → (j : ℕ)
    × (unwrap_or (position_from (λ b. b == 0) i xs) (i + n) ≡ i + j) × (take j xs ≡ before_zero xs)
before_from [] i n few = (n, refl, none n)
  where
    none : (n : ℕ) → take {A = ℕ} n [] ≡ []
    none zero = refl
    none (suc n) = refl
before_from (x ∷ xs) i n few = by (x == 0) (before_from xs (i + 1) (n - 1) (omega arith))
  where
    by : (c : Bool) → (j : ℕ) × (unwrap_or (position_from (λ b. b == 0) (i + 1) xs) (i + 1 + (n - 1)) ≡ i + 1 + j)
        × (take j xs ≡ before_zero xs)
        → (j : ℕ) × (unwrap_or (cond c (Some i) (position_from (λ b. b == 0) (i + 1) xs)) (i + n) ≡ i + j)
        × (take j (x ∷ xs) ≡ (if c then [] else x ∷ before_zero xs))
    by true rest = (0, omega arith, refl)
    by false rest =
        let same : i + n ≡ i + 1 + (n - 1) = omega arith in (
          suc rest.0,
          ap (unwrap_or (position_from (λ b. b == 0) (i + 1) xs)) same ∙ rest.1
              ∙ omega arith,
          ap (λ ys. x ∷ ys) rest.2,
        )

pub before_first_zero : (xs : List ℕ) (n : ℕ) → length xs ≤ n
    → take (unwrap_or (position (λ b. b == 0) xs) n) xs ≡ before_zero xs
before_first_zero xs n few =
    let r = before_from xs 0 n few in
    ap (λ o. take (unwrap_or o n) xs) (position_from-zero (λ b. b == 0) xs)
    ∙ ap (λ k. take (unwrap_or (position_from (λ b. b == 0) 0 xs) k) xs) (sym (zero-add n))
    ∙ ap (λ k. take k xs) (r.1 ∙ zero-add r.0) ∙ r.2
