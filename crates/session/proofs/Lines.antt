-- The first line of a script.
use Rattle.session.proofs.Vocabulary.{ℕ, ◌<◌, ◌≡◌, refl, sym, ◌∙◌, ap, true, false, Bool, List, [], ◌∷◌, length, take}
use Rattle.session.proofs.Vocabulary.{arith, suc, get_or, ◌==◌, if◌then◌else◌, nat_lt, ◌-◌, nat_tests, take_through}
use Rattle.session.proofs.Vocabulary.{drop_through, first_piece, strip_last, with_byte, lines_of}

-- the bytes before the first line feed
abbrev piece : List ℕ → List ℕ
piece [] = []
piece (x ∷ xs) = if x == 0x0A then [] else x ∷ piece xs

strip_at : (byte : ℕ) (xs : List ℕ) (n : ℕ) → length xs ≡ suc n
    → strip_last byte xs ≡ (if get_or xs n 0 == byte then take n xs else xs)
strip_at byte xs n e = let some : nat_lt 0 (length xs) ≡ true = grind (arith, nat_tests) in let last : length xs - 1 ≡ n
    = omega arith in rw (some, last)

if_cons : (x : ℕ) (xs ys : List ℕ) (b : Bool) → (if b then x ∷ xs else x ∷ ys) ≡ x ∷ (if b then xs else ys)
if_cons x xs ys true = refl
if_cons x xs ys false = refl

strip_cons : (x : ℕ) (xs : List ℕ) → (x == 0x0A) ≡ false → strip_last 0x0A (x ∷ xs) ≡ x ∷ strip_last 0x0A xs
strip_cons x [] e = strip_at 0x0A (x ∷ []) 0 refl ∙ ap (λ b. if b then [] else x ∷ []) e
strip_cons x (y ∷ xs) e =
    strip_at 0x0A (x ∷ y ∷ xs) (suc (length xs)) refl
    ∙ (if_cons x _ _ _ ∙ sym (ap (λ ys. x ∷ ys) (strip_at 0x0A (y ∷ xs) (length xs) refl)))

first_case : (x : ℕ) (xs : List ℕ) → strip_last 0x0A (take_through 0x0A xs) ≡ piece xs → (b : Bool) → (x == 0x0A) ≡ b
    → strip_last 0x0A (if b then x ∷ [] else x ∷ take_through 0x0A xs) ≡ (if b then [] else x ∷ piece xs)
first_case x xs first true e = strip_at 0x0A (x ∷ []) 0 refl ∙ ap (λ b. if b then [] else x ∷ []) e
first_case x xs first false e = strip_cons x (take_through 0x0A xs) e ∙ ap (λ ys. x ∷ ys) first

first_is : (xs : List ℕ) → first_piece 0x0A xs ≡ piece xs
first_is [] = refl
first_is (x ∷ xs) = first_case x xs (first_is xs) (x == 0x0A) refl

behind_case : (x y : ℕ) (xs : List ℕ) → lines_of (y ∷ xs) ≡ piece (y ∷ xs) ∷ lines_of (drop_through 0x0A (y ∷ xs))
    → (b : Bool)
    → (if b then [] ∷ lines_of (y ∷ xs) else with_byte x (lines_of (y ∷ xs))) ≡ (if b then [] else x ∷ piece (y ∷ xs)) ∷
    lines_of (if b then y ∷ xs else drop_through 0x0A (y ∷ xs))
behind_case x y xs lines true = refl
behind_case x y xs lines false = ap (λ ls. with_byte x ls) lines

last_case : (x : ℕ) (b : Bool)
    → (if b then [] ∷ [] else (x ∷ []) ∷ []) ≡ (if b then [] else x ∷ []) ∷ lines_of (if b then [] else [])
last_case x true = refl
last_case x false = refl

lines_by_piece : (x : ℕ) (xs : List ℕ) → lines_of (x ∷ xs) ≡ piece (x ∷ xs) ∷ lines_of (drop_through 0x0A (x ∷ xs))
lines_by_piece x [] = last_case x (x == 0x0A)
lines_by_piece x (y ∷ xs) = behind_case x y xs (lines_by_piece y xs) (x == 0x0A)

-- the first line is what `split` gives first, and the others are those of what it leaves
pub first_line : (xs : List ℕ) → 0 < length xs → lines_of xs ≡ first_piece 0x0A xs ∷ lines_of (drop_through 0x0A xs)
first_line [] some = absurd (omega arith)
first_line (x ∷ xs) some = lines_by_piece x xs
    ∙ ap (λ line. line ∷ lines_of (drop_through 0x0A (x ∷ xs))) (sym (first_is (x ∷ xs)))
