-- A line without its last character.
use Rattle.std.proofs.Common.{◌≡◌, ℕ, zero, suc, ◌-◌, ◌<◌, ◌≤◌, Bool, true, false, ◌&&◌, cond, List, [], ◌∷◌, ◌++◌}
use Rattle.std.proofs.Common.{length, take, get_or, refl, sym, ap, ◌∙◌, arith}
use Rattle.std.specs.List.{list_all}
use Rattle.std.proofs.lemmas.List.Folds.{list_all-append}
use Rattle.keys.specs.Grammar.{continues, shortened}

all-snoc : (b : Bool) (xs : List ℕ) (c : ℕ) → continues c ≡ b
    → list_all continues (xs ++ c ∷ []) ≡ cond b (list_all continues xs) false
all-snoc true xs c e = list_all-append continues xs (c ∷ []) ∙ ap (λ t. list_all continues xs && (t && true)) e
    ∙ and_true (list_all continues xs)
  where
    and_true : (t : Bool) → (t && true) ≡ t
    and_true true = refl
    and_true false = refl
all-snoc false xs c e = list_all-append continues xs (c ∷ []) ∙ ap (λ t. list_all continues xs && (t && true)) e
    ∙ and_false (list_all continues xs)
  where
    and_false : (t : Bool) → (t && false) ≡ false
    and_false true = refl
    and_false false = refl

snoc : (b : Bool) (xs : List ℕ) (c : ℕ) → continues c ≡ b → shortened (xs ++ c ∷ []) ≡ cond b (shortened xs) xs
snoc true [] c e = refl
snoc false [] c e = refl
snoc true (x ∷ xs) c e = ap (λ t. cond t [] (x ∷ shortened (xs ++ c ∷ []))) (all-snoc true xs c e)
    ∙ ap (λ l. cond (list_all continues xs) [] (x ∷ l)) (snoc true xs c e)
snoc false (x ∷ xs) c e = ap (λ t. cond t [] (x ∷ shortened (xs ++ c ∷ []))) (all-snoc false xs c e)
    ∙ ap (λ l. x ∷ l) (snoc false xs c e)

take-snoc : (xs : List ℕ) (n : ℕ) (d : ℕ) → n < length xs → take (suc n) xs ≡ take n xs ++ get_or xs n d ∷ []
take-snoc [] n d h = absurd (omega (arith, h))
take-snoc (x ∷ xs) zero d h = refl
take-snoc (x ∷ xs) (suc n) d h = ap (λ l. x ∷ l) (take-snoc xs n d (omega (arith, h)))

-- if the last byte continues a character, shortening the line is shortening it without this byte
pub shortened-on : (xs : List ℕ) (n d : ℕ) → 0 < n → n ≤ length xs → continues (get_or xs (n - 1) d) ≡ true
    → shortened (take n xs) ≡ shortened (take (n - 1) xs)
shortened-on xs zero d z h e = absurd (omega (arith, z))
shortened-on xs (suc n) d z h e =
    let k : suc n - 1 ≡ n = omega arith in
    let f : continues (get_or xs n d) ≡ true = ap (λ j. continues (get_or xs j d)) (sym k) ∙ e in
    ap shortened (take-snoc xs n d (omega (arith, h))) ∙ snoc true (take n xs) (get_or xs n d) f
    ∙ ap (λ j. shortened (take j xs)) (sym k)

pub shortened-at : (xs : List ℕ) (n d : ℕ) → 0 < n → n ≤ length xs → continues (get_or xs (n - 1) d) ≡ false
    → take (n - 1) xs ≡ shortened (take n xs)
shortened-at xs zero d z h e = absurd (omega (arith, z))
shortened-at xs (suc n) d z h e =
    let k : suc n - 1 ≡ n = omega arith in
    let f : continues (get_or xs n d) ≡ false = ap (λ j. continues (get_or xs j d)) (sym k) ∙ e in
    sym (ap shortened (take-snoc xs n d (omega (arith, h))) ∙ snoc false (take n xs) (get_or xs n d) f
    ∙ ap (λ j. take j xs) (sym k))
