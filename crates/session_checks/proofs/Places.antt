-- The test for one more window or client is the definitions' test.
use Rattle.std.proofs.Common.{◌≡◌, ℕ, ◌<◌, ◌≤◌, nat_lt, Bool, true, false, arith, ap, sym, ◌∙◌}
use Rattle.std.specs.Prelude.{◌&&◌}
use Rattle.std.proofs.lemmas.Bool.Decides.{nat_tests}

is_below : (n most : ℕ) → n < most → nat_lt n most ≡ true
is_below n most lt = grind (arith, nat_tests, lt)

isnt_below : (n most : ℕ) → most ≤ n → nat_lt n most ≡ false
isnt_below n most le = grind (arith, nat_tests, le)

-- if a place is left, the other test decides
pub left : (n m most : ℕ) (a b : Bool) → n ≡ m → a ≡ b → n < most → a ≡ (nat_lt m most && b)
left n m most a b same also lt =
    also ∙ ap (λ c. c && b) (sym (is_below n most lt) ∙ ap (λ k. nat_lt k most) same)

pub none_left : (n m most : ℕ) (b : Bool) → n ≡ m → most ≤ n
    → nat_lt n most ≡ (nat_lt m most && b)
none_left n m most b same le =
    isnt_below n most le
    ∙ ap (λ c. c && b) (sym (isnt_below n most le) ∙ ap (λ k. nat_lt k most) same)
