-- The digits after the command key.
use Rattle.std.proofs.Common.{◌≡◌, ℕ, zero, suc, ◌+◌, ◌-◌, ◌<◌, ◌≤◌, [], ◌∷◌, Some, refl, ap, ◌∙◌, arith}
use Rattle.std.specs.Fmt.{decimal}
use Rattle.std.proofs.lemmas.Fmt.{decimal_digit}
use Rattle.command_lang.specs.declared.command.Command.TheVariants.{Select}
use Rattle.keys.specs.Grammar.{binding}

digit : (n : ℕ) → n < 10 → Some (Select ((48 + n) ∷ [])) ≡ binding (48 + n)
digit zero h = refl
digit (suc zero) h = refl
digit (suc (suc zero)) h = refl
digit (suc (suc (suc zero))) h = refl
digit (suc (suc (suc (suc zero)))) h = refl
digit (suc (suc (suc (suc (suc zero))))) h = refl
digit (suc (suc (suc (suc (suc (suc zero)))))) h = refl
digit (suc (suc (suc (suc (suc (suc (suc zero))))))) h = refl
digit (suc (suc (suc (suc (suc (suc (suc (suc zero)))))))) h = refl
digit (suc (suc (suc (suc (suc (suc (suc (suc (suc zero))))))))) h = refl
digit (suc (suc (suc (suc (suc (suc (suc (suc (suc (suc n)))))))))) h = absurd (omega (arith, h))

pub digit_bound : (k : ℕ) → 48 ≤ k → k ≤ 57 → Some (Select (decimal (k - 48))) ≡ binding k
digit_bound k l h =
    let e : 48 + (k - 48) ≡ k = omega (arith, l) in
    let s : k - 48 < 10 = omega (arith, l, h) in
    ap (λ d. Some (Select d)) (decimal_digit (k - 48) s) ∙ digit (k - 48) s ∙ ap binding e
