-- What a look at folders, one after another, has found.
use Rattle.std.proofs.Common.{◌≡◌, ℕ, List, Bool, true, false, refl, sym, ◌∙◌, ap, subst}
use Rattle.std.specs.Prelude.{Option, Some, unwrap_or}

-- what is so of the folder at which a look is by now, is so of the first one if that is this or was before
pub first_too : (P : List ℕ → Type 0) {first folder : List ℕ} (is_above : Bool) (now : Option (List ℕ))
    → (is_above ≡ false → now ≡ Some first) → (is_above ≡ true → P first) → now ≡ Some folder → P folder → P first
first_too P true now at_first so here it = so refl
first_too P {first} {folder} false now at_first so here it =
    let same : folder ≡ first = ap (λ (o : Option (List ℕ)). unwrap_or o first) (sym here ∙ at_first refl) in
    subst P same it
