-- Characters of a text that are typed, one after another.
use Rattle.std.proofs.Common.{◌≡◌, ℕ, ◌+◌, ◌<◌, List, [], ◌∷◌, ◌++◌, length, drop, get_or, arith, sym, ap, ◌∙◌}
use Rattle.std.proofs.Common.{append_assoc, append-nil}
use Rattle.std.proofs.lemmas.List.{at_drop_more, at_drop_all, length_push}
use Rattle.std.specs.List.{flat_map}
use Rattle.web_options.specs.Asking.{quoted}

abbrev typed : List ℕ → List ℕ
typed text = flat_map quoted text

-- those that were yielded are typed
pub more : (cs ys : List ℕ) (c : ℕ) (all now new : List ℕ) → (length ys < length cs) × (c ≡ get_or cs (length ys) c)
    → all ≡ now ++ flat_map quoted (drop (length ys) cs) → new ≡ now ++ quoted c
    → all ≡ new ++ flat_map quoted (drop (length (ys ++ c ∷ [])) cs)
more cs ys c all now new t a b =
    let n : length ys + 1 ≡ length (ys ++ c ∷ []) = sym (length_push ys c) in
    a ∙ (ap (λ (l : List ℕ). now ++ l)
    (at_drop_more typed cs (length ys) c t.0
    ∙ ap (λ (x : ℕ). quoted x ++ typed (drop (length ys + 1) cs)) (sym t.1))
    ∙ (sym (append_assoc now (quoted c) (typed (drop (length ys + 1) cs)))
    ∙ (ap (λ (l : List ℕ). l ++ typed (drop (length ys + 1) cs)) (sym b)
    ∙ ap (λ (i : ℕ). new ++ typed (drop i cs)) n)))

pub end : (cs : List ℕ) (all now : List ℕ) (n : ℕ) → n ≡ length cs → all ≡ now ++ flat_map quoted (drop n cs)
    → now ≡ all
end cs all now n e a =
    sym (a ∙ (ap (λ (l : List ℕ). now ++ l) (at_drop_all typed cs n (omega (arith, e))) ∙ append-nil now))
