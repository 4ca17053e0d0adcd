-- Texts that are appended part by part.
use Rattle.std.proofs.Common.{◌≡◌, ◌∙◌, ◌++◌, ap, append_assoc, ℕ, List, Result, Ok, Err}
use Rattle.std.specs.Prelude.{OnOk}

-- the text is the same by another name
pub same_text : {T E : Type 0} (r : Result T E) (now more all : List ℕ) → OnOk r (now ≡ more) → more ≡ all
    → OnOk r (now ≡ all)
same_text (Ok x) now more all is same = is ∙ same
same_text (Err e) now more all is same = tt

pub two_parts : (o p z a : List ℕ) → a ≡ o ++ p → a ++ z ≡ o ++ (p ++ z)
two_parts o p z a first = ap (λ x. x ++ z) first ∙ append_assoc o p z

pub four_parts : (o w p v z a b c : List ℕ) → a ≡ o ++ w → b ≡ a ++ p → c ≡ b ++ v
    → c ++ z ≡ o ++ (w ++ (p ++ (v ++ z)))
four_parts o w p v z a b c first second third =
    two_parts b v z c third
    ∙ (two_parts a p (v ++ z) b second ∙ two_parts o w (p ++ (v ++ z)) a first)
