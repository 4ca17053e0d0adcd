-- Texts that are appended part by part.
use Rattle.std.proofs.Common.{◌≡◌, ◌≤◌, ◌∙◌, ◌+◌, ◌++◌, ◌∷◌, [], ℕ, List, ap, length, take}
use Rattle.std.specs.List.{flat_map}
use Rattle.trail_rights.proofs.Stepping.{joins_next, take_past}
pub use Rattle.line_fields.proofs.Joined.{same_text, two_parts}

pub five_parts : (o w p v q z a b c d : List ℕ) → a ≡ o ++ w → b ≡ a ++ p → c ≡ b ++ v → d ≡ c ++ q
    → d ++ z ≡ o ++ (w ++ (p ++ (v ++ (q ++ z))))
five_parts o w p v q z a b c d first second third fourth =
    two_parts c q z d fourth
    ∙ (two_parts b v (q ++ z) c third
    ∙ (two_parts a p (v ++ (q ++ z)) b second ∙ two_parts o w (p ++ (v ++ (q ++ z))) a first))

-- ---- a text of each of a list, one after another

pub one_more : {X : Type 0} (f : X → List ℕ) (xs : List X) (i : ℕ) (x : X) (old now new : List ℕ)
    → take (i + 1) xs ≡ take i xs ++ x ∷ [] → now ≡ old ++ flat_map f (take i xs) → new ≡ now ++ f x
    → new ≡ old ++ flat_map f (take (i + 1) xs)
one_more f xs i x old now new next so more =
    more ∙ (two_parts old (flat_map f (take i xs)) (f x) now so ∙ ap (λ l. old ++ l) (joins_next f xs i x next))

pub all_told : {X : Type 0} (f : X → List ℕ) (xs : List X) (i : ℕ) (old now : List ℕ) → length xs ≤ i
    → now ≡ old ++ flat_map f (take i xs) → now ≡ old ++ flat_map f xs
all_told f xs i old now past so = so ∙ ap (λ l. old ++ flat_map f l) (take_past i xs past)
