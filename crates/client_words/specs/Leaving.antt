-- Input in which one byte leaves: typed once it leaves, typed twice it is one byte of the input.
use Rattle.std.specs.Prelude.{ℕ, ◌==◌, if◌then◌else◌, List, [], ◌∷◌}
use Rattle.client_words.specs.declared.leaving.InputStage.{InputStage}
use Rattle.client_words.specs.declared.leaving.InputStage.TheVariants.{Reading, Waiting, Left}

-- the part of the input that is sent: two of the byte are sent as one; nothing is sent from the first lone
-- one on
unfoldable pub sent : ℕ → List ℕ → List ℕ
sent byte [] = []
sent byte (x ∷ []) = if x == byte then [] else x ∷ []
sent byte (x ∷ y ∷ rest) =
    if x == byte then (if y == byte then byte ∷ sent byte rest else [])
    else x ∷ sent byte (y ∷ rest)

-- whether the user left by a lone byte; if not, whether the input ends with the byte, so that the next one
-- decides
unfoldable pub stage : ℕ → List ℕ → InputStage
stage byte [] = Reading
stage byte (x ∷ []) = if x == byte then Waiting else Reading
stage byte (x ∷ y ∷ rest) =
    if x == byte then (if y == byte then stage byte rest else Left)
    else stage byte (y ∷ rest)
