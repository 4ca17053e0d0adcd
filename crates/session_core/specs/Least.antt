-- The lowest serial that isn't below a number.
use Rattle.std.specs.Prelude.{ℕ, nat_le, List, [], ◌∷◌, Option, Some, None, if◌then◌else◌}

-- the first serial that is none below this one
abbrev pub least_from : ℕ → List ℕ → Option ℕ
least_from serial [] = None
least_from serial (s ∷ serials) = if nat_le serial s then Some s else least_from serial serials
