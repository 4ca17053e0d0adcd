-- How a line is read from a reader.
use Rattle.std.specs.Prelude.{ℕ, ◌≡◌, ◌≢◌, ◌==◌, Bool, true, not, List, [], ◌∷◌, ◌++◌, Option, Some, None}
use Rattle.std.specs.List.{list_all}
use Rattle.trail_lines.specs.declared.halt.NextLine.{NextLine}
use Rattle.trail_lines.specs.declared.halt.NextLine.TheVariants as came

abbrev pub feed : ℕ
feed = 0x0A

-- no line feed is among the bytes
abbrev pub is_unbroken : List ℕ → Bool
is_unbroken bytes = list_all (λ byte. not (byte == feed)) bytes

-- a line was read from these bytes, and the rest is left: with its line feed, or without one up to the
-- end, or there was no byte
abbrev pub ComesAs : NextLine → List ℕ → List ℕ → List ℕ → Type 0
ComesAs came.Whole line bytes rest = (is_unbroken line ≡ true) × (bytes ≡ line ++ feed ∷ rest)
ComesAs came.Torn line bytes rest =
    (is_unbroken line ≡ true) × (line ≢ []) × (bytes ≡ line) × (rest ≡ [])
ComesAs came.Nothing line bytes rest = (bytes ≡ []) × (line ≡ []) × (rest ≡ [])

-- P relates the bytes that a reader had to those that it has left, if its bytes are known
abbrev pub OfKnown : Option (List ℕ) → Option (List ℕ) → (List ℕ → List ℕ → Type 0) → Type 0
OfKnown None new P = Unit {0}
OfKnown (Some bytes) None P = ⊥
OfKnown (Some bytes) (Some rest) P = P bytes rest
