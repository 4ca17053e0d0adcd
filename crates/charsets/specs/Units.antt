-- The units of a list of bytes: codes in UTF-8 (Unicode core specification, 3.9), single bytes in
-- ECMA-35.
use Rattle.std.specs.Prelude.{◌≡◌, ℕ, ◌≤◌, Bool, ◌&&◌, ◌||◌, nat_lt, if◌then◌else◌, List, [], ◌∷◌, ◌++◌, map}
use Rattle.std.specs.Char.{IsScalar}
use Rattle.charsets.specs.declared.decoder.Coding.{Coding}
use Rattle.charsets.specs.declared.decoder.Coding.TheVariants.{Utf8, Ecma35}
use Rattle.charsets.specs.declared.decoder.Unit.{Unit}
use Rattle.charsets.specs.declared.decoder.Unit.TheVariants.{Code, High}
use Rattle.charsets.specs.declared.decoder.Units.{Units}
use Rattle.charsets.specs.declared.decoder.Units.TheVariants.{Nothing, One, Two}
use Rattle.charsets.specs.Utf8.{codes}

-- in ECMA-35 each byte is a unit: below A0 it is the code itself, from A0 on a byte of GR (ECMA-35,
-- 8-bit codes)
abbrev pub unit_of_byte : ℕ → Unit
unit_of_byte b = if nat_lt b 0xA0 then Code b else High b

-- the units of the bytes, and the bytes of the incomplete character at their end
abbrev pub units : Coding → List ℕ → List Unit × List ℕ
units Utf8 bytes = (map (λ c. Code c) (codes bytes).0, (codes bytes).1)
units Ecma35 bytes = (map unit_of_byte bytes, [])

-- the units that a decoder can give: characters, and bytes from A0 on
abbrev pub IsUnit : Unit → Type 0
IsUnit (Code c) = IsScalar c
IsUnit (High b) = 0xA0 ≤ b

-- the units that one byte completes
abbrev pub unit_list : Units → List Unit
unit_list Nothing = []
unit_list (One u) = u ∷ []
unit_list (Two u v) = u ∷ v ∷ []

-- what a decoder keeps: its coding, and the bytes of an incomplete character
pub record Decoding : Type 0 where
  pub coding : Coding
  pub rest : List ℕ

-- the decoder has read these bytes, in its coding
abbrev pub StandsFor : Decoding → List ℕ → Type 0
StandsFor decoder bytes = (units decoder.coding bytes).1 ≡ decoder.rest

-- these units are what it has given for these bytes, and it has read no others
pub record HasGiven (decoder : Decoding) (given : List Unit) (bytes : List ℕ) : Type 0 where
  pub stands : StandsFor decoder bytes
  pub all : given ≡ (units decoder.coding bytes).0

-- the units of bytes that come in pieces: each piece is read after the incomplete character of
-- those before it
abbrev pub units_of_pieces : Coding → List ℕ → List (List ℕ) → List Unit × List ℕ
units_of_pieces coding rest [] = ([], rest)
units_of_pieces coding rest (piece ∷ pieces) =
    let here = units coding (rest ++ piece) in
    let later = units_of_pieces coding here.1 pieces in
    (here.0 ++ later.0, later.1)

-- 20 to 7E, the same in both codings
abbrev pub is_plain : ℕ → Bool
is_plain b = nat_lt 0x1F b && nat_lt b 0x7F

-- graphic characters: 20 to 7E, and all from A0 on
abbrev pub is_character : ℕ → Bool
is_character c = is_plain c || nat_lt 0x9F c
