-- Texts of any bytes, spelled with plain bytes.
use Rattle.std.specs.Prelude.{ℕ, Bool, false, if◌then◌else◌, nat_le, not, ◌==◌, ◌&&◌, ◌+◌, ◌*◌}
use Rattle.std.specs.Prelude.{◌/◌, ◌%◌, List, [], ◌∷◌, Option, Some, None}
use Rattle.std.specs.List.{flat_map}
use Rattle.std.specs.Char.{is_digit, digit_value}
use Rattle.std.specs.Fmt.{digit_glyph}

-- ---- spelling

-- a byte as a backslash and two lower-case hexadecimal digits
abbrev pub coded : ℕ → List ℕ
coded byte =
    0x5C ∷ digit_glyph false (byte / 16) ∷ digit_glyph false (byte % 16) ∷ []

-- whether a byte stands for itself: from the first plain byte to 7E, except the backslash
abbrev pub is_plain : ℕ → ℕ → Bool
is_plain first byte = nat_le first byte && nat_le byte 0x7E && not (byte == 0x5C)

-- each other byte is coded
abbrev pub escape : ℕ → ℕ → List ℕ
escape first byte = if is_plain first byte then byte ∷ [] else coded byte

abbrev pub escaped : ℕ → List ℕ → List ℕ
escaped first bytes = flat_map (escape first) bytes

-- ---- reading

-- the byte that two hexadecimal digits, of either case, stand for
abbrev pub byte_of : ℕ → ℕ → Option ℕ
byte_of high low =
    if is_digit high 16 && is_digit low 16 then Some (digit_value high * 16 + digit_value low)
    else None

abbrev pub put_before : Option ℕ → Option (List ℕ) → Option (List ℕ)
put_before (Some byte) (Some bytes) = Some (byte ∷ bytes)
put_before _ _ = None

-- the bytes that a text spells: a backslash and two hexadecimal digits spell one, and any other
-- byte spells itself
unfoldable mutual
  pub spelled : List ℕ → Option (List ℕ)
  spelled [] = Some []
  spelled (byte ∷ rest) =
      if byte == 0x5C then spelled_escaped rest else put_before (Some byte) (spelled rest)

  -- after a backslash
  pub spelled_escaped : List ℕ → Option (List ℕ)
  spelled_escaped (high ∷ low ∷ rest) = put_before (byte_of high low) (spelled rest)
  spelled_escaped _ = None
