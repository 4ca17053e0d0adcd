-- Texts of JSON (RFC 8259, section 7) in which no character is markup.
use Rattle.std.specs.Prelude.{◌≢◌, ◌≤◌, ℕ, ◌/◌, ◌%◌, Bool, ◌&&◌, ◌||◌, ◌==◌, nat_lt, cond, List, [], ◌∷◌, ◌++◌}
use Rattle.std.specs.Char.{encode_utf8, digit_char}
use Rattle.std.specs.List.{flat_map}

-- a control, one of < > & ' " and \, or a line separator
abbrev pub is_escaped : ℕ → Bool
is_escaped c =
    nat_lt c 0x20 || (c == 0x22) || (c == 0x26) || (c == 0x27) || (c == 0x3C) || (c == 0x3E)
    || (c == 0x5C) || (nat_lt 0x7E c && nat_lt c 0xA0) || (c == 0x2028) || (c == 0x2029)

-- \u and four digits of base 16
abbrev pub escape : ℕ → List ℕ
escape c =
    0x5C ∷ 0x75 ∷ digit_char (c / 4096 % 16) ∷ digit_char (c / 256 % 16) ∷ digit_char (c / 16 % 16)
    ∷ digit_char (c % 16) ∷ []

-- a character: its escape, or itself in UTF-8
unfoldable pub spelled_character : ℕ → List ℕ
spelled_character c = cond (is_escaped c) (escape c) (encode_utf8 c)

abbrev pub spelled_text : List ℕ → List ℕ
spelled_text text = flat_map spelled_character text

-- a byte of no control, and none of < > & ' "
pub record IsHarmless (b : ℕ) : Type 0 where
  pub shown : 0x20 ≤ b
  pub no_delete : b ≢ 0x7F
  pub no_quote : b ≢ 0x22
  pub no_apostrophe : b ≢ 0x27
  pub no_ampersand : b ≢ 0x26
  pub no_less : b ≢ 0x3C
  pub no_greater : b ≢ 0x3E

-- the grammar: what is between the quotes of a string, and the characters that it says
pub data Says : List ℕ → List ℕ → Type 0 where
  nothing : Says [] []
  itself : (c : ℕ) (bytes text : List ℕ) → 0x20 ≤ c → c ≢ 0x22 → c ≢ 0x5C → Says bytes text
      → Says (encode_utf8 c ++ bytes) (c ∷ text)
  escaped : (c : ℕ) (bytes text : List ℕ) → Says bytes text → Says (escape c ++ bytes) (c ∷ text)
