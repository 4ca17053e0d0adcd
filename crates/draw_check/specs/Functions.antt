-- The control functions that draws use, byte by byte: graphic characters in UTF-8, CUP, CUF, NEL, SGR, ECH, EL,
-- DECCKM, DECTCEM, DECKPAM and DECKPNM, and what a draw for an unknown terminal begins with, CAN, RIS, ESC % G and
-- DECRM of DECAWM. Each definition says which bytes may end a function after the bytes that it names.
use Rattle.std.specs.Prelude.{◌≡◌, ℕ, ◌+◌, ◌==◌, ◌&&◌, ◌||◌, nat_lt, Bool, true, false, if◌then◌else◌}
use Rattle.std.specs.Prelude.{List, [], ◌∷◌, ◌++◌}
use Prim.Native.Char.{code}
use Rattle.std.specs.List.{AllByRecursion, concat}
use Rattle.charsets.specs.Units.{is_plain}
use Rattle.charsets.specs.Utf8.{is_lead, follows, continues}

abbrev pub is_empty : List ℕ → Bool
is_empty [] = true
is_empty (b ∷ bytes) = false

-- ---- characters in UTF-8 (Unicode core specification, 3.9, table 3-7), without the controls of C1

-- the byte b may stand second, after the first byte a
abbrev pub is_second : ℕ → ℕ → Bool
is_second a b = if a == 0xC2 then nat_lt 0x9F b && nat_lt b 0xC0 else follows a b

abbrev pub ends_last : List ℕ → Bool
ends_last [] = false
ends_last (b ∷ bytes) = continues b && is_empty bytes

abbrev pub ends_third : List ℕ → Bool
ends_third [] = false
ends_third (b ∷ bytes) = continues b && ends_last bytes

-- after the first byte a of a character of several bytes
abbrev pub ends_lead : ℕ → List ℕ → Bool
ends_lead a [] = false
ends_lead a (b ∷ bytes) =
    is_second a b
    && (if nat_lt a 0xE0 then is_empty bytes
    else (if nat_lt a 0xF0 then ends_last bytes else ends_third bytes))

-- ---- control sequences (ECMA-48, 5.4)

-- DECSM or DECRM
abbrev pub ends_switch : List ℕ → Bool
ends_switch [] = false
ends_switch (b ∷ bytes) = (b == code "h" || b == code "l") && is_empty bytes

-- DECRM
abbrev pub ends_off : List ℕ → Bool
ends_off [] = false
ends_off (b ∷ bytes) = b == code "l" && is_empty bytes

-- after CSI ? 2
abbrev pub ends_cursor : List ℕ → Bool
ends_cursor [] = false
ends_cursor (b ∷ bytes) = b == code "5" && ends_switch bytes

-- after CSI ?: DECCKM (1), DECTCEM (25), and DECAWM (7), which is only reset
abbrev pub ends_mode : List ℕ → Bool
ends_mode [] = false
ends_mode (b ∷ bytes) =
    if b == code "1" then ends_switch bytes
    else (if b == code "2" then ends_cursor bytes
    else b == code "7" && ends_off bytes)

-- a decimal digit, or the semicolon between two values
abbrev pub is_value : ℕ → Bool
is_value b = nat_lt 0x2F b && nat_lt b 0x3A || b == 0x3B

-- CUF, CUP, EL, ECH, SGR
abbrev pub is_last : ℕ → Bool
is_last b = b == code "C" || (b == code "H" || (b == code "K" || (b == code "X" || b == code "m")))

-- after CSI and n bytes of values: there are at most 79, for sixteen values of four digits
abbrev pub ends_values : ℕ → List ℕ → Bool
ends_values n [] = false
ends_values n (b ∷ bytes) =
    if is_value b then nat_lt n 79 && ends_values (n + 1) bytes
    else is_last b && is_empty bytes

-- after CSI
abbrev pub ends_control : List ℕ → Bool
ends_control [] = false
ends_control (b ∷ bytes) = if b == code "?" then ends_mode bytes else ends_values 0 (b ∷ bytes)

-- ---- functions

-- after ESC %: UTF-8 (ECMA-35, 15.4)
abbrev pub ends_coding : List ℕ → Bool
ends_coding [] = false
ends_coding (b ∷ bytes) = b == code "G" && is_empty bytes

-- NEL, DECKPAM, DECKPNM, RIS
abbrev pub is_short : ℕ → Bool
is_short b = b == code "E" || (b == code "=" || (b == code ">" || b == code "c"))

-- after ESC
abbrev pub ends_escape : List ℕ → Bool
ends_escape [] = false
ends_escape (b ∷ bytes) =
    if b == code "[" then ends_control bytes
    else (if b == code "%" then ends_coding bytes
    else is_short b && is_empty bytes)

-- one function that draws use
abbrev pub is_function : List ℕ → Bool
is_function [] = false
is_function (b ∷ bytes) =
    if is_plain b || b == 0x18 then is_empty bytes
    else (if b == 0x1B then ends_escape bytes
    else is_lead b && ends_lead b bytes)

abbrev pub IsFunction : List ℕ → Type 0
IsFunction bytes = is_function bytes ≡ true

-- the bytes are such functions, one after another, and nothing else
pub record AreDraws (bytes : List ℕ) : Type 0 where
  pub functions : List (List ℕ)
  pub used : AllByRecursion IsFunction functions
  pub whole : bytes ≡ concat functions

-- the bytes begin such a list: more bytes can complete it
pub record BeginDraws (bytes : List ℕ) : Type 0 where
  pub more : List ℕ
  pub draws : AreDraws (bytes ++ more)
