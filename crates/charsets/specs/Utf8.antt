-- How bytes are cut, from the left, into well-formed characters and maximal broken beginnings
-- (Unicode core specification, 3.9: table 3-7, and the substitution of maximal subparts by U+FFFD).
use Rattle.std.specs.Prelude.{ℕ, zero, suc, ◌+◌, ◌-◌, ◌*◌, Bool, ◌&&◌, nat_lt, ◌==◌, if◌then◌else◌}
use Rattle.std.specs.Prelude.{List, [], ◌∷◌, ◌++◌, Option, Some, None}

-- table 3-7: the byte begins a character of several bytes
abbrev pub is_lead : ℕ → Bool
is_lead a = nat_lt 0xC1 a && nat_lt a 0xF5

-- a byte that may stand third or fourth, and second within the bounds below
abbrev pub continues : ℕ → Bool
continues b = nat_lt 0x7F b && nat_lt b 0xC0

-- the byte b may stand second, after the first byte a: no overlong form, no surrogate, nothing
-- above 10FFFF
abbrev pub follows : ℕ → ℕ → Bool
follows a b =
    if a == 0xE0 then nat_lt 0x9F b && nat_lt b 0xC0
    else (if a == 0xED then nat_lt 0x7F b && nat_lt b 0xA0
    else (if a == 0xF0 then nat_lt 0x8F b && nat_lt b 0xC0
    else (if a == 0xF4 then nat_lt 0x7F b && nat_lt b 0x90
    else continues b)))

abbrev pub code_of_2 : ℕ → ℕ → ℕ
code_of_2 a b = (a - 0xC0) * 64 + (b - 0x80)

abbrev pub code_of_3 : ℕ → ℕ → ℕ → ℕ
code_of_3 a b c = ((a - 0xE0) * 64 + (b - 0x80)) * 64 + (c - 0x80)

abbrev pub code_of_4 : ℕ → ℕ → ℕ → ℕ → ℕ
code_of_4 a b c d = (((a - 0xF0) * 64 + (b - 0x80)) * 64 + (c - 0x80)) * 64 + (d - 0x80)

-- A piece of the bytes: the codes that it gives, and its number of bytes without the first one.
pub record Piece : Type 0 where
  pub gives : List ℕ
  pub more : ℕ

-- a well-formed character
abbrev pub whole : ℕ → ℕ → Option Piece
whole code more = Some (record { gives = code ∷ []; more = more })

-- a byte that begins no character
abbrev pub no_beginning : Option Piece
no_beginning = Some (record { gives = 0xFFFD ∷ []; more = 0 })

-- the codes of a maximal beginning that the byte b breaks off: U+FFFD, or nothing if b is CAN (18).
-- The byte is then read anew.
abbrev pub broken_gives : ℕ → List ℕ
broken_gives b = if b == 0x18 then [] else 0xFFFD ∷ []

abbrev pub broken_by : ℕ → ℕ → Option Piece
broken_by b more = Some (record { gives = broken_gives b; more = more })

-- the piece that begins with these bytes; None if they end inside of it
abbrev pub piece_of_4 : ℕ → ℕ → ℕ → List ℕ → Option Piece
piece_of_4 a b c [] = None
piece_of_4 a b c (d ∷ bytes) = if continues d then whole (code_of_4 a b c d) 3 else broken_by d 2

abbrev pub piece_of_3 : ℕ → ℕ → List ℕ → Option Piece
piece_of_3 a b [] = None
piece_of_3 a b (c ∷ bytes) =
    if continues c
    then (if nat_lt a 0xF0 then whole (code_of_3 a b c) 2 else piece_of_4 a b c bytes)
    else broken_by c 1

abbrev pub piece_of_2 : ℕ → List ℕ → Option Piece
piece_of_2 a [] = None
piece_of_2 a (b ∷ bytes) =
    if follows a b then (if nat_lt a 0xE0 then whole (code_of_2 a b) 1 else piece_of_3 a b bytes)
    else broken_by b 0

unfoldable pub piece : ℕ → List ℕ → Option Piece
piece a bytes =
    if nat_lt a 0x80 then whole a 0
    else (if is_lead a then piece_of_2 a bytes else no_beginning)

-- the codes of the pieces, one after another, and the beginning of a character at the end of the
-- bytes
abbrev pub with_front : List ℕ → List ℕ × List ℕ → List ℕ × List ℕ
with_front front later = (front ++ later.0, later.1)

-- the codes and the beginning at the end, without the first `skip` bytes, which belong to an
-- earlier piece
unfoldable pub cut : ℕ → List ℕ → List ℕ × List ℕ
cut skip [] = ([], [])
cut (suc skip) (a ∷ bytes) = cut skip bytes
cut zero (a ∷ bytes) =
    elim (piece a bytes) [ None ↦ ([], a ∷ bytes) | Some p ↦ with_front p.gives (cut p.more bytes) ]

abbrev pub codes : List ℕ → List ℕ × List ℕ
codes bytes = cut 0 bytes
