-- Text that a terminal shows as it stands: without control characters (ECMA-48: C0, DELETE and C1), without characters
-- that turn the direction of text (Unicode, UAX #9: U+061C, U+200E, U+200F, U+202A to U+202E, U+2066 to U+2069), and
-- without separators of lines and paragraphs (U+2028, U+2029). A control is written as \xNN, another one as \u{NNNN}.
use Rattle.std.specs.Prelude.{ℕ, zero, suc, ◌==◌, ◌+◌, ◌*◌, ◌/◌, ◌%◌, ◌&&◌, ◌||◌, Bool, true, false, if◌then◌else◌}
use Rattle.std.specs.Prelude.{nat_lt, nat_le, List, [], ◌∷◌, ◌++◌, codes}
use Rattle.client_words.specs.declared.visible.Piece.{Piece}
use Rattle.client_words.specs.declared.visible.Piece.TheVariants.{Kept, Control, C1, Mark, Turn}

-- U+0000 to U+001F and U+007F are one byte
abbrev pub is_control : ℕ → Bool
is_control x = nat_lt x 0x20 || x == 0x7F

-- U+0080 to U+009F
abbrev pub is_c1 : ℕ → ℕ → Bool
is_c1 x y = x == 0xC2 && (nat_le 0x80 y && nat_le y 0x9F)

-- U+061C
abbrev pub is_mark : ℕ → ℕ → Bool
is_mark x y = x == 0xD8 && y == 0x9C

-- U+200E, U+200F, U+2028 to U+202E
abbrev pub is_general : ℕ → ℕ → Bool
is_general y z = y == 0x80 && (nat_le 0x8E z && nat_le z 0x8F || nat_le 0xA8 z && nat_le z 0xAE)

-- U+2066 to U+2069
abbrev pub is_isolate : ℕ → ℕ → Bool
is_isolate y z = y == 0x81 && (nat_le 0xA6 z && nat_le z 0xA9)

abbrev pub is_turn : ℕ → ℕ → ℕ → Bool
is_turn x y z = x == 0xE2 && (is_general y z || is_isolate y z)

-- the character that begins with these bytes
abbrev pub third : ℕ → ℕ → List ℕ → Piece
third x y [] = Kept
third x y (z ∷ rest) = if is_turn x y z then Turn y z else Kept

abbrev pub longer : ℕ → List ℕ → Piece
longer x [] = Kept
longer x (y ∷ rest) =
    if is_c1 x y then C1 y else (if is_mark x y then Mark else third x y rest)

abbrev pub piece : ℕ → List ℕ → Piece
piece x rest = if is_control x then Control x else longer x rest

-- 0 to 9, a to f
abbrev pub digit : ℕ → ℕ
digit n = if nat_lt n 10 then 0x30 + n else 0x57 + n

abbrev pub control_escape : ℕ → List ℕ
control_escape x = 0x78 ∷ digit (x / 16) ∷ digit (x % 16) ∷ []

-- what U+2000 needs to be the character with these last two bytes
abbrev pub turn_code : ℕ → ℕ → ℕ
turn_code y z = y % 64 * 64 + z % 64

abbrev pub turn_escape : ℕ → List ℕ
turn_escape n =
    0x75 ∷ 0x7B ∷ 0x32 ∷ digit (n / 256) ∷ digit (n / 16 % 16) ∷ digit (n % 16) ∷ 0x7D ∷ []

-- what is written for a character: its first byte if it is kept, else a backslash and this
abbrev pub written : Piece → ℕ → List ℕ
written Kept x = x ∷ []
written (Control b) x = 0x5C ∷ control_escape b
written (C1 b) x = 0x5C ∷ control_escape b
written Mark x = 0x5C ∷ codes "u{61c}"
written (Turn y z) x = 0x5C ∷ turn_escape (turn_code y z)

-- how many bytes it has besides the first
abbrev pub further : Piece → ℕ
further Kept = 0
further (Control b) = 0
further (C1 b) = 1
further Mark = 1
further (Turn y z) = 2

-- the text without its first `skip` bytes, which belong to an earlier character
unfoldable pub visible_behind : ℕ → List ℕ → List ℕ
visible_behind skip [] = []
visible_behind (suc skip) (x ∷ rest) = visible_behind skip rest
visible_behind zero (x ∷ rest) =
    written (piece x rest) x ++ visible_behind (further (piece x rest)) rest

abbrev pub visible : List ℕ → List ℕ
visible text = visible_behind 0 text

abbrev pub is_kept : Piece → Bool
is_kept Kept = true
is_kept (Control b) = false
is_kept (C1 b) = false
is_kept Mark = false
is_kept (Turn y z) = false

-- no such character begins at any byte
abbrev pub are_kept : List ℕ → Bool
are_kept [] = true
are_kept (x ∷ rest) = is_kept (piece x rest) && are_kept rest
