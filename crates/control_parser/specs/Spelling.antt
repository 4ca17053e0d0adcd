-- The 7-bit spelling of a control function.
use Rattle.std.specs.Prelude.{◌≡◌, ℕ, ◌+◌, ◌/◌, ◌%◌, ◌<◌, ◌≤◌, Bool, true, ◌&&◌, ◌||◌, not, nat_lt, nat_le, ◌==◌}
use Rattle.std.specs.Prelude.{if◌then◌else◌, List, [], ◌∷◌, ◌++◌, length, IfSome, option_to_list, take}
use Rattle.std.specs.Char.{encode_utf8, IsScalar}
use Rattle.std.specs.List.{flat_map, list_all}
use Rattle.charsets.specs.declared.decoder.Coding.{Coding}
use Rattle.charsets.specs.declared.decoder.Coding.TheVariants.{Utf8, Ecma35}
use Rattle.charsets.specs.Units.{units}
use Rattle.control_parser.specs.declared.parser.Func.{Func}
use Rattle.control_parser.specs.declared.parser.Func.TheVariants.{Print, High, Control, Esc, Csi}
use Rattle.control_parser.specs.Text.{is_intermediate, is_mark}
use Rattle.control_parser.specs.Grammar.{is_control, is_graphic, is_string_opener, nothing, functions}

abbrev pub digit : ℕ → ℕ
digit n = 0x30 + n % 10

-- a number below 10,000, in decimal
unfoldable pub decimal : ℕ → List ℕ
decimal n =
    if nat_lt n 10 then digit n ∷ []
    else (if nat_lt n 100 then digit (n / 10) ∷ digit n ∷ []
    else (if nat_lt n 1000 then digit (n / 100) ∷ digit (n / 10) ∷ digit n ∷ []
    else digit (n / 1000) ∷ digit (n / 100) ∷ digit (n / 10) ∷ digit n ∷ []))

-- A parameter: 0 is spelled as nothing, since an empty parameter is read as 0 (ECMA-48, 5.4.2;
-- VT220 manual, chapter 2).
abbrev pub parameter : ℕ → List ℕ
parameter n = if n == 0 then [] else decimal n

-- parameters, with a semicolon between each two
abbrev pub numerals : List ℕ → List ℕ
numerals [] = []
numerals (n ∷ ns) = parameter n ++ flat_map (λ m. 0x3B ∷ parameter m) ns

abbrev pub spelling : Func → List ℕ
spelling (Print c) = encode_utf8 c
spelling (High b) = b ∷ []
spelling (Control c) = c ∷ []
spelling (Esc intermediates last) = 0x1B ∷ (intermediates ++ last ∷ [])
spelling (Csi mark params intermediates last) =
    0x1B ∷ 0x5B ∷ ((option_to_list mark ++ (numerals params ++ intermediates)) ++ last ∷ [])

-- a coding in which the spelling is read back
abbrev pub coding_of : Func → Coding
coding_of (High b) = Ecma35
coding_of f = Utf8

abbrev pub are_intermediates : List ℕ → Bool
are_intermediates is = list_all is_intermediate is && nat_le (length is) 2

-- an escape sequence that is complete: ESC and this final byte begin nothing longer
abbrev pub begins_none : List ℕ → ℕ → Bool
begins_none is last =
    not (length is == 0) || not (last == 0x5B || (last == 0x5D || is_string_opener last))

-- the functions that units can give
abbrev pub IsGiven : Func → Type 0
IsGiven (Print c) = (is_graphic c ≡ true) × IsScalar c
IsGiven (High b) = 0xA0 ≤ b
IsGiven (Control c) = is_control c ≡ true
IsGiven (Esc is last) =
    (are_intermediates is ≡ true) × (0x2F < last) × (last < 0x7F) × (begins_none is last ≡ true)
IsGiven (Csi mark params is last) =
    IfSome mark (λ m. is_mark m ≡ true) × (0 < length params) × (length params ≤ 16)
    × (list_all (λ n. nat_lt n 10000) params ≡ true)
    × (are_intermediates is ≡ true) × (0x3F < last) × (last < 0x7F)

-- the bytes are read as these functions, and leave nothing incomplete
abbrev pub ReadsAs : Coding → List ℕ → List Func → Type 0
ReadsAs coding bytes given =
    ((units coding bytes).1 ≡ []) × (functions (units coding bytes).0 ≡ (given, nothing))

-- the first `count` bytes after a CSI complete this function in UTF-8; a count of 0 promises
-- nothing
abbrev pub ReadsBehindCsi : ℕ → List ℕ → Func → Type 0
ReadsBehindCsi count bytes given =
    0 < count → ReadsAs Utf8 (0x1B ∷ 0x5B ∷ take count bytes) (given ∷ [])

-- a function that bytes in UTF-8 can give
abbrev pub IsGivenInUtf8 : Func → Type 0
IsGivenInUtf8 f = IsGiven f × (coding_of f ≡ Utf8)
