-- A text that was spelled is read as the same bytes.
use Rattle.std.proofs.Common.{◌≡◌, ◌≢◌, ℕ, ◌<◌, ◌≤◌, ◌+◌, ◌*◌, ◌/◌, ◌%◌, List, [], ◌∷◌, ◌++◌, ap, refl, ◌∙◌, arith}
use Rattle.std.specs.Prelude.{Bool, true, false, cond, ◌&&◌, nat_lt, Option, Some, None}
use Rattle.std.specs.List.{AllByRecursion}
use Rattle.std.specs.Char.{digit_value}
use Rattle.std.specs.Fmt.{digit_glyph}
use Rattle.std.proofs.lemmas.Bool.Decides.{nat_tests}
use Rattle.std.proofs.lemmas.Str.{digit_value-digit_char}
use Rattle.line_fields.specs.Texts.{coded, is_plain, byte_of, put_before, spelled, escaped}
use Rattle.line_fields.proofs.Spelled.{spelled-nil, spelled-plain, spelled-escape}

value_of_glyph : (d : ℕ) → d < 16 → digit_value (digit_glyph false d) ≡ d
value_of_glyph d small = digit_value-digit_char d (omega arith)

below : (d : ℕ) → d < 16 → nat_lt d 16 ≡ true
below d small = grind (arith, nat_tests)

-- two digits by their values
abbrev byte_by : ℕ → ℕ → Option ℕ
byte_by high low = cond (nat_lt high 16 && nat_lt low 16) (Some (high * 16 + low)) None

byte_back : (byte : ℕ) → byte < 256
    → byte_of (digit_glyph false (byte / 16)) (digit_glyph false (byte % 16)) ≡ Some byte
byte_back byte small =
    let high : byte / 16 < 16 = omega arith in
    let low : byte % 16 < 16 = omega arith in
    let sum : byte / 16 * 16 + byte % 16 ≡ byte = omega arith in
    (λ i. byte_by (value_of_glyph (byte / 16) high i) (value_of_glyph (byte % 16) low i))
    ∙ (λ i. cond (below (byte / 16) high i && below (byte % 16) low i) (Some (sum i)) None)

not_backslash : (first byte : ℕ) → is_plain first byte ≡ true → byte ≢ 0x5C
not_backslash first byte plain = grind (arith, nat_tests)

front : (first byte : ℕ) (rest : List ℕ) (is : Bool) → byte < 256 → is_plain first byte ≡ is
    → spelled (cond is (byte ∷ []) (coded byte) ++ rest) ≡ put_before (Some byte) (spelled rest)
front first byte rest true small plain = spelled-plain _ byte rest refl (not_backslash first byte plain)
front first byte rest false small plain =
    spelled-escape _ _ _ _ _ _ rest refl refl refl refl ∙ ap (λ b. put_before b (spelled rest)) (byte_back byte small)

pub read_back : (first : ℕ) (bytes : List ℕ) → AllByRecursion (λ byte. byte < 256) bytes
    → spelled (escaped first bytes) ≡ Some bytes
read_back first [] all = spelled-nil
read_back first (byte ∷ bytes) all = front first byte (escaped first bytes) (is_plain first byte) all.0 refl
    ∙ ap (λ more. put_before (Some byte) more) (read_back first bytes all.1)
