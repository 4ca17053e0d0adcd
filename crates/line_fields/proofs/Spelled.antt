-- What an escaped text spells, from its first byte on.
use Rattle.std.proofs.Common.{◌≡◌, ◌≢◌, ℕ, List, [], ◌∷◌, ◌++◌, length, ap, ◌∙◌, refl, rules, arith, append-nil}
use Rattle.std.specs.Prelude.{Bool, true, false, Option, Some, None, option_map}
use Rattle.line_fields.specs.Texts.{byte_of, put_before, spelled}

pub spelled-nil : spelled [] ≡ Some []
unfolding spelled
spelled-nil = refl

pub spelled-plain : (text : List ℕ) (byte : ℕ) (rest : List ℕ) → text ≡ byte ∷ rest → byte ≢ 0x5C
    → spelled text ≡ put_before (Some byte) (spelled rest)
unfolding spelled
spelled-plain text byte rest e h = rw e (search rules)

pub spelled-no_high : (text : List ℕ) (byte : ℕ) (rest : List ℕ) → text ≡ byte ∷ rest → byte ≡ 0x5C → length rest ≡ 0
    → spelled text ≡ None
unfolding spelled
spelled-no_high text byte [] e h none = rw (e, h) refl
spelled-no_high text byte (high ∷ rest) e h none = absurd (omega arith)

pub spelled-no_low : (text : List ℕ) (byte : ℕ) (rest : List ℕ) (high : ℕ) (behind : List ℕ) → text ≡ byte ∷ rest
    → byte ≡ 0x5C → rest ≡ high ∷ behind → length behind ≡ 0 → spelled text ≡ None
unfolding spelled
spelled-no_low text byte rest high [] e h f none = rw (e, h, f) refl
spelled-no_low text byte rest high (low ∷ behind) e h f none = absurd (omega arith)

pub spelled-escape : (text : List ℕ) (byte : ℕ) (rest : List ℕ) (high : ℕ) (behind : List ℕ) (low : ℕ) (last : List ℕ)
    → text ≡ byte ∷ rest → byte ≡ 0x5C → rest ≡ high ∷ behind → behind ≡ low ∷ last
    → spelled text ≡ put_before (byte_of high low) (spelled last)
unfolding spelled
spelled-escape text byte rest high behind low last e h f g = rw (e, h, f, g) refl

-- what a text spells after bytes that were already read
abbrev pub behind : List ℕ → Option (List ℕ) → Option (List ℕ)
behind out bytes = option_map (λ more. out ++ more) bytes

pub behind-end : (out text : List ℕ) → length text ≡ 0 → behind out (spelled text) ≡ Some out
unfolding spelled
behind-end out [] none = ap Some (append-nil out)
behind-end out (byte ∷ text) none = absurd (omega arith)
