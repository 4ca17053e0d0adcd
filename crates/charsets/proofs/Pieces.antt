-- Bytes in pieces, and plain bytes.
use Rattle.std.proofs.Common.{◌≡◌, ℕ, true, List, [], ◌∷◌, ◌++◌, map, refl, sym, arith, append_assoc}
use Rattle.std.specs.List.{concat, list_all}
use Rattle.std.proofs.lemmas.Bool.Decides.{nat_tests}
use Rattle.std.proofs.lemmas.List.{append-nil}
use Rattle.charsets.specs.declared.decoder.Coding.{Coding}
use Rattle.charsets.specs.declared.decoder.Coding.TheVariants.{Utf8, Ecma35}
use Rattle.charsets.specs.declared.decoder.Unit.TheVariants.{Code}
use Rattle.charsets.specs.Utf8.{codes, cut}
use Rattle.charsets.specs.Units.{units, units_of_pieces, unit_of_byte, is_plain}
use Rattle.charsets.proofs.Encoded.{one_byte}
use Rattle.charsets.proofs.Joins.{units-go_on}
use Rattle.charsets.proofs.Pushes.{units-none}

-- pieces read after some bytes
behind_front : (coding : Coding) (pieces : List (List ℕ)) (front : List ℕ) → units coding (front ++ concat pieces)
    ≡ (
      (units coding front).0 ++ (units_of_pieces coding (units coding front).1 pieces).0,
      (units_of_pieces coding (units coding front).1 pieces).1,
    )
behind_front coding [] front = rw (append-nil front, append-nil (units coding front).0) refl
behind_front coding (piece ∷ pieces) front =
    rw (
      ← append_assoc front piece (concat pieces),
      behind_front coding pieces (front ++ piece),
      units-go_on coding front piece,
      append_assoc,
    ) refl

pub units_of_pieces-whole : (coding : Coding) (pieces : List (List ℕ))
    → units_of_pieces coding [] pieces ≡ units coding (concat pieces)
units_of_pieces-whole coding pieces = sym (rw (units-none coding) at (behind_front coding pieces []))

pub codes-plain : (bytes : List ℕ) → list_all is_plain bytes ≡ true → codes bytes ≡ (bytes, [])
unfolding cut
codes-plain [] h = refl
codes-plain (b ∷ bytes) h = grind (arith, nat_tests, one_byte, codes-plain bytes)

bytes-plain : (bytes : List ℕ) → list_all is_plain bytes ≡ true → map unit_of_byte bytes ≡ map (λ b. Code b) bytes
bytes-plain [] h = refl
bytes-plain (b ∷ bytes) h = grind (arith, nat_tests, bytes-plain bytes)

pub units-plain : (coding : Coding) (bytes : List ℕ) → list_all is_plain bytes ≡ true
    → units coding bytes ≡ (map (λ b. Code b) bytes, [])
units-plain Utf8 bytes h = rw (codes-plain bytes h) refl
units-plain Ecma35 bytes h = rw (bytes-plain bytes h) refl
