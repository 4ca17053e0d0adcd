-- Characters written in UTF-8 are read back.
use Rattle.std.proofs.Common.{◌≡◌, ◌<◌, ℕ, true, List, [], ◌∷◌, refl, arith}
use Rattle.std.specs.Char.{encode_utf8}
use Rattle.std.proofs.lemmas.Bool.Decides.{nat_tests}
use lib.Utf8.{scalar}
use Rattle.charsets.specs.declared.decoder.Coding.TheVariants.{Utf8}
use Rattle.charsets.specs.declared.decoder.Unit.TheVariants.{Code}
use Rattle.charsets.specs.Utf8.{piece, cut, codes, with_front}
use Rattle.charsets.specs.Units.{units}

pub one_byte : (c : ℕ) → c < 0x80 → (rest : List ℕ) → codes (c ∷ rest) ≡ with_front (c ∷ []) (codes rest)
unfolding piece cut
one_byte c h rest = grind (arith, nat_tests)

pub codes-encode : (c : ℕ) → scalar c ≡ true → codes (encode_utf8 c) ≡ (c ∷ [], [])
unfolding encode_utf8 piece cut
codes-encode c s = grind (arith, nat_tests)

pub units-encode : (c : ℕ) → scalar c ≡ true → units Utf8 (encode_utf8 c) ≡ (Code c ∷ [], [])
units-encode c s = rw (codes-encode c s) refl
