-- Graphic codes if nothing is shifted.
use Rattle.std.proofs.Common.{◌≡◌, ℕ, true, Some, None, arith}
use Rattle.std.proofs.lemmas.Bool.Decides.{nat_tests}
use Rattle.charsets.specs.declared.shifts.CharacterSet.TheVariants.{Ascii}
use Rattle.charsets.specs.declared.shifts.Shifts.{Shifts}
use Rattle.charsets.specs.declared.decoder.Unit.TheVariants.{Code}
use Rattle.charsets.specs.Sets.{character_at}
use Rattle.charsets.specs.Shifts.{set_at, is_graphic, mapped, spent}

pub mapped-ascii : (s : Shifts) (c : ℕ) → set_at s s.gl ≡ Ascii → s.single ≡ None → is_graphic (Code c) ≡ true
    → mapped s (Code c) ≡ Some c
unfolding mapped character_at
mapped-ascii s c a n g = grind (arith, nat_tests)

pub spent-none : (s : Shifts) (c : ℕ) → s.single ≡ None → spent s (Code c) ≡ s
spent-none s c n = grind (arith, nat_tests)
