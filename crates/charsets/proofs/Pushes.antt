-- No byte, and one more byte, in units.
use Rattle.std.proofs.Common.{◌≡◌, [], refl}
use Rattle.std.proofs.lemmas.List.{map-append}
use Rattle.charsets.specs.Utf8.{cut}
use Rattle.charsets.specs.Units.{units}
use Rattle.charsets.specs.declared.decoder.Coding.{Coding}
use Rattle.charsets.specs.declared.decoder.Coding.TheVariants.{Utf8, Ecma35}
use Rattle.charsets.proofs.Cuts.{codes-go_on}

-- without a byte there is no unit
pub units-none : (coding : Coding) → units coding [] ≡ ([], [])
unfolding cut
units-none Utf8 = refl
units-none Ecma35 = refl

pub ruleset goes_on = (codes-go_on, map-append)
