-- The rows of the policies, proved by computing.
use Rattle.session_laws.proofs.Vocabulary.{refl, is_utf8, chars, digits, char_width, command_named, single, double}
use Rattle.session_laws.proofs.Vocabulary.{words_faults, unless, refused_if, given}
use lib.Utf8.{encode}
use Rattle.strings.specs.Lines.{parts, line}
use Rattle.session_laws.specs.WorkedPolicies as rows

-- what the rows compute with
computing : Unit {0}
unfolding is_utf8 chars encode char_width digits command_named single double parts line words_faults
    unless refused_if given
computing = tt

pub support : rows.InBoth rows.Support
unfolding computing
support = ((refl, refl, refl, refl, refl, refl), (refl, refl, refl, refl, refl, refl))

pub class : rows.InBoth rows.Class
unfolding computing
class = ((refl, refl, refl, refl, refl, refl, refl, refl, refl), (refl, refl, refl, refl, refl, refl, refl, refl, refl))

pub ops : rows.InBoth rows.Ops
unfolding computing
ops = ((refl, refl, refl, refl, refl, refl, refl, refl), (refl, refl, refl, refl, refl, refl, refl, refl))
