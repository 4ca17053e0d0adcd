-- The rows of the traps, proved by computing.
use Rattle.session_laws.proofs.Vocabulary.{refl, is_utf8, chars, digits, char_width, command_named, single, double}
use Rattle.session_laws.proofs.Vocabulary.{words_faults, unless, refused_if, given, InBoth}
use lib.Utf8.{encode}
use Rattle.strings.specs.Lines.{parts, line}
use Rattle.session_laws.specs.WorkedTraps as rows

-- what the rows compute with
computing : Unit {0}
unfolding is_utf8 chars encode char_width digits command_named single double parts line words_faults
    unless refused_if given
computing = tt

pub late_comers : InBoth rows.LateComers
unfolding computing
late_comers = ((refl, refl, refl, refl), (refl, refl, refl, refl))

pub pupil : InBoth rows.Pupil
unfolding computing
pupil = ((refl, refl), (refl, refl))

pub between : InBoth rows.Between
unfolding computing
between = ((refl, refl), (refl, refl))

pub presets : InBoth rows.Presets
unfolding computing
presets = ((refl, refl, refl, refl), (refl, refl, refl, refl))

pub removed : InBoth rows.Removed
unfolding computing
removed = ((refl, refl, refl, refl), (refl, refl, refl, refl))

pub back : InBoth rows.Back
unfolding computing
back = ((refl, refl), (refl, refl))

pub single_user : InBoth rows.Single
unfolding computing
single_user = ((refl, refl, refl, refl), (refl, refl, refl, refl))

pub parked : InBoth rows.Parked
unfolding computing
parked = ((refl, refl, refl, refl), (refl, refl, refl, refl))

pub locked : InBoth rows.Locked
unfolding computing
locked = ((refl, refl, refl), (refl, refl, refl))

pub misled : InBoth rows.Misled
unfolding computing
misled = (refl, refl)

pub pens : InBoth rows.Pens
unfolding computing
pens = ((refl, refl), (refl, refl))
