-- The rows on which output is hidden, proved by computing.
use Rattle.session_laws.proofs.Vocabulary.{refl, digits, items_from, command_named, unless, refused_if, given}
use Rattle.session_laws.specs.WorkedHiding as rows

pub shown_before : rows.ShownBefore
unfolding digits items_from command_named unless refused_if given
shown_before = refl

pub none_of_own : rows.NoneOfOwn
unfolding digits items_from command_named unless refused_if given
none_of_own = refl

pub turned_before : rows.TurnedBefore
unfolding digits items_from command_named unless refused_if given
turned_before = refl

pub turned_behind : rows.TurnedBehind
unfolding digits items_from command_named unless refused_if given
turned_behind = refl

pub never_read : rows.NeverRead
unfolding digits items_from command_named unless refused_if given
never_read = refl
