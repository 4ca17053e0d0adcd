-- The rows of a guest among four users, proved by computing.
use Rattle.session_laws.proofs.Vocabulary.{refl, ap, sym, ◌∙◌, digits, Execute, same_user-true, items_from}
use Rattle.session_laws.proofs.Vocabulary.{command_named, unless, refused_if, given, may_in, bob}
use Rattle.acl.specs.declared.act.Object.TheVariants as object
use Rattle.session_laws.specs.WorkedGuests as rows
use Rattle.session_laws.proofs.worked.guests.guests_and_others.Goals as goal
use Rattle.session_laws.proofs.WorkedShutting.{None5, none_of_five}

contained : None5 rows.contained bob
unfolding digits command_named unless refused_if given
contained = (refl, refl, refl, refl, refl)

locked : None5 rows.locked bob
unfolding digits command_named unless refused_if given
locked = (refl, refl, refl, refl, refl)

pub returns-clause-guest : goal.returns-clause-guest
returns-clause-guest g user c theirs changes = ap (λ u. may_in rows.contained u Execute (object.Command c))
    (sym (same_user-true bob user theirs)) ∙ none_of_five rows.contained bob contained c changes

pub returns-clause-in_vain : goal.returns-clause-in_vain
unfolding digits items_from command_named unless refused_if given
returns-clause-in_vain c = refl

pub returns-clause-by_himself : goal.returns-clause-by_himself
unfolding digits items_from command_named unless refused_if given
returns-clause-by_himself c = (refl, refl)

pub returns-clause-by_another : goal.returns-clause-by_another
unfolding digits items_from command_named unless refused_if given
returns-clause-by_another c = (refl, refl)

pub returns-clause-powerless : goal.returns-clause-powerless
unfolding digits command_named unless refused_if given
returns-clause-powerless c = record { write = refl; lists = none_of_five rows.locked bob locked }

pub returns-clause-stays : goal.returns-clause-stays
unfolding digits items_from command_named unless refused_if given
returns-clause-stays c = (refl, refl)

pub returns-clause-freed : goal.returns-clause-freed
unfolding digits items_from command_named unless refused_if given
returns-clause-freed c = refl

pub returns-clause-parted : goal.returns-clause-parted
unfolding digits items_from command_named unless refused_if given
returns-clause-parted c = refl
