-- The rows on write locks, proved by computing.
use Rattle.session_laws.proofs.Vocabulary.{refl, digits, items_from, command_named, unless, refused_if, given}
use Rattle.session_laws.proofs.worked.locks_of_windows.Goals as goal

pub returns-clause-stops : goal.returns-clause-stops
unfolding digits items_from command_named unless refused_if given
returns-clause-stops c = refl

pub returns-clause-frees : goal.returns-clause-frees
unfolding digits items_from command_named unless refused_if given
returns-clause-frees c = refl

pub returns-clause-stops_owner : goal.returns-clause-stops_owner
unfolding digits items_from command_named unless refused_if given
returns-clause-stops_owner c = refl

pub returns-clause-beats_leader : goal.returns-clause-beats_leader
unfolding digits items_from command_named unless refused_if given
returns-clause-beats_leader c = refl

pub returns-clause-leaving_frees : goal.returns-clause-leaving_frees
unfolding digits items_from command_named unless refused_if given
returns-clause-leaving_frees c = refl

pub returns-clause-entering_takes : goal.returns-clause-entering_takes
unfolding digits items_from command_named unless refused_if given
returns-clause-entering_takes c = refl

pub returns-clause-others_lock : goal.returns-clause-others_lock
unfolding digits items_from command_named unless refused_if given
returns-clause-others_lock c = refl

pub returns-clause-stays : goal.returns-clause-stays
unfolding digits items_from command_named unless refused_if given
returns-clause-stays c = refl

pub returns-clause-withdrawn_everywhere : goal.returns-clause-withdrawn_everywhere
unfolding digits items_from command_named unless refused_if given
returns-clause-withdrawn_everywhere c = refl

pub returns-clause-last_client : goal.returns-clause-last_client
unfolding digits items_from command_named unless refused_if given
returns-clause-last_client c = (refl, refl)

pub returns-clause-default : goal.returns-clause-default
unfolding digits items_from command_named unless refused_if given
returns-clause-default c = refl
