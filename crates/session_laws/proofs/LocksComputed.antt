-- The rows of locks, proved by computing.
use Rattle.session_laws.proofs.Vocabulary.{refl, digits, items_from, command_named, unless, refused_if, given}
use Rattle.session_laws.specs.WorkedLocks as rows

pub holds : rows.Holds
unfolding digits items_from command_named unless refused_if given
holds = refl

pub freed : rows.Freed
unfolding digits items_from command_named unless refused_if given
freed = (refl, refl, refl, refl, refl, refl)

pub by_leaders : rows.ByLeaders
unfolding digits items_from command_named unless refused_if given
by_leaders = (refl, refl, refl, refl)

pub keeps : rows.Keeps
unfolding digits items_from command_named unless refused_if given
keeps = (refl, refl, refl, refl, refl, refl, refl, refl)

pub own_keeps : rows.OwnKeeps
unfolding digits items_from command_named unless refused_if given
own_keeps = (refl, refl)
