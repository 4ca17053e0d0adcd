-- The rows on rights of several users, proved by computing.
use Rattle.session_laws.proofs.Vocabulary.{refl, digits, items_from, command_named, unless, refused_if, given}
use Rattle.session_laws.proofs.worked.rights_of_users.Goals as goal

pub returns-clause-denied : goal.returns-clause-denied
unfolding digits items_from command_named unless refused_if given
returns-clause-denied c = refl

pub returns-clause-once : goal.returns-clause-once
unfolding digits items_from command_named unless refused_if given
returns-clause-once c = refl

pub returns-clause-by_leader : goal.returns-clause-by_leader
unfolding digits items_from command_named unless refused_if given
returns-clause-by_leader c = refl

pub returns-clause-leader_denied : goal.returns-clause-leader_denied
unfolding digits items_from command_named unless refused_if given
returns-clause-leader_denied c = refl

pub returns-clause-second_leader : goal.returns-clause-second_leader
unfolding digits items_from command_named unless refused_if given
returns-clause-second_leader c = refl

pub returns-clause-two_denied : goal.returns-clause-two_denied
unfolding digits items_from command_named unless refused_if given
returns-clause-two_denied c = refl

pub returns-clause-first_edition : goal.returns-clause-first_edition
unfolding digits items_from command_named unless refused_if given
returns-clause-first_edition c = refl

pub returns-clause-no_leader : goal.returns-clause-no_leader
unfolding digits items_from command_named unless refused_if given
returns-clause-no_leader c = refl

pub returns-clause-leaders : goal.returns-clause-leaders
unfolding digits items_from command_named unless refused_if given
returns-clause-leaders c = refl

pub returns-clause-leader_removed : goal.returns-clause-leader_removed
unfolding digits items_from command_named unless refused_if given
returns-clause-leader_removed c = refl

pub returns-clause-removed : goal.returns-clause-removed
unfolding digits items_from command_named unless refused_if given
returns-clause-removed c = refl

pub returns-clause-owner_kept : goal.returns-clause-owner_kept
unfolding digits items_from command_named unless refused_if given
returns-clause-owner_kept c = (refl, refl, refl)

pub returns-clause-all_or_nothing : goal.returns-clause-all_or_nothing
unfolding digits items_from command_named unless refused_if given
returns-clause-all_or_nothing c = (refl, refl, refl)

pub returns-clause-no_kill : goal.returns-clause-no_kill
unfolding digits items_from command_named unless refused_if given
returns-clause-no_kill c = (refl, refl)

pub returns-clause-no_kill_there : goal.returns-clause-no_kill_there
unfolding digits items_from command_named unless refused_if given
returns-clause-no_kill_there c = refl

pub returns-clause-later_window : goal.returns-clause-later_window
unfolding digits items_from command_named unless refused_if given
returns-clause-later_window c = (refl, refl, refl)

pub returns-clause-later_name : goal.returns-clause-later_name
unfolding digits items_from command_named unless refused_if given
returns-clause-later_name c = refl
