-- The rows on windows and clients, proved by computing.
use Rattle.session_laws.proofs.Vocabulary.{refl, digits, items_from, command_named, unless, refused_if, given}
use Rattle.session_laws.proofs.worked.windows_and_clients.Goals as goal

pub returns-clause-no_more : goal.returns-clause-no_more
unfolding digits items_from command_named unless refused_if given
returns-clause-no_more c = (refl, refl)

pub returns-clause-kill : goal.returns-clause-kill
unfolding digits items_from command_named unless refused_if given
returns-clause-kill c = refl

pub returns-clause-none_in_focus : goal.returns-clause-none_in_focus
unfolding digits items_from command_named unless refused_if given
returns-clause-none_in_focus c = refl

pub returns-clause-new_serial : goal.returns-clause-new_serial
unfolding digits items_from command_named unless refused_if given
returns-clause-new_serial c = (refl, refl)

pub returns-clause-number_taken : goal.returns-clause-number_taken
unfolding digits items_from command_named unless refused_if given
returns-clause-number_taken c = refl

pub returns-clause-no_client : goal.returns-clause-no_client
unfolding digits items_from command_named unless refused_if given
returns-clause-no_client c = refl

pub returns-clause-window_list : goal.returns-clause-window_list
unfolding digits items_from command_named unless refused_if given
returns-clause-window_list c = refl

pub returns-clause-client_list : goal.returns-clause-client_list
unfolding digits items_from command_named unless refused_if given
returns-clause-client_list c = refl

pub returns-clause-keys_in_steps : goal.returns-clause-keys_in_steps
unfolding digits items_from command_named unless refused_if given
returns-clause-keys_in_steps c = (refl, refl)

pub returns-clause-keys_cut : goal.returns-clause-keys_cut
unfolding digits items_from command_named unless refused_if given
returns-clause-keys_cut c = (refl, refl)

pub returns-clause-single_user : goal.returns-clause-single_user
unfolding digits items_from command_named unless refused_if given
returns-clause-single_user c = refl

pub returns-clause-not_let_in : goal.returns-clause-not_let_in
unfolding digits items_from command_named unless refused_if given
returns-clause-not_let_in c = refl

pub returns-clause-unknown : goal.returns-clause-unknown
unfolding digits items_from command_named unless refused_if given
returns-clause-unknown c = refl

pub returns-clause-too_small : goal.returns-clause-too_small
unfolding digits items_from command_named unless refused_if given
returns-clause-too_small c = refl

pub returns-clause-wall : goal.returns-clause-wall
unfolding digits items_from command_named unless refused_if given
returns-clause-wall c = refl

pub returns-clause-stuff : goal.returns-clause-stuff
unfolding digits items_from command_named unless refused_if given
returns-clause-stuff c = refl
