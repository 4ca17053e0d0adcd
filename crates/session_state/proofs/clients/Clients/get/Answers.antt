use Rattle.session_state.proofs.Vocabulary.{◌∙◌, ap, sym, subst, List, row_of, BothOrNone, rows_match, Client}
use Rattle.session_state.proofs.Vocabulary.{ClientStands}
use Rattle.session_state.proofs.Changing.{model_serial, serial_of, serials}
use Rattle.session_state.proofs.clients.Clients.get.Goals as goal

pub returns-clause-stands : goal.returns-clause-stands
returns-clause-stands c = λ rows are.
    subst (λ o. BothOrNone ClientStands (row_of model_serial rows c.args.serial) o)
    (sym
    (c.get.ensures
    ∙ ap (λ (cs : List Client). row_of serial_of cs c.args.serial) c.self.view_is))
    (rows_match ClientStands model_serial serial_of serials rows c.args.self.now c.args.serial are)
