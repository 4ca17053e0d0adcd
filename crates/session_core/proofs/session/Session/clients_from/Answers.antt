use Rattle.session_core.proofs.Vocabulary.{sym, ap, ◌∙◌, least_from}
use Rattle.session_state.specs.declared.client.Client.{Client}
use Rattle.session_core.proofs.Lowest.{serials_are, least_found, least_lost, at_least}
use Rattle.session_core.proofs.session.Session.clients_from.Goals as goal

pub returns-in-Some-clause-least : goal.returns-in-Some-clause-least
returns-in-Some-clause-least c = λ h st.
    sym (ap (λ ns. least_from c.args.serial ns)
    (sym (serials_are h c.args.self.now c.as_slice-clients.result.now st c.as_slice-clients.ensures))
    ∙ least_found (λ (v : Client). v.serial) c.as_slice-clients.result.now c.args.serial c.in-Some.place
    c.index-clients-place.result (sym c.place_from.ensures.place ∙ c.in-Some.is))

pub returns-in-None-clause-least : goal.returns-in-None-clause-least
returns-in-None-clause-least c = λ h st.
    sym (ap (λ ns. least_from c.args.serial ns)
    (sym (serials_are h c.args.self.now c.as_slice-clients.result.now st c.as_slice-clients.ensures))
    ∙ least_lost (λ (v : Client). v.serial) c.as_slice-clients.result.now c.args.serial
    (sym c.place_from.ensures.place ∙ c.in-None.is))

pub returns-in-Some-clause-bound : goal.returns-in-Some-clause-bound
returns-in-Some-clause-bound c =
    at_least (λ (v : Client). v.serial) c.as_slice-clients.result.now c.args.serial c.in-Some.place
    c.index-clients-place.result (sym c.place_from.ensures.place ∙ c.in-Some.is)
