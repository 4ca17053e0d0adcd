use Rattle.trail_rights.proofs.Vocabulary.{◌∙◌, ap, subst, clients_of, said, marked_by, mark_among, acts_in, HasKept}
use Rattle.trail_rights.proofs.acts.MarkedActs.take.Goals as goal

pub returns-clause-keeps : goal.returns-clause-keeps
returns-clause-keeps c = λ marked s.
    let mark = c.mark_among-mark.ensures
    ∙ ap (λ cs. mark_among cs (said c.args.line.now)) (c.deref.ensures.value ∙ s.clients) in
    subst
    (λ acts. HasKept c.add_all.new.self
    (marked_by (mark_among (clients_of (acts_in marked)) (said c.args.line.now)) marked acts)) c.acts.ensures
    (subst (λ m. HasKept c.add_all.new.self (marked_by m marked c.acts.result.now)) mark
    (c.in_ok-add_all.ensures.keeps marked s))
