use Rattle.server_loop.proofs.Vocabulary.{◌≡◌, ◌∙◌, true, false, ap, sym, subst, rules, Connections, Repeats}
use Rattle.server_loop.proofs.Vocabulary.{ServesOnce, state_of}
use Rattle.server_loop.proofs.Telling.{if_false, if_true}
use Rattle.server_loop.proofs.own.Loop.serve.Goals as goal

pub returns-then-not-is_due_again-clause-serves : goal.returns-then-not-is_due_again-clause-serves
returns-then-not-is_due_again-clause-serves g c =
    let no : c.is_due_again.result ≡ false = search rules in
    if_false _ _ _ (sym c.is_due_again.ensures.due ∙ no)
    (ap (λ (s : Connections g.row.S.Denot). record (state_of c.args.self.now) { connections = s })
    c.is_due_again.ensures.again)

pub returns-clause-serves : goal.returns-clause-serves
returns-clause-serves g c =
    let yes : c.is_due_again.result ≡ true = search rules in
    if_true _ _ _ (sym c.is_due_again.ensures.due ∙ yes)
    (subst (λ (s : Connections g.row.S.Denot). Repeats (ServesOnce g.J.SessionSeat g.S.PeerStream c.args.key) 16
    (record (state_of c.args.self.now) { connections = s }) (state_of c.serve_often.new.self))
    c.is_due_again.ensures.again c.serve_often.ensures)
