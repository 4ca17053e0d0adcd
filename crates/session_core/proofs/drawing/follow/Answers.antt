use Rattle.std.proofs.Common.{sym}
use Rattle.session_core.proofs.Drawings.{followed}
use Rattle.session_core.proofs.drawing.follow.Goals as goal

pub returns-clause-drawn : goal.returns-clause-drawn
returns-clause-drawn c = λ yes.
    followed c.args.client c.args.state.now c.draw_like.new.state c.args.sharing.now c.join.new.self c.args.made.now
    c.draw_like.new.made
    c.in-Some.lead.now c.knows.result (sym c.in-Some.ensures) c.knows.ensures
    (c.in_ok-draw_like.ensures.drawn c.if-not-branch.false) c.join.ensures
