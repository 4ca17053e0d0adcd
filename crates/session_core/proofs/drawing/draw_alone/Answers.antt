use Rattle.session_core.proofs.Vocabulary.{Option, sym, subst, refl, Made, State, DrawsBy, DrawsSharing}
use Rattle.session_core.proofs.Drawings.{drawn_none, drawn_own}
use Rattle.session_core.proofs.drawing.draw_alone.Goals as goal

pub returns-in_default-clause-drawn : goal.returns-in_default-clause-drawn
returns-in_default-clause-drawn c =
    drawn_none c.args.client c.args.state.now c.draw.new.state c.args.sharing.now c.args.sharing.now c.args.made.now
    c.draw.new.made
    (subst
    (λ (o : Option Made). DrawsBy c.args.client o c.args.state.now c.draw.new.state c.args.made.now c.draw.new.made)
    c.in_default.is c.in_ok-frame.ensures.by) refl

pub returns-clause-drawn : goal.returns-clause-drawn
returns-clause-drawn c =
    subst
    (λ (s : State). DrawsSharing c.args.client c.args.state.now c.args.sharing.now s c.share.new.sharing
    c.args.made.now c.draw.new.made) (sym c.share.ensures.state)
    (drawn_own c.args.client c.args.state.now c.draw.new.state c.args.sharing.now c.share.new.sharing c.args.made.now
    c.draw.new.made c.in-Some.frame
    (subst
    (λ (o : Option Made). DrawsBy c.args.client o c.args.state.now c.draw.new.state c.args.made.now c.draw.new.made)
    c.in-Some.is c.in_ok-frame.ensures.by) c.share.ensures.shared)
