use Rattle.session_core.proofs.Vocabulary.{Bool, Ok, sym, ◌∙◌, err_from_is_err_and}
use Rattle.session_core.proofs.Drawings.{draw_step, refused_step, refused_behind, from_before, then_same}
use Rattle.session_core.proofs.drawing.draw_client.Goals as goal

pub returns-in_err-follow-clause-step : goal.returns-in_err-follow-clause-step
returns-in_err-follow-clause-step c =
    let p = err_from_is_err_and c.from_residual.result c.from_residual.ensures.1 in
    rw (p.1, p.2)
    (refused_step c.args.client c.args.state.now c.follow.new.state c.args.sharing.now c.follow.new.sharing
    c.args.step.now c.follow.new.made
    Bool c.in_err-follow.field-0.0 c.in_err-follow.ensures.refused c.in_err-follow.ensures.err
    c.in_err-follow.ensures.unshared)

pub returns-then-branch-clause-step : goal.returns-then-branch-clause-step
returns-then-branch-clause-step c =
    draw_step c.args.client c.args.state.now c.follow.new.state c.args.sharing.now c.follow.new.sharing c.args.step.now
    c.follow.new.made
    (Ok c.made_so.result) (sym c.made_so.ensures) (c.in_ok-follow.ensures.drawn c.if-branch.true)

pub returns-in_err-draw_alone-clause-step : goal.returns-in_err-draw_alone-clause-step
returns-in_err-draw_alone-clause-step c =
    let same = c.in_ok-follow.ensures.other c.if-branch.false in
    let unshared = c.in_ok-follow.ensures.same c.if-branch.false in
    let p = err_from_is_err_and c.from_residual-in_err-draw_alone.result c.from_residual-in_err-draw_alone.ensures.1 in
    rw (p.1, p.2)
    (refused_step c.args.client c.args.state.now c.draw_alone.new.state c.args.sharing.now c.draw_alone.new.sharing
    c.args.step.now c.draw_alone.new.made
    (Unit {0}) c.in_err-draw_alone.field-0.0
    (refused_behind (Unit {0}) c.args.client c.args.state.now c.follow.new.state c.args.step.now.made c.follow.new.made
    c.in_err-draw_alone.field-0.0 same c.in_err-draw_alone.ensures.refused)
    (then_same c.args.state.now c.follow.new.state c.draw_alone.new.state c.args.step.now.made c.follow.new.made
    c.draw_alone.new.made same c.in_err-draw_alone.ensures.err)
    (c.in_err-draw_alone.ensures.unshared ∙ unshared))

pub returns-clause-step : goal.returns-clause-step
returns-clause-step c =
    let same = c.in_ok-follow.ensures.other c.if-branch.false in
    let unshared = c.in_ok-follow.ensures.same c.if-branch.false in
    draw_step c.args.client c.args.state.now c.draw_alone.new.state c.args.sharing.now c.draw_alone.new.sharing
    c.args.step.now c.draw_alone.new.made
    (Ok c.made_so-2.result) (sym c.made_so-2.ensures)
    (from_before c.args.client c.args.state.now c.draw_alone.new.state c.args.sharing.now c.draw_alone.new.sharing
    c.args.step.now.made c.draw_alone.new.made
    c.follow.new.state c.follow.new.sharing c.follow.new.made same unshared c.in_ok-draw_alone.ensures.drawn)
