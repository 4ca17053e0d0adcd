use Rattle.redraw.proofs.Inking.{aimed_keeps}
use Rattle.redraw.proofs.pen.Pen.aim.Goals as goal

pub returns-clause-takes : goal.returns-clause-takes
returns-clause-takes c old new rows columns lh rh ch cl =
    aimed_keeps old new rows columns c.args.self.now c.move_to.new.self c.render.new.self c.args.out.now.items
    c.move_to.new.out.items c.render.new.out.items
    (c.in_ok-move_to.ensures.takes old new rows columns lh rh ch cl) (c.in_ok-render.ensures.takes old new rows columns)
