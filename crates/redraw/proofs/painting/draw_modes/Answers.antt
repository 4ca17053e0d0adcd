use Rattle.redraw.proofs.Stages.{modes_take}
use Rattle.redraw.proofs.painting.draw_modes.Goals as goal

pub returns : goal.returns
returns c before after page rows columns pen shows =
    modes_take before after page rows columns pen c.args.old.has_application_arrows c.args.new.has_application_arrows
    c.args.old.has_application_keypad c.args.new.has_application_keypad shows
    c.args.out.now.items c.change.new.out.items c.change-2.new.out.items c.in_ok-change.ensures c.in_ok-change-2.ensures
