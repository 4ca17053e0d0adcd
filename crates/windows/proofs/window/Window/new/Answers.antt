use Rattle.std.proofs.Common.{refl}
use Rattle.windows.proofs.Writings.{stands_new}
use Rattle.windows.proofs.window.Window.new.Goals as goal

pub returns-clause-ok : goal.returns-clause-ok
returns-clause-ok c =
    stands_new c.args.serial c.args.number c.args.size.rows c.args.size.columns c.args.size.keep c.args.title.now _ refl
    refl c.in_ok-title.ensures.ok c.in-Ok.ensures.ok
