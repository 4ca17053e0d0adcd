use Rattle.web_client.proofs.Rows.{leaves_adds}
use Rattle.web_client.proofs.wire.Wire.close.Goals as goal

pub returns-clause-adds : goal.returns-clause-adds
returns-clause-adds c =
    leaves_adds _ c.close.new.self c.args.self.now.output.items c.close.new.output.items c.in_ok-close.ensures.ok
