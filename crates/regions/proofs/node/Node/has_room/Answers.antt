use Rattle.std.proofs.Common.{refl}
use Rattle.regions.specs.Shapes.{shape}
use Rattle.regions.proofs.Room.{room_fits}
use Rattle.regions.proofs.node.Node.has_room.Goals as goal

pub returns : goal.returns
returns c = rw (c.fits.ensures, c.saturating_sub.ensures, room_fits (shape c.args.self.now) c.args.rows c.args.columns)
    refl
