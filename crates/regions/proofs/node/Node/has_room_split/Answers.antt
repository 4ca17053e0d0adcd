use Rattle.std.proofs.Common.{refl}
use Rattle.regions.specs.Shapes.{shape, split_at}
use Rattle.regions.proofs.Room.{room_fits}
use Rattle.regions.proofs.node.Node.has_room_split.Goals as goal

pub returns : goal.returns
returns c = rw (
  c.fits_split.ensures,
  c.saturating_sub.ensures,
  room_fits (split_at c.args.way c.args.at (shape c.args.self.now))
      c.args.rows c.args.columns,
) refl
