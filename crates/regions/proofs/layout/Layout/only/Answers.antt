use Rattle.regions.proofs.Keeping.{alone_has_room}
use Rattle.regions.proofs.layout.Layout.only.Goals as goal

pub returns-clause-room : goal.returns-clause-room
returns-clause-room c = λ rows columns h. alone_has_room c.args.self.now.shape rows columns h
