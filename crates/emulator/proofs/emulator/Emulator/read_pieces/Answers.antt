use Rattle.emulator.proofs.Wholes.{nothing-whole}
use Rattle.emulator.proofs.emulator.Emulator.read_pieces.Goals as goal

pub returns-else-is_idle-clause-taken : goal.returns-else-is_idle-clause-taken
returns-else-is_idle-clause-taken c = (nothing-whole c.args.self.now c.args.bytes.now).taken
