use Rattle.std.proofs.Common.{arith}
use Rattle.emulator.proofs.Backs.{moved-sized}
use Rattle.emulator.proofs.moved_page.MovedPage.of.Goals as goal

pub returns-clause-sized : goal.returns-clause-sized
returns-clause-sized c = moved-sized c.min.result c.args.screen.now.screen c.kept_count.ensures.sound (omega arith)
