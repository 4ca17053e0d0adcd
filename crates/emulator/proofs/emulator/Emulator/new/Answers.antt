use Rattle.emulator.proofs.Vocabulary.{starting, IsSound-starting}
use Rattle.emulator.proofs.Feeding.{stands-ready}
use Rattle.emulator.proofs.emulator.Emulator.new.Goals as goal

pub returns-clause-ok : goal.returns-clause-ok
returns-clause-ok c =
    stands-ready _ (starting c.args.rows c.args.columns c.args.keep)
    (IsSound-starting c.args.rows c.args.columns c.args.keep c.in_ok-screen.ensures.size.grid)
    c.in_ok-screen.ensures.ok c.new-2.ensures.starts c.new-3.ensures.starts
