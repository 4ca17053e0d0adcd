use Rattle.emulator.proofs.Vocabulary.{◌-◌, length, Utf8, TakesWhole, IsBetween}
use Rattle.emulator.proofs.emulator.Emulator.read_idle.Given as goal

abbrev pub invariant-loop-taken : goal.invariant-loop-taken
invariant-loop-taken l = record { read : TakesWhole l.fn.self l.bytes l.taken l.self; between : IsBetween Utf8 l.self }

abbrev pub decreases-loop-taken : goal.decreases-loop-taken
decreases-loop-taken l = length l.bytes - l.taken
