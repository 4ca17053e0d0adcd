use Rattle.emulator.proofs.Vocabulary.{take, Terminal, ready, reads, StandsFor}
use Rattle.emulator.proofs.emulator.Emulator.write_anew.Given as goal

abbrev pub invariant-bytes : goal.invariant-bytes
invariant-bytes l = (t : Terminal) → StandsFor l.fn.self t
    → StandsFor l.self (reads (ready t.screen) (take l.byte-index l.bytes)).terminal
