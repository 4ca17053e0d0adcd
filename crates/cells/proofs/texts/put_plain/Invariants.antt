use Rattle.cells.proofs.Vocabulary.{◌≡◌, take, true, list_all, is_plain}
use Rattle.cells.proofs.OverPlain.{AreWritten}
use Rattle.cells.proofs.texts.put_plain.Given as goal

abbrev pub invariant-loop-count : goal.invariant-loop-count
invariant-loop-count l = AreWritten l.at l.bytes l.fn.cells l.count l.cells
    × (list_all is_plain (take l.count l.bytes) ≡ true)
