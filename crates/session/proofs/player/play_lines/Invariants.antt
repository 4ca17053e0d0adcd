use Rattle.session.proofs.Vocabulary.{◌≡◌, ℕ, List, Some, split_known_bytes, split_byte, reader_remaining}
use Rattle.session.proofs.Vocabulary.{enumerate_source, enumerate_count, Trace, StandsFor, PlayedPart}
use Rattle.session.proofs.player.play_lines.Given as goal

abbrev pub invariant-lines : goal.invariant-lines
invariant-lines g l = (split_byte (enumerate_source l.past-iterator) ≡ 0x0A)
    × ((script : List ℕ) → g.R.Read.remaining l.fn.reader ≡ Some script → (h : Trace) → StandsFor h l.fn.session →
    PlayedPart h script (enumerate_count l.past-iterator)
    (split_known_bytes (reader_remaining g.R.Read.remaining) (enumerate_source l.past-iterator)) l.session
    (g.W.Write.contents l.fn.writer) (g.W.Write.contents l.writer))
