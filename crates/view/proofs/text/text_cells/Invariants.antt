use Rattle.view.proofs.Vocabulary.{◌≡◌, ◌++◌, drop, length, chars, text_cells}
use Rattle.view.proofs.text.text_cells.Given as goal

abbrev pub invariant-loop-character : goal.invariant-loop-character
invariant-loop-character l = text_cells l.rendition (chars l.text) ≡ l.cells.items ++ text_cells l.rendition
    (drop (length l.yielded) (chars l.text))
