use Rattle.trail_lines.proofs.Vocabulary.{◌≡◌, [], length, option_copied, words_behind, blank, notes_of, noted}
use Rattle.trail_lines.proofs.entries.Remarks.read.Given as goal

abbrev pub invariant-notes : goal.invariant-notes
invariant-notes l = notes_of (words_behind blank (option_copied l.rest)) (noted l.notes) ≡ notes_of
    (words_behind blank (option_copied l.fn.words)) ([], [])

abbrev pub decreases-notes : goal.decreases-notes
decreases-notes l = length (words_behind blank (option_copied l.rest))
