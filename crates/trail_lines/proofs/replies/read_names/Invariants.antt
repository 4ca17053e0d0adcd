use Rattle.trail_lines.proofs.Vocabulary.{◌≡◌, [], length, option_copied, words, words_behind, comma, leaders_of}
use Rattle.trail_lines.proofs.replies.read_names.Given as goal

abbrev pub invariant-names : goal.invariant-names
invariant-names l = leaders_of (words_behind comma (option_copied l.rest)) l.leaders ≡ leaders_of
    (words comma l.fn.word) []

abbrev pub decreases-names : goal.decreases-names
decreases-names l = length (words_behind comma (option_copied l.rest))
