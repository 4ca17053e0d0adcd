use Rattle.std.proofs.Common.{◌∙◌, ◌+◌, ◌-◌, ap}
use Rattle.trail_files.specs.Words.{behind_words}
use Rattle.trail_files.proofs.Wording.{behind_more}
use Rattle.trail_files.proofs.words.behind_words.Goals as goal

pub words-preserved : goal.words-preserved
words-preserved c =
    ap (behind_words (c.args.count - (c.words.counter + 1))) c.first_word.ensures.rest
    ∙ behind_more c.args.count c.words.counter c.words.rest.now c.words-test.true ∙ c.words.invariant
