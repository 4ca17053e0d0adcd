use Rattle.std.proofs.Common.{sym}
use Rattle.line_fields.proofs.Words.{cut_words, uncut_words}
use Rattle.line_fields.proofs.texts.next_word.Goals as goal

pub returns-in-Some : goal.returns-in-Some
returns-in-Some c = cut_words c.args.separator c.args.bytes.now c.in-Some.word.now c.in-Some.rest.now
    (sym c.in-Some.ensures)

pub returns-in-None : goal.returns-in-None
returns-in-None c = uncut_words c.args.separator c.args.bytes.now (sym c.in-None.ensures)
