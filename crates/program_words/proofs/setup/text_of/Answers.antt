use Rattle.program_words.proofs.SetupReading.{is_text, no_text}
use Rattle.program_words.proofs.setup.text_of.Goals as goal

pub returns-in-Ok-clause-ok : goal.returns-in-Ok-clause-ok
returns-in-Ok-clause-ok c =
    (c.in-Ok.ensures.cases.0, is_text c.args.number c.args.line.now c.if-line-gt-LONGEST.false c.in-Ok.ensures.cases.1)

pub returns-in-Err-clause-err : goal.returns-in-Err-clause-err
returns-in-Err-clause-err c = no_text c.args.number c.args.line.now c.if-line-gt-LONGEST.false c.in-Err.ensures.cases.0
