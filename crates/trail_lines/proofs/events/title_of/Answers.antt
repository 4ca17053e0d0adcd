use Rattle.trail_lines.proofs.Vocabulary.{◌∙◌, ap, option_copied}
use Rattle.trail_lines.proofs.Printing.{title_read}
use Rattle.trail_lines.proofs.events.title_of.Goals as goal

pub returns : goal.returns
returns c = ap option_copied c.ok.ensures.value
    ∙ title_read _ c.from_utf8.result c.args.bytes.now c.from_utf8.ensures.cases
