use Rattle.session.proofs.Vocabulary.{sym, ◌∙◌, ap, option_copied, if_utf8}
use Rattle.session.proofs.LineTexts.{title_read}
use Rattle.session.proofs.fields.read_title.Goals as goal

pub returns : goal.returns
returns c =
    ap option_copied c.ok.ensures.value ∙ title_read _ c.from_utf8.result c.in-Some.bytes.now c.from_utf8.ensures.cases
    ∙ ap if_utf8 (ap option_copied (sym c.in-Some.is) ∙ c.in_ok-bytes.ensures)
