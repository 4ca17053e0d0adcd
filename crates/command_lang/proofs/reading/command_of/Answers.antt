use Rattle.command_lang.proofs.Vocabulary.{sym, ap, ◌∙◌, true≢false, is_some, takes, texts_of}
use Rattle.command_lang.proofs.Fits.{fits, means_one}
use Rattle.command_lang.proofs.reading.command_of.Goals as goal

pub unreachable-requires : goal.unreachable-requires
unreachable-requires c =
    let rest = c.in-Some.rest.now in
    let n = c.in_ok-name.name in
    let fine = sym c.fault_of.ensures ∙ c.in_default-fault_of.is in
    true≢false
    (sym (means_one n (texts_of rest) (fits (takes n) c.args.end rest fine))
    ∙ ap is_some (sym c.in-Ok-None.ensures ∙ c.in-Ok-None.field-0-is))
