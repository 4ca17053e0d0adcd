use Rattle.command_lang.proofs.Vocabulary.{◌∙◌, ap, sign_place}
use Rattle.command_lang.proofs.Signs.{sign_cut}
use Rattle.command_lang.proofs.values.mask_fault.Goals as goal

pub split_at-requires : goal.split_at-requires
split_at-requires c = sign_cut c.args.text.now _ (c.first_sign.ensures ∙ ap sign_place c.as_bytes.ensures.value)
