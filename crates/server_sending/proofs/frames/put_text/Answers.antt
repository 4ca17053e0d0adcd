use Rattle.std.proofs.lemmas.Str.{IsUtf8-from_is_utf8}
use Rattle.attach_proto.specs.Spelling.{IsSpellable}
use Rattle.attach_proto.specs.declared.message.Message.TheVariants.{Say}
use Rattle.server_sending.proofs.frames.put_text.Goals as goal

pub returns-in-Err-clause-unspellable : goal.returns-in-Err-clause-unspellable
returns-in-Err-clause-unspellable c = λ _ (spelled : IsSpellable (Say c.args.text.now)).
    c.in-Err.ensures.cases.0 (IsUtf8-from_is_utf8 c.args.text.now spelled.fields)
