use Rattle.std.proofs.Common.{◌∙◌}
use Rattle.attach_proto.proofs.TextLaws.{text_is, text_isnt}
use Rattle.attach_proto.proofs.fields.text_of.Goals as goal

pub returns-in_ok-of-in-Ok : goal.returns-in_ok-of-in-Ok
returns-in_ok-of-in-Ok c = text_is _ _ c.in-Ok.ensures.cases.1 (c.in_ok-of-in-Ok.ensures ∙ c.in-Ok.ensures.cases.0)

pub returns-in-Err : goal.returns-in-Err
returns-in-Err c = text_isnt _ c.in-Err.ensures.cases.0
