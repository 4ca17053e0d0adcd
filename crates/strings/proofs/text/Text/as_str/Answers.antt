use Rattle.std.proofs.Common.{◌∙◌, ap, sym}
use Rattle.std.specs.Str.{is_utf8}
use Rattle.std.proofs.lemmas.Str.{is_utf8-from_IsUtf8}
use Rattle.strings.proofs.text.Text.as_str.Goals as goal

pub returns-clause-text : goal.returns-clause-text
returns-clause-text c =
    ap is_utf8 (sym (c.as_str.ensures.value ∙ c.self.view_is)) ∙ is_utf8-from_IsUtf8 c.as_str.result.now c.as_str.utf8
