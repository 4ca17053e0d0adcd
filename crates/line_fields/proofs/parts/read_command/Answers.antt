use Rattle.std.proofs.Common.{◌∙◌, rules, tests}
use Rattle.std.specs.Str.{bytes_eq}
use Rattle.std.proofs.lemmas.Iterator.{YieldsList-from_slice}
use Rattle.std.proofs.lemmas.Iterator.Search.{find_from_yields_List}
use Rattle.acl.specs.command_name.TheConstants.CommandName.{ALL}
use Rattle.command_lang.specs.Names.{name_text}
use Rattle.line_fields.specs.Parts.{command_in}
use Rattle.line_fields.proofs.parts.read_command.Goals as goal

pub returns : goal.returns
unfolding command_in
returns c =
    let e = find_from_yields_List (λ k. bytes_eq (name_text k) c.args.word.now) _ _ c.find.result c.find.ensures.ran
    (YieldsList-from_slice ALL c.iter.ensures.rest) (λ x b q k. search (rules, tests)) in
    c.copied.ensures ∙ e
