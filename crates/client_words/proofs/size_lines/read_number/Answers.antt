use Rattle.std.proofs.Common.{List, ℕ, ◌∙◌, sym, subst}
use Rattle.std.specs.Str.Parse.{ParsesUnsigned}
use Rattle.client_words.proofs.Numbers.{number_parsed, number_utf8}
use Rattle.client_words.proofs.size_lines.read_number.Goals as goal

pub returns-in_default : goal.returns-in_default
returns-in_default c = absurd
    (c.in_default.ensures.cases.0 (number_utf8 c.args.word.now (sym c.if-not-is_number.ensures)))

pub returns : goal.returns
returns c =
    let parses = subst (λ (digits : List ℕ). ParsesUnsigned 16 10 digits c.parse.result) c.in-Ok.ensures.cases.0
    c.parse.ensures.value.0 in
    c.ok.ensures.value ∙ number_parsed c.args.word.now c.parse.result parses (sym c.if-not-is_number.ensures)
