use Rattle.std.proofs.Common.{List, ℕ, ◌∙◌, ◌^◌, sym, subst}
use Rattle.std.specs.Str.Parse.{ParsesUnsigned}
use Rattle.line_fields.proofs.Digits.{not_number, number_parsed}
use Rattle.line_fields.proofs.numbers.read_u16.Goals as goal

pub returns-in_err-digits_of : goal.returns-in_err-digits_of
returns-in_err-digits_of c = c.from_residual.ensures
    ∙ sym (not_number (2 ^ 16) c.args.word.now c.in_err-digits_of.ensures)

pub returns : goal.returns
returns c =
    let parses = subst (λ (digits : List ℕ). ParsesUnsigned 16 10 digits c.parse.result) c.in_ok-digits_of.ensures.0
    c.parse.ensures.value.0 in
    c.ok.ensures.value ∙ number_parsed 16 c.args.word.now c.parse.result parses c.in_ok-digits_of.ensures.1
