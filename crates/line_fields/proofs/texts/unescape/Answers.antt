use Rattle.std.proofs.Common.{◌≡◌, ◌∙◌, length, arith}
use Rattle.std.proofs.lemmas.Bool.Decides.{nat_tests}
use Rattle.line_fields.proofs.Spelled.{behind-end}
use Rattle.line_fields.proofs.texts.unescape.Goals as goal

pub returns : goal.returns
returns c =
    let none : length c.bytes.rest.now ≡ 0 = grind (arith, nat_tests, c.bytes-test.ensures, c.is_empty.ensures) in
    c.bytes.invariant ∙ behind-end c.bytes.out.items c.bytes.rest.now none
