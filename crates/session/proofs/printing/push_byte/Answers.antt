use Rattle.session.proofs.Vocabulary.{rules, ◌≡◌, ◌∙◌, sym, false, ◌<◌, hex_byte}
use Rattle.line_fields.specs.Texts.{is_plain}
use Rattle.session.proofs.printing.push_byte.Goals as goal

pub returns : goal.returns
returns c =
    let small : c.args.byte < 256 = search rules in
    let coded : is_plain 0x20 c.args.byte ≡ false = sym c.is_plain.ensures ∙ c.if-is_plain.false in
    rw coded (rw (c.laid_out.ensures, c.in_radix.ensures, hex_byte false c.args.byte small) at c.write.ensures.bytes)
