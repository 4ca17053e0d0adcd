use Rattle.cells.proofs.Vocabulary.{◌≡◌, ◌+◌, sym, ap, ◌∙◌, arith, bit_and, bits_of, rendition_of, rendition_with}
use Rattle.cells.proofs.Packed.{few, rendition_back}
use Rattle.cells.proofs.rendition.Rendition.with.Goals as goal

new_bits : (c : goal.After-struct_known-1) → bit_and c.self.inside.bits c.parts-kept.result.0 + c.parts-kept.result.1
    ≡ bits_of (rendition_with c.args.self c.args.attribute)
new_bits c =
    let old : c.self.inside.bits ≡ bits_of c.args.self = sym c.self.invariant ∙ ap bits_of c.self.view_is in
    rw old (c.parts-kept.ensures c.args.self)

pub overflow_add-result : goal.overflow_add-result
overflow_add-result c = omega (arith, new_bits c, few (rendition_with c.args.self c.args.attribute))

pub returns : goal.returns
returns c = ap rendition_of (new_bits c) ∙ rendition_back (rendition_with c.args.self c.args.attribute)

pub invariant_of-result : goal.invariant_of-result
invariant_of-result c = ap bits_of (returns c) ∙ sym (new_bits c)
