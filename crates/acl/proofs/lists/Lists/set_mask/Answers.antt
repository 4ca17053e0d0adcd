use Rattle.acl.proofs.Vocabulary.{◌∙◌, ap, Some, if◌then◌else◌, lookup, with_bit, same_pair, table_of}
use Rattle.acl.proofs.StandsForUsers.{StandsFor-Masked}
use Rattle.acl.proofs.lists.Lists.set_mask.Goals as goal

pub returns-clause-stands : goal.returns-clause-stands
returns-clause-stands c =
    let t = table_of c.args.self.now in
    λ edition owner h s follows. StandsFor-Masked t edition owner h s c.args.by c.insert.new.self.entries c.args.user
    c.args.bit c.args.value
    (λ p. let up = rw c.unwrap.ensures at c.insert.ensures.updates in up.0 p
    ∙ ap (λ b. if same_pair (c.args.by, c.args.user) p then Some b else lookup (same_pair p) t.masks)
    (c.with_bit-bits.ensures ∙ ap (with_bit c.args.bit c.args.value) c.mask_bits.ensures))
