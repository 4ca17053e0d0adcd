use Rattle.std.proofs.Common.{◌≡◌, ◌∙◌, slice_set, ap, arith}
use Rattle.acl_words.specs.Slots.{without_window}
use Rattle.acl_words.proofs.InPlace.{mapped_below-more, mapped_below-all}
use Rattle.acl_words.proofs.slots.Slots.close.Goals as goal

pub loop-i-preserved : goal.loop-i-preserved
loop-i-preserved c =
    ap (slice_set c.loop-i.self.serials c.loop-i.i) c.without_window.ensures
    ∙ mapped_below-more (without_window c.args.window) c.loop-i.i c.args.self.now.serials c.loop-i.self.serials _
    c.loop-i.invariant (omega arith)

pub returns : goal.returns
returns c = c.loop-i.invariant
    ∙ mapped_below-all (without_window c.args.window) c.loop-i.i c.args.self.now.serials (omega arith)
