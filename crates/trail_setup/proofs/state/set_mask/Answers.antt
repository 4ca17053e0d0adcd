use Rattle.trail_setup.proofs.Vocabulary.{◌≡◌, ◌∙◌, ◌<◌, ◌≤◌, length, ap, sym, arith, masked_in}
use Rattle.trail_setup.proofs.Keeping.{masked_here, masked_last, masked_past}
use Rattle.trail_setup.proofs.state.set_mask.Goals as goal

pub loop-place-preserved : goal.loop-place-preserved
loop-place-preserved c =
    let i = c.loop-place.invariant in
    let xs = c.loop-place.masks.items in
    let below : c.loop-place.place < length xs = omega (arith, c.loop-place-test.true, i.all) in record {
      same = i.same;
      later = masked_past c.args.by c.args.user c.args.bit c.args.value xs c.loop-place.place i.later
          c.index.result.now below c.index.ensures (sym c.is_for.ensures ∙ c.if-is_for.false);
      all = i.all;
    }

pub returns-then-is_for : goal.returns-then-is_for
returns-then-is_for c =
    let i = c.loop-place.invariant in
    let xs = c.loop-place.masks.items in
    let below : c.loop-place.place < length xs = omega (arith, c.loop-place-test.true, i.all) in
    masked_here c.args.by c.args.user c.args.bit c.args.value xs c.loop-place.place i.later c.index.result.now below
    c.index.ensures c.set.new.given c.set.ensures (sym c.is_for.ensures ∙ c.if-is_for.true)
    ∙ ap (masked_in c.args.by c.args.user c.args.bit c.args.value) i.same

pub returns : goal.returns
returns c =
    let i = c.loop-place.invariant in
    let xs = c.loop-place.masks.items in
    let past : length xs ≤ c.loop-place.place = omega (arith, c.loop-place-test.false, i.all) in
    c.in_ok-push.ensures.items
    ∙ masked_last c.args.by c.args.user c.args.bit c.args.value xs c.loop-place.place i.later c.set-2.new.given
    c.set-2.ensures past
    ∙ ap (masked_in c.args.by c.args.user c.args.bit c.args.value) i.same
