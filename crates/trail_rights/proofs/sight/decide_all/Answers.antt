use Rattle.trail_rights.proofs.Vocabulary.{◌<◌, length, get_or, arith, None, false, [], get_or_default, map_over_more}
use Rattle.trail_rights.proofs.Vocabulary.{Read, Window, Decider, decider_after}
use Rattle.trail_rights.proofs.sight.decide_all.Goals as goal

abbrev blank : Decider
blank = record {
  owner = record { name = [] };
  user = record { name = [] };
  bit = Read;
  object = Window 0;
  listed = false;
  there =
      false;
  found = None;
}

pub loop-decider-preserved : goal.loop-decider-preserved
loop-decider-preserved c =
    let here = get_or c.loop-decider.decider-items c.loop-decider.decider-index blank in
    let inside : c.loop-decider.decider-index < length c.loop-decider.decider-items = omega arith in
    rw c.after.ensures
    (map_over_more (decider_after c.args.mark c.args.act.now) c.deref_mut-decider-items.result.now
    c.loop-decider.decider-items c.loop-decider.decider-index here c.loop-decider-test.true c.loop-decider.invariant
    (get_or_default c.loop-decider.decider-items c.loop-decider.decider-index blank here inside))
