use Rattle.trail_rights.proofs.Vocabulary.{◌<◌, length, get_or, arith, None, false, [], get_or_default, map_over_more}
use Rattle.trail_rights.proofs.Vocabulary.{Settler, settler_after}
use Rattle.trail_rights.specs.declared.settler.RightsSetting.TheVariants as setting
use Rattle.trail_rights.proofs.Settled.{unsettled}
use Rattle.trail_rights.proofs.settler.settle_all.Goals as goal

abbrev blank : Settler
blank = record { setting = setting.Listed (record { name = [] }); value = false; found = None }

pub loop-settler-preserved : goal.loop-settler-preserved
loop-settler-preserved c =
    let here = get_or c.loop-settler.settler-items c.loop-settler.settler-index blank in
    let inside : c.loop-settler.settler-index < length c.loop-settler.settler-items = omega arith in
    rw c.after.ensures
    (map_over_more (settler_after c.args.mark c.args.act.now) c.deref_mut-settler-items.result.now
    c.loop-settler.settler-items c.loop-settler.settler-index here c.loop-settler-test.true c.loop-settler.invariant
    (get_or_default c.loop-settler.settler-items c.loop-settler.settler-index blank here inside))

pub returns-then-not-may_settle : goal.returns-then-not-may_settle
returns-then-not-may_settle c = unsettled c.args.mark c.args.act.now (c.may_settle.ensures c.if-not-may_settle.true)
    c.args.settlers.now.items
