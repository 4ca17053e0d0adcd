use Rattle.std.proofs.Common.{[], ◌∙◌, ◌+◌, refl, subst, sym, take}
use Rattle.server_sending.specs.declared.typists.TypedFrame.{TypedFrame}
use Rattle.server_sending.proofs.Following.{IsFound, step_on, step_past}
use Rattle.server_sending.proofs.typists.typist_after.Goals as goal
use Rattle.server_sending.proofs.typists.typist_after.Goals.{then-is_between, else-is_between}

abbrev blank : TypedFrame
blank = record { user = record { name = [] }; from = 0; len = 0 }

pub loop-frame-preserved : goal.loop-frame-preserved
loop-frame-preserved c =
    elim c.if-is_between.branch [
      | then-is_between w ↦
          subst (IsFound c.args.last (take (c.loop-frame.frame-index + 1) c.args.frames.now)) (sym w.next-is)
          (step_on c.args.frames.now c.loop-frame.frame-index _ blank c.loop-frame-test.true refl
          c.args.last c.loop-frame.next c.loop-frame.invariant (sym c.is_between.ensures ∙ w.if-is_between.true))
      | else-is_between w ↦
          subst (IsFound c.args.last (take (c.loop-frame.frame-index + 1) c.args.frames.now)) (sym w.next-is)
          (step_past c.args.frames.now c.loop-frame.frame-index _ blank c.loop-frame-test.true refl
          c.args.last c.loop-frame.next c.loop-frame.invariant (sym c.is_between.ensures ∙ w.if-is_between.false))
    ]
