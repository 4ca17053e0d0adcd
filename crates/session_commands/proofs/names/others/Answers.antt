use Rattle.session_commands.proofs.Vocabulary.{◌<◌, ◌∙◌, sym, length, arith, users_in}
use Rattle.session_commands.proofs.Naming.{another, the_owner}
use Rattle.session_commands.proofs.names.others.Goals as goal
use Rattle.session_commands.proofs.names.others.Goals.{then-ne+in_ok-push, else-ne}

pub loop-place-preserved : goal.loop-place-preserved
loop-place-preserved c =
    let users = users_in c.args.acl.now in
    let i = c.loop-place.place in
    let inside : i < length users = omega (arith, c.user_count-place-end.ensures) in
    elim c.if-ne.branch [
      | then-ne+in_ok-push w ↦
          rw w.names-is (w.in_ok-push.ensures.items
          ∙ another c.owner-owner.result users i c.loop-place.names.items inside
          c.loop-place.invariant c.user_at-user.result c.user_at-user.ensures (sym c.ne.ensures ∙ w.if-ne.true))
      | else-ne w ↦
          rw w.names-is (the_owner c.owner-owner.result users i c.loop-place.names.items inside
          c.loop-place.invariant c.user_at-user.result c.user_at-user.ensures (sym c.ne.ensures ∙ w.if-ne.false))
    ]
