use Rattle.server_users.proofs.Vocabulary.{◌∙◌, ap, sym, refl, arith, false≢true, entry_of}
use Rattle.server_users.proofs.Seen.{not_yet, here, nowhere}
use Rattle.server_users.proofs.users.holder.Goals as goal

pub returns-then-shows-clause-some : goal.returns-then-shows-clause-some
returns-then-shows-clause-some c = (
  λ _. here entry_of c.args.users.now c.loop-user.user-index c.user-item.result _ (omega arith)
      (ap entry_of (sym c.user-item.is) ∙ c.shows.ensures.0 c.if-shows.true),
  λ _. refl,
)

pub loop-user-preserved : goal.loop-user-preserved
loop-user-preserved c =
    not_yet entry_of c.args.users.now c.loop-user.user-index c.user-item.result _
    (omega arith) c.loop-user.invariant (λ e. false≢true (sym c.if-shows.false
    ∙ c.shows.ensures.1 (ap entry_of c.user-item.is ∙ e)))

pub returns-clause-some : goal.returns-clause-some
returns-clause-some c = (
  λ e. absurd (false≢true e),
  λ w. absurd
      (nowhere entry_of c.args.users.now c.loop-user.user-index _
      (omega arith) c.loop-user.invariant w),
)
