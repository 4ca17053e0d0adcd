use Rattle.server_users.proofs.Vocabulary.{◌∙◌, ap, subst, sym, refl, arith, Contains, false≢true}
use Rattle.server_users.proofs.Seen.{name_at, names_are, not_yet, here, nowhere}
use Rattle.server_users.proofs.users.has_name.Goals as goal

pub returns-then-is_named : goal.returns-then-is_named
returns-then-is_named c = (
  λ _. subst (λ ns. Contains ns c.args.name.now) (sym (names_are c.args.users.now))
      (here name_at c.args.users.now c.loop-user.user-index c.user-item.result _ (omega arith)
      (ap name_at (sym c.user-item.is) ∙ c.is_named.ensures.0 c.if-is_named.true)),
  λ _. refl,
)

pub loop-user-preserved : goal.loop-user-preserved
loop-user-preserved c =
    not_yet name_at c.args.users.now c.loop-user.user-index c.user-item.result _ (omega arith)
    c.loop-user.invariant
    (λ e. false≢true (sym c.if-is_named.false ∙ c.is_named.ensures.1 (ap name_at c.user-item.is ∙ e)))

pub returns : goal.returns
returns c = (
  λ e. absurd (false≢true e),
  λ w. absurd (nowhere name_at c.args.users.now c.loop-user.user-index _
      (omega arith) c.loop-user.invariant
      (subst (λ ns. Contains ns c.args.name.now) (names_are c.args.users.now) w)),
)
