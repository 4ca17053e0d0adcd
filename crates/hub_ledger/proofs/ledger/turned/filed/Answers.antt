use Rattle.hub_ledger.proofs.Vocabulary.{◌≡◌, Result, Ok, Err, Some, IfOk, sym, subst, result_ok, Edition, UserId}
use Rattle.hub_ledger.proofs.Vocabulary.{begun, Session, StandsFor}
use Rattle.acl.specs.declared.leaders.Edition.TheVariants.{Second}
use Rattle.hub_ledger.proofs.ledger.turned.filed.Goals as goal

made_so : {E : Type 0} (P : Session → Type 0) (r : Result Session E) (s : Session) → Some s ≡ result_ok r → IfOk r P
    → P s
made_so P (Ok x) s is made = subst P (let same : x ≡ s = cc (is) in same) made
made_so P (Err x) s is made = absurd (cc (is))

pub new-requires-2-clause-fresh : goal.new-requires-2-clause-fresh
new-requires-2-clause-fresh g c =
    let s = c.in_ok-session.session in
    subst (λ (u : UserId). StandsFor (begun g.L.Begun.edition u) s) (sym c.requires.begun.1)
    (subst (λ (e : Edition). StandsFor (begun e c.args.owner) s) (sym c.requires.begun.0)
    (made_so (StandsFor (begun Second c.args.owner)) c.new.result s c.in_ok-session.ensures.value c.new.ensures.ok))
