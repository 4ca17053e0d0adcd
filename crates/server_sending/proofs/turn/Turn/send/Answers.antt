use Rattle.std.proofs.Common.{arith, drop, subst, sym, List, ◌≡◌, ◌+◌, ◌-◌, ◌∙◌, ap}
use Rattle.std.proofs.lemmas.Grind.{common_steps}
use Rattle.server_sending.specs.Written.{AreWithin, Waiting, unbegun}
use Rattle.server_sending.specs.declared.typists.TypedFrame.{TypedFrame}
use Rattle.server_sending.proofs.Typing.{within_sent}
use Rattle.server_sending.proofs.Writing.{kept, moved}
use Rattle.server_sending.proofs.turn.Turn.send.Goals as goal

pub returns-in_err-taken-clause-written : goal.returns-in_err-taken-clause-written
returns-in_err-taken-clause-written g c = λ put w. kept _ _ c.in_err-taken.ensures.bytes put _ w

pub returns-clause-written : goal.returns-clause-written
returns-clause-written g c = λ put w.
    let inside = c.self.inside in
    let rest : drop (inside.sent + c.in_ok-taken.taken) inside.bytes.items ≡ drop
    c.in_ok-taken.taken (drop inside.sent inside.bytes.items) = grind (arith, common_steps) in
    let unsent : c.split_at.result.1.now ≡ c.args.self.now.unsent = c.split_at.ensures.back
    ∙ (ap (λ xs. drop inside.sent xs) c.as_slice.ensures.value
    ∙ ap (λ (w : Waiting). w.unsent) c.self.view_is) in
    moved _ _ c.in_ok-taken.taken c.args.self.now _ (rw (← unsent) c.in_ok-taken.ensures.bytes) (rw
    (← c.self.view_is) (c.shrink-self-inside.ensures.rest ∙ rest)) put w

pub invariant_of-self : goal.invariant_of-self
invariant_of-self g c =
    let sent = c.self.inside.sent in
    let taken = c.in_ok-taken.taken in
    let len = c.self.inside.bytes.len in (
      c.shrink-self-inside.ensures.few,
      λ e. omega (arith, c.self.invariant.1 e, c.shrink-self-inside.ensures.less, c.shrink-self-inside.ensures.room),
      subst (λ (l : List TypedFrame). AreWithin 0 l (c.shrink-self-inside.new.bytes.len - c.shrink-self-inside.result))
          (sym c.forget_begun.ensures) (subst (AreWithin 0 (unbegun taken c.self.inside.typed.items))
          (sym c.shrink-self-inside.ensures.len) (within_sent c.self.inside.typed.items sent taken len c.self.invariant.2)),
    )
