use Rattle.std.proofs.Common.{◌≡◌, sym, subst, arith}
use Rattle.std.proofs.Math.Logic.{∥∥₁_map}
use Rattle.server_trail.specs.Runs.{AreRun, HasPut}
use Rattle.server_trail.proofs.Runs.{ready_run, took}
use Rattle.server_trail.proofs.waiting.WaitingLines.take.Goals as goal

pub invariant_of-self : goal.invariant_of-self
invariant_of-self c = record {
  lines = ∥∥₁_map c.args.self.now.lines (λ h. subst (λ n. HasPut n c.take-bytes.new.self) (sym c.next-next.ensures)
      (took c.args.self.now.taken c.args.self.now.merge c.take-bytes.new.self c.take-bytes.result.items h
      c.take-bytes.ensures.next c.take-bytes.ensures.text c.take-bytes.ensures.taken));
}

pub returns-clause-lines : goal.returns-clause-lines
returns-clause-lines c = ∥∥₁_map c.args.self.now.lines (λ h.
    let here : c.args.self.now.taken ≡ c.args.sent = omega (arith, c.if-sent-self.false) in
    let next : c.args.self.now.merge.next ≡ c.next-next.result =
    omega (arith, c.next-next.ensures, c.take-bytes.ensures.next) in
    subst (λ t. AreRun c.args.sent c.next-next.result t) (sym c.take-bytes.ensures.text)
    (subst (λ n. AreRun c.args.sent n c.args.self.now.merge.ready.items) next
    (subst (λ n. AreRun n c.args.self.now.merge.next c.args.self.now.merge.ready.items) here
    (ready_run c.args.self.now.taken c.args.self.now.merge h))))
