use Rattle.std.proofs.Common.{◌≡◌, ℕ, drop, refl, ap, ◌∙◌, subst}
use Rattle.websocket.specs.declared.protocol.context.Step.{Step}
use Rattle.websocket.specs.declared.protocol.frame.codec.FrameStatus.{FrameStatus}
use Rattle.websocket.specs.Connection.{read_step}
use Rattle.websocket.specs.View.{Returns, KeepsRest}
use Rattle.web_client.specs.Frames.{stands}
use Rattle.web_client.proofs.Frames.{completes, leaves, read_whole}
use Rattle.web_client.proofs.wire.Wire.read.Goals as goal
use Rattle.web_client.proofs.wire.Wire.read.Goals.{then-is_last, else-is_last}

pub returns-clause-reads : goal.returns-clause-reads
returns-clause-reads c = λ s.
    let old = c.args.self.now in
    let before = c.args.rest.now in
    let read = completes (read_step old.context before) c.read.new.input c.in-Ok-Complete.step
    (subst (λ (s : FrameStatus Step). Returns (read_step old.context before) c.read.new.input s)
    c.in-Ok-Complete.field-0-is c.in-Ok-Complete.ensures.returns) in
    let rest = subst (λ (s : FrameStatus Step). KeepsRest s before c.read.new.input)
    c.in-Ok-Complete.field-0-is c.in-Ok-Complete.ensures.keeps_rest in
    let socket = leaves (read_step old.context before) old.context c.read.new.self old.output.items
    c.read.new.output.items read.0 c.in-Ok-Complete.ensures.leaves read.1 in
    let waiting : drop c.in-Ok-Complete.step.consumed c.read.new.input ≡ drop read.0.0 before =
    rest.1 ∙ ap (λ (n : ℕ). drop n before) read.2 in
    elim c.if-is_last.branch [
      | then-is_last w ↦ rw w.self-is (read_whole read.0 c.in_ok-frame.frame _ (stands old before s) _ read.1 read.3
          c.in_ok-frame.ensures socket waiting c.answered_for-answered.ensures (λ e. refl)
          (λ n. absurd (n (w.if-is_last.ensures.0 refl))))
      | else-is_last w ↦ rw w.self-is (read_whole read.0 c.in_ok-frame.frame _ (stands old before s) _ read.1 read.3
          c.in_ok-frame.ensures socket waiting c.answered_for-answered.ensures
          (λ e. absurd (cc (w.if-is_last.ensures.1 e))) (λ n. refl))
    ]
