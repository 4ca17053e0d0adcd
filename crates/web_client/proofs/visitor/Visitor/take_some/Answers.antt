use Rattle.std.proofs.Common.{◌≡◌, ℕ, List, IfOk, false, rules, sym, subst}
use Rattle.web_client.specs.declared.visitor.Visitor.{Visitor}
use Rattle.web_client.specs.declared.wire.Phase.{Phase}
use Rattle.web_client.specs.declared.wire.Phase.TheVariants as phase
use Rattle.web_requests.specs.Serving.{AnswersBytes}
use Rattle.web_client.specs.Frames.{Answers, TakesBytes, TakesOpen}
use Rattle.web_client.proofs.Answering.{unopened, ended, opened, still, is_request}
use Rattle.web_client.proofs.visitor.Visitor.take_some.Goals as goal
use Rattle.web_client.proofs.visitor.Visitor.take_some.Goals.{then-eq+in_ok-answer+in_ok-take_answer, else-eq}

pub returns-else-is_open-clause-takes : goal.returns-else-is_open-clause-takes
returns-else-is_open-clause-takes c =
    let closed : c.if-eq.self.wire.phase ≡ phase.Socket → ⊥ = λ e. cc (c.if-is_open.false, c.is_open.ensures.1 e) in
    elim c.if-eq.branch [
      | then-eq+in_ok-answer+in_ok-take_answer w ↦
          let begun : c.args.self.now.wire.phase ≡ phase.Request = search rules in
          subst (λ (s : Phase). TakesBytes c.args.site.now s c.args.self.now c.if-eq.self false) (sym begun) (
            w.in_ok-answer.answer,
            subst (λ (l : List ℕ). AnswersBytes c.args.site.now l w.in_ok-answer.answer) w.deref.ensures.value
                w.in_ok-answer.ensures,
            unopened c.args.site.now w.in_ok-answer.answer c.args.self.now c.if-eq.self
                (subst (λ (v : Visitor). Answers w.in_ok-answer.answer c.args.self.now v) (sym w.self-is)
                w.in_ok-take_answer.ensures.ok)
                closed,
          )
      | else-eq w ↦
          subst (λ (v : Visitor). TakesBytes c.args.site.now c.args.self.now.wire.phase c.args.self.now v false)
          (sym w.self-is)
          (ended c.args.site.now c.args.self.now.wire.phase c.args.self.now (λ e. search rules)
          (λ e. closed (subst (λ (v : Visitor). v.wire.phase ≡ phase.Socket) (sym w.self-is) e)))
    ]

pub returns-then-is_open-clause-takes : goal.returns-then-is_open-clause-takes
returns-then-is_open-clause-takes c =
    let on : c.if-eq.self.wire.phase ≡ phase.Socket = c.is_open.ensures.0 c.if-is_open.true in
    elim c.if-eq.branch [
      | then-eq+in_ok-answer+in_ok-take_answer w ↦
          let begun : c.args.self.now.wire.phase ≡ phase.Request =
          is_request c.args.self.now.wire.phase (λ e. let bad = rw e at w.if-eq.ensures in cc bad)
          (λ e. let bad = rw e at w.if-eq.ensures in cc bad) in
          opened c.read_frames.result c.args.site.now w.in_ok-answer.answer c.args.self.now c.if-eq.self
          c.read_frames.new.self begun
          (subst (λ (l : List ℕ). AnswersBytes c.args.site.now l w.in_ok-answer.answer) w.deref.ensures.value
          w.in_ok-answer.ensures)
          (subst (λ (v : Visitor). Answers w.in_ok-answer.answer c.args.self.now v) (sym w.self-is)
          w.in_ok-take_answer.ensures.ok) on c.read_frames.ensures.takes
      | else-eq w ↦
          still c.read_frames.result c.args.site.now c.args.self.now c.read_frames.new.self
          (subst (λ (v : Visitor). v.wire.phase ≡ phase.Socket) w.self-is on)
          (subst (λ (v : Visitor). IfOk c.read_frames.result (TakesOpen c.args.site.now v c.read_frames.new.self))
          w.self-is c.read_frames.ensures.takes)
    ]
