use Rattle.server_loop.proofs.Vocabulary.{◌∙◌, ◌-◌, ℕ, List, ap, subst, state_of}
use Rattle.std.proofs.Common.{length}
use Rattle.session.specs.Trace.{Output}
use Rattle.server_loop.specs.Obeying.{SubmitsFor}
use Rattle.server_loop.proofs.own.Loop.output.Goals as goal

pub returns-clause-step : goal.returns-clause-step
returns-clause-step g c =
    let mid = state_of c.change.new.self in (
      mid,
      subst (λ (bytes : List ℕ). SubmitsFor g.J.SessionSeat (Output c.args.window bytes) c.args.key
          (state_of c.args.self.now) mid) c.piece-bytes.ensures c.change.ensures,
      ap (λ (n : ℕ). record mid { output_left = n }) (c.saturating_sub-self.ensures
          ∙ ap (λ (bytes : List ℕ). mid.output_left - length bytes) c.piece-bytes.ensures),
    )
