use Rattle.std.proofs.Common.{refl, inr, [], ◌∙◌}
use Rattle.session.proofs.simulator.simulate.Goals as goal

pub returns-in-Ok : goal.returns-in-Ok
returns-in-Ok g c = λ groups name shows asks. (
  c.as_slice.result.now,
  (λ none. c.as_slice.ensures.value ∙ c.in-Ok.ensures asks.understood none),
  c.simulate_behind.ensures groups name shows asks,
)

pub returns-in-Err : goal.returns-in-Err
returns-in-Err g c = λ groups name shows asks. ([], (λ none. refl), inr c.report_unread.ensures)
