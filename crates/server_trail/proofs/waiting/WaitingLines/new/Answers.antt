use Rattle.server_trail.proofs.Runs.{none_put}
use Rattle.server_trail.proofs.waiting.WaitingLines.new.Goals as goal

pub invariant_of-result : goal.invariant_of-result
invariant_of-result c = record { lines = ∣ none_put c.new.result c.new.ensures ∣₁ }
