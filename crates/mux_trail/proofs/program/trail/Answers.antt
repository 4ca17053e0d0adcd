use Rattle.std.proofs.Common.{inr}
use Rattle.mux_trail.proofs.program.trail.Goals as goal

pub returns-in-Ok-run : goal.returns-in-Ok-run
returns-in-Ok-run g c =
    inr (c.in-Ok.asked, c.in-Ok.ensures.ok, inr (c.new-outlet.result, c.run.new.output, c.in-Ok-run.ensures))
