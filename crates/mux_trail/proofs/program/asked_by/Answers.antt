use Rattle.std.proofs.Common.{rules}
use Rattle.clap.specs.Words.{found_of}
use Rattle.mux_trail.proofs.program.asked_by.Goals as goal

pub returns-in-Ok-asked_of-clause-ok : goal.returns-in-Ok-asked_of-clause-ok
returns-in-Ok-asked_of-clause-ok g c = (
  c.in-Some.named.0.now,
  found_of c.in-Some.named.1,
  rw c.in-Some.is at c.in-Ok.ensures.ok,
  c.in-Ok-asked_of.ensures,
)
