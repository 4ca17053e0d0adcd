use Rattle.std.proofs.Common.{refl, sym, inr}
use Rattle.server_steps.proofs.asking.read.Goals as goal

pub returns : goal.returns
returns g c = inr (
  c.in-Some.peer.now,
  c.read.new.self,
  sym c.in-Some.ensures.value,
  record {
    not_read = c.read.ensures.held;
    read = c.read.ensures.read;
    same = c.read.ensures.same;
  },
  refl,
)
