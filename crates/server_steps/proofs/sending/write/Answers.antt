use Rattle.std.proofs.Common.{refl, sym, inr}
use Rattle.server_steps.proofs.sending.write.Goals as goal

pub returns : goal.returns
returns g c = inr (
  c.in-Some.peer.now,
  c.write.new.self,
  sym c.in-Some.ensures.value,
  record {
    full = c.write.ensures.full;
    writes = c.write.ensures.writes;
    written = c.write.ensures.written;
  },
  c.is_closed.ensures,
  refl,
)
