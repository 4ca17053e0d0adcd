use Rattle.std.proofs.Common.{refl, sym, inr}
use Rattle.server_steps.proofs.asking.next_asked.Goals as goal

pub returns : goal.returns
returns g c = inr (
  c.in-Some.peer.now,
  c.next_asked.new.self,
  sym c.in-Some.ensures.value,
  record {
    shut = c.next_asked.ensures.shut;
    again = c.next_asked.ensures.again;
    none = c.next_asked.ensures.none;
    next_is = c.next_asked.ensures.next;
    same = c.next_asked.ensures.same;
  },
  refl,
)
