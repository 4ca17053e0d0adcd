use Rattle.std.proofs.Common.{ℕ, Bool, Option, refl, subst}
use Rattle.server_loop.specs.Submitting.{state_of}
use Rattle.server_loop.specs.Turning.{LetsOldestGo}
use Rattle.server_turns.specs.Calls.{Hand}
use Rattle.server_turns.specs.Course.{course_of}
use Rattle.server_turns.proofs.turner.Turner.admit_next.Goals as goal

pub returns : goal.returns
returns g c = (
  c.in-Some.is_extra,
  c.next_handed.new.self,
  subst (λ (h : Option Bool). g.A.Around.does c.args.self.now.around (Hand h) c.next_handed.new.self) c.in-Some.is
      c.next_handed.ensures,
  record (course_of c.args.self.now) { around = c.next_handed.new.self; own = state_of c.let_oldest_go.new.self },
  (
    subst (λ (n : ℕ). LetsOldestGo g.J.SessionSeat g.S.PeerStream n (state_of c.args.self.now.own)
        (state_of c.let_oldest_go.new.self)) c.most_new.ensures c.let_oldest_go.ensures,
    refl,
  ),
  c.wire.ensures,
)
