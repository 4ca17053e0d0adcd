use Rattle.std.proofs.Common.{◌≡◌, Bool, true, false, rules, subst}
use Rattle.server_turns.specs.Beginning.{AdmitsNext}
use Rattle.server_turns.specs.Course.{course_of}
use Rattle.server_turns.proofs.Counting.{ended, more, never, none}
use Rattle.server_turns.proofs.turner.Turner.admit_all.Goals as goal

pub handed-init : goal.handed-init
handed-init g c = none (λ count was now.
    AdmitsNext g.J.SessionSeat g.S.PeerStream g.A.Around.does g.A.Around.wires was true now) (course_of c.args.self.now)

pub handed-preserved : goal.handed-preserved
handed-preserved g c = let yes : c.admit_next.result ≡ true = search rules in
    more (λ count was now.
    AdmitsNext g.J.SessionSeat g.S.PeerStream g.A.Around.does g.A.Around.wires was true now) c.handed.counter
    (course_of c.args.self.now) (course_of c.handed.self)
    (course_of c.admit_next.new.self) c.handed.invariant
    (subst (λ (b : Bool). AdmitsNext g.J.SessionSeat g.S.PeerStream g.A.Around.does g.A.Around.wires
    (course_of c.handed.self) b (course_of c.admit_next.new.self))
    yes c.admit_next.ensures)

pub returns-then-not-admit_next : goal.returns-then-not-admit_next
returns-then-not-admit_next g c = let no : c.admit_next.result ≡ false = search rules in
    ended (λ count was now.
    AdmitsNext g.J.SessionSeat g.S.PeerStream g.A.Around.does g.A.Around.wires was true now)
    (λ count was now.
    AdmitsNext g.J.SessionSeat g.S.PeerStream g.A.Around.does g.A.Around.wires was false now) c.handed.counter
    (course_of c.args.self.now) (course_of c.handed.self)
    (course_of c.admit_next.new.self) c.handed.invariant
    (subst (λ (b : Bool). AdmitsNext g.J.SessionSeat g.S.PeerStream g.A.Around.does g.A.Around.wires
    (course_of c.handed.self) b (course_of c.admit_next.new.self))
    no c.admit_next.ensures)

pub returns : goal.returns
returns g c = never (λ count was now.
    AdmitsNext g.J.SessionSeat g.S.PeerStream g.A.Around.does g.A.Around.wires was true now)
    (λ count was now.
    AdmitsNext g.J.SessionSeat g.S.PeerStream g.A.Around.does g.A.Around.wires was false now) c.handed.counter
    (course_of c.args.self.now) (course_of c.handed.self)
    c.handed.invariant c.handed-test.false
