use Rattle.std.proofs.Common.{◌≡◌, Bool, true, false, rules, subst}
use Rattle.server_turns.specs.Beginning.{TakesEvent}
use Rattle.server_turns.specs.Course.{course_of}
use Rattle.server_turns.proofs.Counting.{ended, more, never, none}
use Rattle.server_turns.proofs.turner.Turner.sort.Goals as goal

pub events-init : goal.events-init
events-init g c = none (λ count was now. TakesEvent g.A.Around.does was true now)
    (record (course_of c.args.self.now) { is_asked = false })

pub events-preserved : goal.events-preserved
events-preserved g c = let yes : c.take_event.result ≡ true = search rules in
    more (λ count was now. TakesEvent g.A.Around.does was true now) c.events.counter
    (record (course_of c.args.self.now) { is_asked = false }) (course_of c.events.self)
    (course_of c.take_event.new.self) c.events.invariant
    (subst (λ (b : Bool). TakesEvent g.A.Around.does (course_of c.events.self) b (course_of c.take_event.new.self))
    yes c.take_event.ensures)

pub returns-then-not-take_event : goal.returns-then-not-take_event
returns-then-not-take_event g c = let no : c.take_event.result ≡ false = search rules in
    ended (λ count was now. TakesEvent g.A.Around.does was true now)
    (λ count was now. TakesEvent g.A.Around.does was false now) c.events.counter
    (record (course_of c.args.self.now) { is_asked = false }) (course_of c.events.self)
    (course_of c.take_event.new.self) c.events.invariant
    (subst (λ (b : Bool). TakesEvent g.A.Around.does (course_of c.events.self) b (course_of c.take_event.new.self))
    no c.take_event.ensures)

pub returns : goal.returns
returns g c = never (λ count was now. TakesEvent g.A.Around.does was true now)
    (λ count was now. TakesEvent g.A.Around.does was false now) c.events.counter
    (record (course_of c.args.self.now) { is_asked = false }) (course_of c.events.self)
    c.events.invariant c.events-test.false
