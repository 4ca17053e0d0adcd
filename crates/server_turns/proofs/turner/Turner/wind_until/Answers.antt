use Rattle.std.proofs.Common.{◌∙◌, ℕ, Bool, true, false, Err, Ok, Result, ap, subst, sym}
use Rattle.std.specs.declared.io.Error.{Error}
use Rattle.server_turns.specs.Course.{course_of}
use Rattle.server_turns.specs.Turns.{WindsOn}
use Rattle.server_turns.proofs.Counting.{ended, more, never, none}
use Rattle.server_turns.proofs.turner.Turner.wind_until.Goals as goal

pub pauses-init : goal.pauses-init
pauses-init g c = none
    (λ count was now. WindsOn g.J.SessionSeat g.S.PeerStream g.A.Around.does c.args.end count was (Ok true) now)
    (course_of c.args.self.now)

pub pauses-preserved : goal.pauses-preserved
pauses-preserved g c = more
    (λ count was now. WindsOn g.J.SessionSeat g.S.PeerStream g.A.Around.does c.args.end count was (Ok true) now)
    c.pauses.count
    (course_of c.args.self.now) (course_of c.pauses.self) (course_of c.wind_on.new.self) c.pauses.invariant
    (subst (λ (r : Result Bool Error). WindsOn g.J.SessionSeat g.S.PeerStream g.A.Around.does c.args.end c.pauses.count
    (course_of c.pauses.self) r (course_of c.wind_on.new.self))
    (c.in-Ok-true.is ∙ ap (λ (b : Bool). Ok b) c.in-Ok-true.field-0-test) c.wind_on.ensures)

pub returns-in-Ok-false : goal.returns-in-Ok-false
returns-in-Ok-false g c = ended
    (λ count was now. WindsOn g.J.SessionSeat g.S.PeerStream g.A.Around.does c.args.end count was (Ok true) now)
    (λ count was now. WindsOn g.J.SessionSeat g.S.PeerStream g.A.Around.does c.args.end count was (Ok false) now)
    c.pauses.count
    (course_of c.args.self.now) (course_of c.pauses.self) (course_of c.wind_on.new.self) c.pauses.invariant
    (subst (λ (r : Result Bool Error). WindsOn g.J.SessionSeat g.S.PeerStream g.A.Around.does c.args.end c.pauses.count
    (course_of c.pauses.self) r (course_of c.wind_on.new.self))
    (c.in-Ok-false.is ∙ ap (λ (b : Bool). Ok b) c.in-Ok-false.field-0-test) c.wind_on.ensures)

pub returns-in-Err : goal.returns-in-Err
returns-in-Err g c = (
  c.pauses.invariant.count,
  course_of c.pauses.self,
  c.pauses.invariant.so_far,
  subst (λ (n : ℕ). WindsOn g.J.SessionSeat g.S.PeerStream g.A.Around.does c.args.end n (course_of c.pauses.self)
      (Err c.in-Err.error) (course_of c.wind_on.new.self)) (sym c.pauses.invariant.counted)
      (subst (λ (r : Result Bool Error). WindsOn g.J.SessionSeat g.S.PeerStream g.A.Around.does c.args.end
      c.pauses.count (course_of c.pauses.self) r (course_of c.wind_on.new.self)) c.in-Err.is c.wind_on.ensures),
)

pub returns : goal.returns
returns g c = never
    (λ count was now. WindsOn g.J.SessionSeat g.S.PeerStream g.A.Around.does c.args.end count was (Ok true) now)
    (λ count was now. WindsOn g.J.SessionSeat g.S.PeerStream g.A.Around.does c.args.end count was (Ok false) now)
    c.pauses.count
    (course_of c.args.self.now) (course_of c.pauses.self) c.pauses.invariant c.pauses-test.false
