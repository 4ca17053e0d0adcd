use Rattle.std.proofs.Common.{◌∙◌, suc, Err, Ok, Option, Result, ap, refl, subst, sym}
use Rattle.std.specs.declared.io.Error.{Error}
use Rattle.server_seat.specs.declared.seat.ServerEnd.{ServerEnd}
use Rattle.server_turns.specs.Course.{course_of}
use Rattle.server_turns.specs.Rounds.{EndsAfter, GoesRound}
use Rattle.server_turns.proofs.turner.Turner.take_turns.Goals as goal

pub rounds-init : goal.rounds-init
rounds-init g c = (0, refl)

pub rounds-preserved : goal.rounds-preserved
rounds-preserved g c = (
  suc c.rounds.invariant.0,
  (
    course_of c.rounds.self,
    c.rounds.invariant.1,
    subst (λ (r : Result (Option ServerEnd) Error). GoesRound g.J.SessionSeat g.S.PeerStream g.A.Around.does
        g.A.Around.wires (course_of c.rounds.self) r (course_of c.go_round.new.self))
        (c.in-Ok-None.is ∙ ap (λ (o : Option ServerEnd). Ok o) c.in-Ok-None.field-0-is) c.go_round.ensures,
  ),
)

pub returns-in-Ok-Some : goal.returns-in-Ok-Some
returns-in-Ok-Some g c = record {
  count = c.rounds.invariant.0;
  mid = course_of c.rounds.self;
  rounds = c.rounds.invariant.1;
  last = c.go_round.result;
  left = course_of c.go_round.new.self;
  round = c.go_round.ensures;
  ends = subst (λ (r : Result (Option ServerEnd) Error). EndsAfter g.J.SessionSeat g.S.PeerStream g.A.Around.does
      g.A.Around.wires r (course_of c.go_round.new.self) c.wind_up.result (course_of c.wind_up.new.self))
      (sym (c.in-Ok-Some.is ∙ ap (λ (o : Option ServerEnd). Ok o) c.in-Ok-Some.field-0-is)) c.wind_up.ensures;
}

pub returns-in-Err : goal.returns-in-Err
returns-in-Err g c = record {
  count = c.rounds.invariant.0;
  mid = course_of c.rounds.self;
  rounds = c.rounds.invariant.1;
  last = c.go_round.result;
  left = course_of c.go_round.new.self;
  round = c.go_round.ensures;
  ends = subst (λ (r : Result (Option ServerEnd) Error). EndsAfter g.J.SessionSeat g.S.PeerStream g.A.Around.does
      g.A.Around.wires r (course_of c.go_round.new.self) (Err c.in-Err.error) (course_of c.go_round.new.self))
      (sym c.in-Err.is) (refl, refl);
}
