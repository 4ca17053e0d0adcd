use Rattle.server_loop.proofs.Vocabulary.{Option, ap, sym, subst, state_of}
use Rattle.session.specs.Trace.{Reply}
use Rattle.server_seat.specs.declared.seat.ServerEnd.{ServerEnd}
use Rattle.server_loop.specs.Beginning.{Ends}
use Rattle.server_loop.proofs.own.Loop.tell_answer.Goals as goal

pub returns-in-Ok : goal.returns-in-Ok
returns-in-Ok g c =
    let said = state_of c.say_done.new.self in (
      state_of c.send.new.self,
      c.send.ensures,
      subst (λ (reply : Reply). Ends g.J.SessionSeat c.args.is_quit reply c.args.key
          (state_of c.send.new.self) (record said { end = c.quit_if-self.result })) (sym c.in-Ok.is) (
            said,
            c.say_done.ensures,
            ap (λ (end : Option ServerEnd). record said { end = end }) c.quit_if-self.ensures,
          ),
    )

pub returns-in-Err : goal.returns-in-Err
returns-in-Err g c = (
  state_of c.send.new.self,
  c.send.ensures,
  subst (λ (reply : Reply). Ends g.J.SessionSeat c.args.is_quit reply c.args.key (state_of c.send.new.self)
      (state_of c.refuse.new.self)) (sym c.in-Err.is) c.refuse.ensures,
)
