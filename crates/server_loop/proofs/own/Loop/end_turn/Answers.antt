use Rattle.server_loop.proofs.Vocabulary.{ap, refl, subst, state_of, Loop}
use Rattle.server_loop.specs.Awaiting.{EndsBy}
use Rattle.server_loop.proofs.own.Loop.end_turn.Goals as goal

pub returns : goal.returns
returns g c =
    let own = λ (l : Loop g.row.S.Denot g.row.G.Denot g.row.J.Denot). state_of l in
    record {
      left = state_of c.tell_all_leaving.new.self;
      leaving = c.tell_all_leaving.ensures;
      out = state_of c.hand_out.new.self;
      handed = c.hand_out.ensures;
      kept = state_of c.drop_all_typed.new.self;
      dropped = c.drop_all_typed.ensures;
      sent = state_of c.write_all.new.self;
      written = c.write_all.ensures;
      drawn = state_of c.draw_all.new.self;
      draws = c.draw_all.ensures;
      timely = state_of c.drop_laggards.new.self;
      laggards = c.drop_laggards.ensures;
      mid = state_of c.sweep.new.self;
      settled = c.sweep.ensures;
      made = refl;
      submitted = c.take_submitted.ensures.taken;
      ends = subst (λ (l : Loop g.row.S.Denot g.row.G.Denot g.row.J.Denot). EndsBy g.J.SessionSeat (state_of l) c.end.result)
          c.take_submitted.ensures.none c.end.ensures;
      new_is = ap own c.take_submitted.ensures.none;
    }
