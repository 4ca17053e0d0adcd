use Rattle.server_loop.proofs.Vocabulary.{List, false, refl, subst, HandsAll, Sent, state_of}
use Rattle.server_loop.specs.Handing.{DropsEnded}
use Rattle.server_loop.proofs.own.Loop.hand_out.Goals as goal

pub returns : goal.returns
returns g c =
    let kept = state_of c.drop_ended.new.self in
    let mid = state_of c.hand_all.new.self in
    record {
      effects = c.take-effects.result.0.items;
      is_told = c.take-effects.result.1;
      seat = c.take-effects.new.self;
      taken = c.take-effects.ensures.taken;
      kept = kept;
      dropped = subst (λ (sent : List Sent). DropsEnded g.J.SessionSeat sent
          (record (state_of c.args.self.now) { seat = c.take-effects.new.self; is_behind = false }) kept)
          c.as_slice.ensures.value c.drop_ended.ensures;
      mid = mid;
      handed = subst (λ (sent : List Sent). HandsAll g.J.SessionSeat sent kept mid)
          c.as_slice-2.ensures.value c.hand_all.ensures;
      told = refl;
    }
