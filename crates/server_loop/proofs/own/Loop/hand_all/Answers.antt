use Rattle.server_loop.proofs.Vocabulary.{List, refl, sym, subst, arith, HandsAll, Sent, state_of}
use Rattle.std.proofs.lemmas.List.{drop_all}
use Rattle.server_loop.proofs.Telling.{handed_next}
use Rattle.server_loop.proofs.own.Loop.hand_all.Goals as goal

pub effects-preserved : goal.effects-preserved
effects-preserved g c = λ new rest. c.effects.invariant new (handed_next g.J.SessionSeat c.args.effects.now
    c.effects.sent-index c.sent-item.result (state_of c.effects.self) (state_of c.hand_one.new.self) new
    (omega arith) c.sent-item.is c.hand_one.ensures rest)

pub returns : goal.returns
returns g c = c.effects.invariant (state_of c.effects.self)
    (subst (λ (l : List Sent). HandsAll g.J.SessionSeat l (state_of c.effects.self) (state_of c.effects.self))
    (sym (drop_all c.effects.sent-index c.args.effects.now (omega arith))) refl)
