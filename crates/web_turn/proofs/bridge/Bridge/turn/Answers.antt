use Rattle.std.proofs.Common.{ap}
use Rattle.web_relay.specs.declared.halls.Halls.{Halls}
use Rattle.web_turn.specs.declared.bridge.Bridge.{Bridge}
use Rattle.web_turn.proofs.bridge.Bridge.turn.Goals as goal

pub returns : goal.returns
returns g c =
    let visited : Bridge g.row.S.Denot = c.visit_all.new.self in record {
      begun = c.begin_halls.new.self;
      begins = (c.begin_halls.ensures.begins, c.begin_halls.ensures.same);
      visited = visited;
      visits = c.visit_all.ensures;
      closed = record visited { halls = c.close.new.self };
      closes = (
        c.close.ensures.closes,
        ap (λ (h : Halls g.row.S.Denot). record visited { halls = h })
            c.close.ensures.same,
      );
      tells = c.tell_refused.ensures;
    }
