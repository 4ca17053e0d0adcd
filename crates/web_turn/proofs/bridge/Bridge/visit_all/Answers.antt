use Rattle.std.proofs.Common.{add-one, arith}
use Rattle.web_turn.proofs.bridge.Bridge.visit_all.Goals as goal

pub places-preserved : goal.places-preserved
places-preserved g c =
    let before = c.places.invariant in record {
      visited = rw add-one (c.places.self, before.visited, c.visit.ensures);
      all = before.all;
    }

pub returns : goal.returns
returns g c =
    let before = c.places.invariant in (c.places.place, omega (arith, before.all), before.visited)
