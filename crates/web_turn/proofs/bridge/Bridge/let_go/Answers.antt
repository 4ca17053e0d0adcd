use Rattle.std.proofs.Common.{sym, refl, subst, arith}
use Rattle.slab.specs.Slab.{get}
use Rattle.web_relay.specs.Places.{LeavesAs}
use Rattle.web_turn.specs.Turning.{Counts}
use Rattle.web_turn.proofs.Places.{counted, is_over}
use Rattle.web_turn.proofs.bridge.Bridge.let_go.Goals as goal

pub returns : goal.returns
returns g c =
    let b = c.args.self.now in record {
      goes = λ relay there over. (
        c.in-Some.ensures.updates refl,
        subst (Counts relay b.refused) (sym c.saturating_add-self.ensures)
            (counted c.in-Some.said.1 relay b.refused c.from.result (omega arith) c.from.ensures
            (subst (LeavesAs c.in-Some.said) there c.in-Some.ensures.gone).2),
      );
      stays = λ here. absurd (is_over c.in-Some.said (get b.relays c.args.place) c.in-Some.ensures.gone here);
      rest = refl;
    }
