use Rattle.std.proofs.Common.{◌≡◌, false, true, Some, sym, refl, ◌∙◌}
use Rattle.slab.specs.Slab.{get, with_value}
use Rattle.web_relay.specs.declared.relay.Relay.{Relay}
use Rattle.web_turn.specs.Turning.{Admits}
use Rattle.web_turn.proofs.Places.{both_still, both_there, written, written_others}
use Rattle.web_turn.proofs.turning.admit.Goals as goal

pub returns-then-not-is_too_many : goal.returns-then-not-is_too_many
returns-then-not-is_too_many g c =
    let s = c.args.relays.now in
    let place = c.args.place in record {
      at = both_still (Admits s place c.args.most c.args.arrival) (get s place) (λ r there. record {
        full = λ both.
            absurd (let wrong : false ≡ true = sym c.if-not-is_too_many.true ∙
            (c.is_too_many.ensures r there).1 both in cc);
        room = λ _. refl;
      });
      others = λ _ _. refl;
    }

pub returns-in-Some : goal.returns-in-Some
returns-in-Some g c =
    let s = c.args.relays.now in
    let place = c.args.place in
    let before : Relay g.row.S.Denot = c.in-Some.relay.now in
    let after : Relay g.row.S.Denot = c.turn_away.new.self in
    let there : get s place ≡ Some before = sym c.in-Some.ensures.value in record {
      at = both_there (Admits s place c.args.most c.args.arrival) (get s place) (get (with_value s place after) place)
          before after there (written s place before after there) (record {
            full = λ _. c.turn_away.ensures;
            room = λ no. absurd (no ((c.is_too_many.ensures before there).0 c.if-not-is_too_many.false));
          });
      others = written_others s place before after there;
    }
