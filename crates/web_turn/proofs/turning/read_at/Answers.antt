use Rattle.std.proofs.Common.{◌≡◌, ◌∙◌, Some, sym}
use Rattle.slab.specs.Slab.{Slab, get, with_value}
use Rattle.web_relay.specs.declared.relay.Relay.{Relay}
use Rattle.web_turn.specs.Turning.{Admits, Reads}
use Rattle.web_turn.proofs.Places.{both_then, written, written_others}
use Rattle.web_turn.proofs.turning.read_at.Goals as goal

pub returns : goal.returns
returns g c =
    let s = c.args.relays.now in
    let place = c.args.place in
    let before : Relay g.row.S.Denot = c.in-Some.relay.now in
    let heard : Relay g.row.S.Denot = c.hear-arrival.new.relay in
    let mid : Slab (Relay g.row.S.Denot) = with_value s place heard in
    let there : get s place ≡ Some before = sym c.in-Some.ensures.value in record {
      at = both_then (Admits mid place c.args.most c.hear-arrival.result)
          (Reads g.S.WebStream c.args.around.site.now c.args.around.now c.args.most s place) (get s place)
          (get mid place)
          (get c.admit.new.relays place) before heard there (written s place before heard there)
          (λ r admits. record {
            arrival = c.hear-arrival.result;
            heard = heard;
            hears = c.hear-arrival.ensures;
            admits = admits;
          }) c.admit.ensures.at;
      others = λ other apart.
          c.admit.ensures.others other apart ∙ written_others s place before heard there other apart;
    }
