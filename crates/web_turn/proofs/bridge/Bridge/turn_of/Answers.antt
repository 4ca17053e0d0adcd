use Rattle.std.proofs.Common.{◌≡◌, ◌∙◌, Some, None, sym, refl}
use Rattle.slab.specs.Slab.{get, with_value}
use Rattle.web_relay.specs.declared.relay.Relay.{Relay}
use Rattle.web_turn.specs.Turning.{TurnsRelay}
use Rattle.web_turn.proofs.Places.{both_there, written, written_others}
use Rattle.web_turn.proofs.bridge.Bridge.turn_of.Goals as goal

pub returns : goal.returns
returns g c =
    let b = c.args.self.now in
    let place = c.args.place in
    let before : Relay g.row.S.Denot = c.in-Some.relay.now in
    let after : Relay g.row.S.Denot = c.look.new.self in
    let there : get b.relays place ≡ Some before = sym c.in-Some.ensures.value in record {
      turns = record {
        at = both_there
            (λ (r s : Relay g.row.S.Denot). TurnsRelay g.S.WebStream g.S.BridgeStream
            (g.R.TakesLinks.takes c.args.rt.now) b c.args.now place r c.show.new.halls s)
            (get b.relays place) (get (with_value b.relays place after) place) before after there
            (written b.relays place before after there) (record {
              entered = c.seat-begins.new.self;
              joined = c.tell_watching.new.relay;
              joins = record {
                connected = c.connect.new.relay;
                connects = c.connect.ensures;
                redeemed = c.redeem.new.relay;
                redeems = c.redeem.ensures;
                begins = c.seat-begins.result;
                seated = c.seat-begins.new.relay;
                seats = c.seat-begins.ensures;
                tells = c.tell_watching.ensures;
              };
              passed = c.write_all.new.self;
              passes = record {
                heard = c.read_server.new.self;
                hears = c.read_server.ensures;
                told = c.tell.new.relay;
                tells = c.tell.ensures;
                writes = c.write_all.ensures;
              };
              shown = c.show.new.relay;
              shows = c.show.ensures;
              looks = c.look.ensures;
            });
        others = written_others b.relays place before after there;
      };
      nobody = λ none. absurd (let wrong : None ≡ Some before = sym none ∙ there in cc);
      rest = refl;
    }
