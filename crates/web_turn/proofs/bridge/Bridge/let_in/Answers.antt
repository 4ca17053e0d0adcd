use Rattle.std.proofs.Common.{ℕ, ◌∙◌, subst, sym}
use Rattle.web_relay.specs.Places.{IsNew, MakesRoom}
use Rattle.web_streams.specs.Tokens.{IsTokenOf}
use Rattle.web_streams.specs.declared.connections.Woken.TheVariants.{Browser}
use Rattle.web_turn.proofs.bridge.Bridge.let_in.Goals as goal

pub returns-in-Ok-clause-ok : goal.returns-in-Ok-clause-ok
returns-in-Ok-clause-ok g c = record {
  room = c.make_room.new.relays;
  makes = subst (λ (n : ℕ). MakesRoom n c.args.self.now.relays c.make_room.new.relays) c.places-most.ensures
      c.make_room.ensures;
  place = c.in-Ok.field-0;
  vacant = c.in-Ok.ensures.was_vacant;
  woken = (
    c.browser_token.result.0,
    subst (λ (n : ℕ). IsTokenOf Browser n c.browser_token.result.0)
        (c.vacant_key-place.ensures.value ∙ sym c.in-Ok.ensures.key) c.browser_token.ensures,
    c.in_ok-register.ensures.wakes,
  );
  relay = c.new.result;
  comes = subst (λ (b : g.row.S.Denot). IsNew b c.args.now c.new.result) c.register.ensures.same c.new.ensures;
  placed = c.in-Ok.ensures.updates;
}
