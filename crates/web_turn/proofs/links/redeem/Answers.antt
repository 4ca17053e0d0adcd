use Rattle.std.proofs.Common.{ℕ, List, Some, subst}
use Rattle.std.specs.String.{string_bytes}
use Rattle.web_turn.specs.Turning.{Gives}
use Rattle.web_turn.proofs.Linking.{redeemed}
use Rattle.web_turn.proofs.links.redeem.Goals as goal

pub returns : goal.returns
returns g c =
    let took = c.in-Some-take_from in
    redeemed (g.R.TakesLinks.takes c.args.rt.now) c.args.links c.in-Some.secret
    (Some (string_bytes took.text, took.seconds)) c.args.relay.now c.give.new.relay c.in-Some.ensures.some.0
    c.in-Some.ensures.some.1 took.ensures
    (subst (λ (t : List ℕ). Gives t took.seconds c.args.relay.now c.give.new.relay) c.as_str.ensures.value
    c.give.ensures)
