use Rattle.std.proofs.Common.{◌≡◌, ◌∙◌, Option, true, refl, sym, subst, inr, rules}
use Rattle.server_connections.specs.Changing.{hears}
use Rattle.server_connections.specs.declared.peer.Peer.{Peer}
use Rattle.server_connections.proofs.connections.Connections.put_into.Goals as goal

pub returns-in-Ok-clause-put : goal.returns-in-Ok-clause-put
returns-in-Ok-clause-put g c put =
    let yes : c.hears.result ≡ true = search rules in
    inr record {
      peer = c.in-Some.peer.now;
      was = sym c.in-Some.ensures.value;
      listens_now = subst (λ (o : Option (Peer g.row.S.Denot)). hears o ≡ true) (sym c.in-Some.ensures.value)
          (sym c.hears.ensures ∙ yes);
      turn = c.put.new.turn;
      put = c.in-Ok.ensures.ok;
      new_is = refl;
    }

pub returns-in-Err-clause-fault : goal.returns-in-Err-clause-fault
returns-in-Err-clause-fault g c fault =
    let yes : c.hears.result ≡ true = search rules in
    record {
      peer = c.in-Some.peer.now;
      was = sym c.in-Some.ensures.value;
      listens_now = subst (λ (o : Option (Peer g.row.S.Denot)). hears o ≡ true) (sym c.in-Some.ensures.value)
          (sym c.hears.ensures ∙ yes);
      turn = c.put.new.turn;
      put = c.in-Err.ensures.err;
      new_is = refl;
    }
