use Rattle.std.proofs.Common.{◌≡◌, ◌∙◌, Bool, Option, Some, None, true, refl, sym, subst, rules}
use Rattle.std.specs.Result.{result_ok}
use Rattle.server_connections.specs.Streaming.{Gathers}
use Rattle.server_connections.specs.declared.peer.Peer.{Peer}
use Rattle.server_steps.specs.Typing.{is_open_at}
use Rattle.server_steps.proofs.typing.gather.Goals as goal

pub returns-in-Ok : goal.returns-in-Ok
returns-in-Ok g c =
    let yes : c.is_open_at.result ≡ true = search rules in
    let far : result_ok c.gather.result ≡ Some c.in-Ok.is_through = search rules in (
      c.in-Some.peer.now,
      c.gather.new.self,
      sym c.in-Some.ensures.value,
      subst (λ (o : Option (Peer g.row.S.Denot)). is_open_at o ≡ true) (sym c.in-Some.ensures.value)
          (sym c.is_open_at.ensures ∙ yes),
      subst (λ (b : Option Bool). Gathers c.args.now c.in-Some.peer.now b c.gather.new.self) far c.gather.ensures,
      refl,
    )

pub returns-in-Err : goal.returns-in-Err
returns-in-Err g c =
    let yes : c.is_open_at.result ≡ true = search rules in
    let far : result_ok c.gather.result ≡ None = search rules in (
      c.in-Some.peer.now,
      c.gather.new.self,
      sym c.in-Some.ensures.value,
      subst (λ (o : Option (Peer g.row.S.Denot)). is_open_at o ≡ true) (sym c.in-Some.ensures.value)
          (sym c.is_open_at.ensures ∙ yes),
      subst (λ (b : Option Bool). Gathers c.args.now c.in-Some.peer.now b c.gather.new.self) far c.gather.ensures,
      refl,
    )
