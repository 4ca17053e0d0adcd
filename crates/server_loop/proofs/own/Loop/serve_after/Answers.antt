use Rattle.server_loop.proofs.Vocabulary.{◌≡◌, ◌∙◌, Bool, false, not, refl, sym, subst, rules, state_of}
use Rattle.server_connections.specs.declared.peer_stream.Arrival.{Arrival}
use Rattle.server_loop.specs.Serving.{ObeysSome, ServesAfter, with_much}
use Rattle.server_loop.proofs.Telling.{if_false}
use Rattle.server_loop.proofs.own.Loop.serve_after.Goals as goal

pub returns-then-not-has_asked : goal.returns-then-not-has_asked
returns-then-not-has_asked g c =
    let J = g.J.SessionSeat in
    let no : c.has_asked.result ≡ false = search rules in
    let old = state_of c.args.self.now in
    subst (λ (arrival : Arrival). ServesAfter J arrival c.args.key old false old) (sym c.in-Nothing.is)
    (if_false _ _ _ (sym c.has_asked.ensures ∙ no) (refl, refl))

pub returns-in-Much : goal.returns-in-Much
returns-in-Much g c =
    let J = g.J.SessionSeat in
    let old = state_of c.args.self.now in
    subst (λ (arrival : Arrival). ServesAfter J arrival c.args.key old false
    (state_of c.obey_some-in-Much.new.self)) (sym c.in-Much.is) (
      refl,
      c.obey_some-in-Much.result,
      subst (λ (b : Bool). ObeysSome J c.args.key (with_much (not b) old) c.obey_some-in-Much.result
          (state_of c.obey_some-in-Much.new.self)) c.drains.ensures c.obey_some-in-Much.ensures,
    )
