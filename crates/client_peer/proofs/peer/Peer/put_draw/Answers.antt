use Rattle.std.proofs.Common.{refl, sym, subst, ℕ, List}
use Rattle.client_peer.specs.declared.peer.Peer.{Peer}
use Rattle.client_peer.specs.Showing.{Adds}
use Rattle.client_peer.proofs.Passing.{passes_draw}
use Rattle.client_peer.proofs.peer.Peer.put_draw.Goals as goal

pub returns-clause-ok : goal.returns-clause-ok
returns-clause-ok c =
    let old : Peer = c.args.self.now in
    let middle : Peer = record old { draws = c.feed.new.self } in
    passes_draw old middle c.put.new.self c.deref.result.now refl refl c.feed.ensures.stands
    (λ came stands. (c.if-not-feed.ensures.passes came stands).0 refl)
    (subst (λ (l : List ℕ). Adds middle c.put.new.self l) (sym c.deref.ensures.value) c.in_ok-put.ensures.ok)
