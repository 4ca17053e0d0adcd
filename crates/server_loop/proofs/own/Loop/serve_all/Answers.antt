use Rattle.server_loop.proofs.Vocabulary.{ℕ, is_some, refl, rules, state_of, Loop}
use Rattle.std.proofs.Common.{nat_le, nat_lt}
use Rattle.server_loop.specs.Serving.{ServesOther, ServesWindow}
use Rattle.server_loop.proofs.Passing.{passed}
use Rattle.server_loop.proofs.Telling.{if_false, if_true}
use Rattle.server_loop.proofs.own.Loop.serve_all.Goals as goal

pub returns-then-is_some : goal.returns-then-is_some
returns-then-is_some g c = (
  state_of c.each_awake.new.holder,
  passed (λ (l : Loop g.row.S.Denot g.row.G.Denot g.row.J.Denot). state_of l)
      (ServesOther g.J.SessionSeat g.S.PeerStream) _ _ _ _ _ _ c.each_awake.ensures
      (λ shown left key p. search rules),
  if_true (is_some c.each_awake.new.holder.draws.from) _ _ (search rules) refl,
)

pub returns : goal.returns
returns g c = (
  state_of c.each_awake.new.holder,
  passed (λ (l : Loop g.row.S.Denot g.row.G.Denot g.row.J.Denot). state_of l)
      (ServesOther g.J.SessionSeat g.S.PeerStream) _ _ _ _ _ _ c.each_awake.ensures
      (λ shown left key p. search rules),
  if_false (is_some c.each_awake.new.holder.draws.from) _ _ (search rules) (
    state_of c.each_awake-2.new.holder,
    passed (λ (l : Loop g.row.S.Denot g.row.G.Denot g.row.J.Denot). state_of l)
        (λ (key : ℕ). ServesWindow g.J.SessionSeat g.S.PeerStream
        (nat_le c.each_awake.new.holder.reading.next key) key) _ _ _ _ _ _ c.each_awake-2.ensures
        (λ shown left key p. search rules),
    passed (λ (l : Loop g.row.S.Denot g.row.G.Denot g.row.J.Denot). state_of l)
        (λ (key : ℕ). ServesWindow g.J.SessionSeat g.S.PeerStream
        (nat_lt key c.each_awake.new.holder.reading.next) key) _ _ _ _ _ _ c.each_awake-3.ensures
        (λ shown left key p. search rules),
  ),
)
