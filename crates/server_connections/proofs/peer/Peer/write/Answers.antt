use Rattle.std.proofs.Common.{◌≡◌, ◌+◌, ℕ, suc, arith, inl, inr, refl, rules, subst, true, false, Bool}
use Rattle.server_connections.specs.Streaming.{WritesOnce}
use Rattle.server_connections.proofs.peer.Peer.write.Goals as goal

pub writes-init : goal.writes-init
writes-init g c = record { stood = λ put w. w; count = 0; counted = refl; so_far = refl }

pub returns-then-not-write_once-clause-writes : goal.returns-then-not-write_once-clause-writes
returns-then-not-write_once-clause-writes g c =
    let less : c.write_once.result ≡ false = search rules in
    inr (
      c.writes.invariant.count,
      c.writes.self,
      c.writes.invariant.so_far,
      inl (subst (λ (b : Bool). WritesOnce g.S.PeerStream.writes c.writes.self b c.write_once.new.self) less
          c.write_once.ensures.writes),
    )

pub writes-preserved : goal.writes-preserved
writes-preserved g c =
    let more : c.write_once.result ≡ true = search rules in record {
      stood = λ put w. c.write_once.ensures.written put (c.writes.invariant.stood put w);
      count = suc c.writes.invariant.count;
      counted = omega (arith, c.writes.invariant.counted);
      so_far = (
        c.writes.self,
        c.writes.invariant.so_far,
        subst (λ (b : Bool). WritesOnce g.S.PeerStream.writes c.writes.self b c.write_once.new.self) more
            c.write_once.ensures.writes,
      );
    }

pub returns-clause-writes : goal.returns-clause-writes
returns-clause-writes g c = inr (
  c.writes.invariant.count,
  c.writes.self,
  c.writes.invariant.so_far,
  inr (omega (arith, c.writes.invariant.counted, c.writes-test.false), c.close.ensures),
)
