use Rattle.std.proofs.Common.{ℕ, Option, Some, refl, subst}
use Rattle.server_turns.proofs.turner.Turner.wire.Goals as goal

pub returns-in-Some : goal.returns-in-Some
returns-in-Some g c = (
  Some c.in-Some.stream,
  subst (λ (n : ℕ). g.A.Around.wires c.args.self.now.around n (Some c.in-Some.stream) c.wire.new.self)
      c.vacant_key-key.ensures
      (subst (λ (s : Option g.row.S.Denot). g.A.Around.wires c.args.self.now.around c.vacant_key-key.result s
      c.wire.new.self) c.in-Some.is c.wire.ensures),
  record {
    done = c.admit.result;
    admitted = c.admit.ensures.admitted;
    awake = c.admit.ensures.awake;
    number = c.admit.ensures.number;
    fails = c.admit.ensures.fails;
    others = c.admit.ensures.others;
  },
  refl,
)
