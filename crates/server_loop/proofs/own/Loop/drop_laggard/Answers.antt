use Rattle.server_loop.proofs.Vocabulary.{◌≡◌, true, false, refl, subst, inl, inr, rules, false≢true, Connections}
use Rattle.server_loop.proofs.Vocabulary.{Writes, state_of}
use Rattle.server_loop.proofs.own.Loop.drop_laggard.Goals as goal

pub returns-then-not-is_laggard : goal.returns-then-not-is_laggard
returns-then-not-is_laggard g c =
    let no : c.is_laggard.result ≡ false = search rules in
    record {
      outcome = inl (λ is. absurd (false≢true (subst (λ b. b ≡ true) no (c.is_laggard.ensures.1 is))), refl);
    }

pub returns : goal.returns
returns g c =
    let yes : c.is_laggard.result ≡ true = search rules in
    record {
      outcome = inr (
        c.is_laggard.ensures.0 yes,
        (
          state_of c.drop_typed.new.self,
          c.drop_typed.ensures,
          state_of c.expel.new.self,
          c.expel.ensures,
          subst (λ (s : Connections g.row.S.Denot). Writes g.J.SessionSeat g.S.PeerStream c.args.key
              (record (state_of c.expel.new.self) { connections = s }) (state_of c.write_to.new.self))
              c.cut_off.ensures c.write_to.ensures,
        ),
      );
    }
