use Rattle.std.proofs.Common.{rules, subst, sym, List, ℕ}
use Rattle.web_client.proofs.client.WebClient.receive.Goals as goal

pub returns-in-Ok-clause-hears : goal.returns-in-Ok-clause-hears
returns-in-Ok-clause-hears g c = record {
  piece = c.piece-piece.result.now;
  arrived = c.read_once-arrival.result;
  read = subst (λ (xs : List ℕ). g.S.WebStream.reads c.args.server.now xs c.read_once-arrival.result
      c.read_once-arrival.new.self) (sym c.piece-piece.ensures) c.read_once-arrival.ensures;
  heard = search rules;
}
