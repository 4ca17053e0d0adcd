use Rattle.server_loop.proofs.Vocabulary.{ap, refl, state_of, Loop}
use Rattle.server_loop.proofs.own.Loop.read_all.Goals as goal

pub returns : goal.returns
returns g c = record {
  mid = state_of c.serve_all.new.self;
  serves = c.serve_all.ensures;
  typed = refl;
  much = refl;
  submitted = c.take_submitted.ensures.taken;
  new_is = ap (λ (l : Loop g.row.S.Denot g.row.G.Denot g.row.J.Denot). state_of l) c.take_submitted.ensures.none;
}
