use Rattle.server_loop.proofs.Vocabulary.{refl, state_of}
use Rattle.server_loop.proofs.own.Loop.settle.Goals as goal

pub returns : goal.returns
returns g c = record {
  told = state_of c.tell_full.new.self;
  tells = c.tell_full.ensures;
  mid = state_of c.part_with.new.self;
  parts = c.part_with.ensures;
  settled = record {
    awake = c.settle.ensures.awake;
    gone = c.settle.ensures.gone;
    stays = c.settle.ensures.stays;
    same = c.settle.ensures.same;
  };
  same = refl;
}
