use Rattle.web_turn.proofs.bridge.Bridge.visit.Goals as goal

pub returns : goal.returns
returns g c = record {
  read = c.read.new.self;
  reads = c.read.ensures;
  turned = c.turn_of.new.self;
  turns = c.turn_of.ensures;
  leaves = c.let_go.ensures;
}
