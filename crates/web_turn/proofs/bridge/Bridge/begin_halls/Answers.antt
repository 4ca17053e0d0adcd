use Rattle.web_turn.proofs.bridge.Bridge.begin_halls.Goals as goal

pub returns-clause-begins : goal.returns-clause-begins
returns-clause-begins g c = record {
  turned = c.turn.new.self;
  turns = (c.turn.ensures.each, c.turn.ensures.same);
  renewed = c.renew.new.self;
  renews = (c.renew.ensures.renews, c.renew.ensures.same);
  none = c.choose.ensures.none;
  chooses = c.choose.ensures.some;
  rest = c.choose.ensures.same;
}
