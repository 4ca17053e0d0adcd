use Rattle.session_core.proofs.Vocabulary.{drop, map, happening, SomeSteps}
use Rattle.session_core.proofs.session.Session.run.Given as goal

abbrev pub invariant-loop-taken : goal.invariant-loop-taken
invariant-loop-taken l = SomeSteps l.fn.self (record {
  events = map happening l.events;
  effects = l.fn.effects.items;
  more_effects = l.effects.items;
  replies = l.fn.replies.items;
  more_replies = l.replies.items;
  left = drop l.taken (map happening l.events);
}) l.self
