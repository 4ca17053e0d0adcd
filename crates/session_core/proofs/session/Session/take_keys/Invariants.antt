use Rattle.session_core.proofs.Vocabulary.{◌∷◌, [], ◌-◌, ◌≤◌, length, drop, Keys, SomeSteps}
use Rattle.session_core.proofs.session.Session.take_keys.Given as goal

abbrev pub invariant-steps : goal.invariant-steps
invariant-steps l = record {
  within : l.part ≤ length l.bytes;
  run : SomeSteps l.fn.self (record {
    events = Keys l.client l.bytes ∷ [];
    effects = l.fn.effects.items;
    more_effects = l.effects.items;
    replies = [];
    more_replies = [];
    left = Keys l.client (drop l.part l.bytes) ∷ [];
  }) l.self;
}

abbrev pub decreases-steps : goal.decreases-steps
decreases-steps l = length l.bytes - l.part
