use Rattle.acl.proofs.Vocabulary.{◌≡◌, ◌++◌, drop, Keeps, sets}
use Rattle.acl.proofs.sets.plan_sets.Given as goal

-- the acts planned before this object, followed by those still to be planned, are the acts on all
-- objects
abbrev pub invariant-loop-object : goal.invariant-loop-object
invariant-loop-object l = record {
  left : l.acts.items ++ sets l.user l.changes (drop l.object-index l.objects) ≡ l.fn.acts.items ++ sets l.user
      l.changes l.objects;
  kept : Keeps l.fn.acts.items l.acts.items;
}
