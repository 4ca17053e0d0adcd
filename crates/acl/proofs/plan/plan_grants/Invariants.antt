use Rattle.acl.proofs.Vocabulary.{◌≡◌, ◌++◌, drop, Keeps, names_sets}
use Rattle.acl.proofs.plan.plan_grants.Given as goal

-- the acts planned before this name, followed by those still to be planned, are the acts of all
-- names
abbrev pub invariant-loop-name : goal.invariant-loop-name
invariant-loop-name l = record {
  left : l.acts.items ++ names_sets l.objects (drop l.name-index l.names) ≡ l.fn.acts.items ++ names_sets l.objects
      l.names;
  kept : Keeps l.fn.acts.items l.acts.items;
}
