use Rattle.acl.proofs.Vocabulary.{◌≡◌, ◌++◌, drop, Keeps, sets_on}
use Rattle.acl.proofs.sets.plan_sets_on.Given as goal

-- the acts planned before this change, followed by those still to be planned, are the acts of all
-- changes
abbrev pub invariant-loop-change : goal.invariant-loop-change
invariant-loop-change l = record {
  left : l.acts.items ++ sets_on l.user (drop l.change-index l.changes) l.object ≡ l.fn.acts.items ++ sets_on l.user
      l.changes l.object;
  kept : Keeps l.fn.acts.items l.acts.items;
}
