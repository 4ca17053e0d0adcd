use Rattle.acl.proofs.Vocabulary.{◌≡◌, ◌++◌, drop, Keeps, mask_acts, mask_fault, users_in, table_of}
use Rattle.acl.proofs.plan.plan_masks.Given as goal

-- the acts planned before this entry, followed by those still to be planned, are the acts of all
-- entries
abbrev pub invariant-loop-entry : goal.invariant-loop-entry
invariant-loop-entry l = record {
  left : l.acts.items ++ mask_acts l.by (drop l.entry-index l.entries) ≡ l.fn.acts.items ++ mask_acts l.by l.entries;
  fault : mask_fault (table_of l.lists).owner (users_in (table_of l.lists)) (drop l.entry-index l.entries) ≡ mask_fault
      (table_of l.lists).owner (users_in (table_of l.lists)) l.entries;
  kept : Keeps l.fn.acts.items l.acts.items;
}
