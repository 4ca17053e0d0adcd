use Rattle.acl.proofs.Vocabulary.{◌≡◌, ◌++◌, take, drop, Keeps, known_acts, with_names, users_in, table_of}
use Rattle.acl.proofs.plan.plan_all_known.Given as goal

-- the acts planned before this index, followed by those still to be planned, are the acts of all
-- names
abbrev pub invariant-loop-i : goal.invariant-loop-i
invariant-loop-i l = record {
  left : l.acts.items ++ known_acts (with_names (users_in (table_of l.lists)) (take l.i l.names)) (drop l.i l.names)
      ≡ l.fn.acts.items ++ known_acts (users_in (table_of l.lists)) l.names;
  kept : Keeps l.fn.acts.items l.acts.items;
}
