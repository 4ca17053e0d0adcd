use Rattle.acl.proofs.Vocabulary.{◌≡◌, take, drop, length, change_fault, with_names, users_in, table_of}
use Rattle.acl.proofs.plan.change_fault.Given as goal

-- the fault of the whole list is that of the names from this index on
abbrev pub invariant-loop-i : goal.invariant-loop-i
invariant-loop-i l = record {
  fault : change_fault (table_of l.lists).owner (with_names (users_in (table_of l.lists)) (take l.i l.names))
      (drop l.i l.names)
      ≡ change_fault (table_of l.lists).owner (users_in (table_of l.lists)) l.names;
  count : l.count ≡ length (with_names (users_in (table_of l.lists)) (take l.i l.names));
}
