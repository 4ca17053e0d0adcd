use Rattle.acl.proofs.Vocabulary.{◌≡◌, spare, without_leader, mapped_below}
use Rattle.acl.proofs.rows.forget_leader.Given as goal

-- the rows before this index have lost the leader; the others are unchanged
abbrev pub invariant-loop-i : goal.invariant-loop-i
invariant-loop-i l = record {
  done : l.rows.entries ≡ mapped_below (λ e. (e.0, without_leader l.gone e.1)) l.i l.fn.rows.entries;
  room : spare l.rows ≡ spare l.fn.rows;
}
