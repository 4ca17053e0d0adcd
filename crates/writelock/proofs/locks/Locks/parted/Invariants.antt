use Rattle.writelock.proofs.Vocabulary.{◌≡◌, without_holder}
use Rattle.writelock.proofs.SlotViews.{ChangedBelow}
use Rattle.writelock.proofs.locks.Locks.parted.Given as goal

-- the locks before this index are changed; the others are unchanged
abbrev pub invariant-loop-i : goal.invariant-loop-i
invariant-loop-i l = record {
  done : ChangedBelow (λ _. without_holder l.last) l.fn.self.windows.serials l.i l.fn.self.locks l.self.locks;
  windows : l.self.windows ≡ l.fn.self.windows;
  default : l.self.default ≡ l.fn.self.default;
}
