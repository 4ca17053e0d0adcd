use Rattle.writelock.proofs.Vocabulary.{◌∙◌, ◌∷◌, ap, sym, subst, arith, Parted, Slots, SlotsStandFor, is_open}
use Rattle.writelock.proofs.Vocabulary.{open_count, AreLocks, lock_in, lock_at, without_holder}
use Rattle.writelock.proofs.LockLemmas.{AreLocks-Parted}
use Rattle.writelock.proofs.SlotViews.{changed_below-more, changed_below-all, lock_at-changed}
use Rattle.writelock.proofs.locks.Locks.parted.Goals as goal

pub loop-i-preserved : goal.loop-i-preserved
loop-i-preserved c = record {
  done = changed_below-more (λ _. without_holder c.args.last) c.args.self.now.windows.serials c.loop-i.i
      c.args.self.now.locks c.loop-i.self.locks _ _ c.loop-i.invariant.done (omega arith)
      c.without_holder.ensures;
  windows = c.loop-i.invariant.windows;
  default = c.loop-i.invariant.default;
}

pub returns : goal.returns
returns c =
    let old = c.args.self.now in
    let new = c.loop-i.self in
    let last = c.args.last in
    let inv = c.loop-i.invariant in
    λ edition owner h client s told. record {
      slots = subst (λ (ws : Slots). SlotsStandFor ws.serials (is_open h) (open_count h)) (sym inv.windows) s.slots;
      all = inv.done.same_length ∙ s.all;
      are = subst (λ d. AreLocks d (lock_in new) edition owner (Parted client ∷ h)) (sym inv.default)
          (AreLocks-Parted old.default (lock_in old) (lock_in new) edition owner h s.are last client told
          (λ q. ap (λ (ws : Slots). lock_at ws.serials new.locks q) inv.windows
          ∙ lock_at-changed (λ _. without_holder last) old.windows.serials old.locks new.locks
          (changed_below-all (λ _. without_holder last) old.windows.serials c.loop-i.i old.locks new.locks inv.done
          (omega arith)) q));
    }
