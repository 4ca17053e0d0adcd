use Rattle.writelock.proofs.Vocabulary.{◌∙◌, ◌∷◌, ap, sym, subst, arith, None, slice_index_or, Slots, SlotsStandFor}
use Rattle.writelock.proofs.Vocabulary.{table_of, is_open, open_count, AreLocks, lock_in, lock_at, after_act}
use Rattle.writelock.proofs.RightsLemmas.{AreLocks-rights, slots-rights}
use Rattle.writelock.proofs.SlotViews.{changed_below-next, changed_below-all, lock_at-changed}
use Rattle.writelock.proofs.locks.Locks.withdraw.Goals as goal

pub loop-i-preserved : goal.loop-i-preserved
loop-i-preserved c =
    let f = after_act (table_of c.args.lists.now) c.args.act in
    record {
      done = changed_below-next f c.args.self.now.windows.serials c.loop-i.i c.args.self.now.locks c.loop-i.self.locks _
          _ c.serial_at.result c.loop-i.invariant.done (omega arith)
          c.after_act.ensures
          (c.serial_at.ensures
          ∙ ap (λ (ws : Slots). slice_index_or ws.serials c.loop-i.i None) c.loop-i.invariant.windows);
      windows = c.loop-i.invariant.windows;
      default = c.loop-i.invariant.default;
    }

pub returns : goal.returns
returns c =
    let old = c.args.self.now in
    let new = c.loop-i.self in
    let table = table_of c.args.lists.now in
    let act = c.args.act in
    let inv = c.loop-i.invariant in
    λ edition owner h s allowed sa. record {
      slots = subst (λ (ws : Slots). SlotsStandFor ws.serials (is_open (act ∷ h)) (open_count (act ∷ h)))
          (sym inv.windows) (slots-rights edition owner act h old.windows.serials allowed s.slots);
      all = inv.done.same_length ∙ s.all;
      are = subst (λ d. AreLocks d (lock_in new) edition owner (act ∷ h)) (sym inv.default)
          (AreLocks-rights table edition owner h act allowed sa old.default (lock_in old) (lock_in new) s.are
          (λ q. ap (λ (ws : Slots). lock_at ws.serials new.locks q) inv.windows
          ∙ lock_at-changed (after_act table act) old.windows.serials old.locks new.locks
          (changed_below-all (after_act table act) old.windows.serials c.loop-i.i old.locks new.locks inv.done
          (omega arith)) q));
    }
