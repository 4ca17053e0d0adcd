use Rattle.writelock.proofs.Vocabulary.{◌∙◌, ap, sym, subst, ◌∷◌, Closed, is_open, open_count, SlotsStandFor, lock_at}
use Rattle.acl.proofs.OpenSlots.{slots-closed}
use Rattle.writelock.proofs.WindowLemmas.{AreLocks-Closed}
use Rattle.writelock.proofs.SlotViews.{lock_at-closed}
use Rattle.writelock.proofs.locks.Locks.closed.Goals as goal

pub returns : goal.returns
returns c =
    let w = c.args.window in
    let old = c.args.self.now in
    λ edition owner h s. record {
      slots = subst (λ ws. SlotsStandFor ws (is_open (Closed w ∷ h)) (open_count (Closed w ∷ h))) (sym c.close.ensures)
          (slots-closed old.windows.serials (is_open h) (open_count h) s.slots w);
      all = s.all;
      are = AreLocks-Closed _ _ _ edition owner h s.are w
          (λ q. ap (λ ws. lock_at ws old.locks q) c.close.ensures ∙ lock_at-closed old.windows.serials old.locks w q);
    }
