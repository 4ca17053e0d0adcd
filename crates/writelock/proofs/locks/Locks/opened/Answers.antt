use Rattle.writelock.proofs.Vocabulary.{◌≡◌, ◌∙◌, ◌∷◌, ℕ, sym, subst, refl, Option, Some, None, false, true≢false}
use Rattle.writelock.proofs.Vocabulary.{slice_set, Opened, is_open, open_count, SlotsStandFor, slot_of, lock_at}
use Rattle.std.proofs.Common.{is_some}
use Rattle.acl.proofs.OpenSlots.{slots-opened, slots-free}
use Rattle.writelock.proofs.WindowLemmas.{AreLocks-Opened}
use Rattle.writelock.proofs.SlotViews.{lock_at-opened, length-set_lock}
use Rattle.writelock.proofs.locks.Locks.opened.Goals as goal

none : (o : Option ℕ) → is_some o ≡ false → o ≡ None
none None e = refl
none (Some x) e = absurd (true≢false e)

pub returns-in-Some : goal.returns-in-Some
returns-in-Some c =
    let w = c.args.window in
    let old = c.args.self.now in
    let slot = c.in-Some.slot in
    let free = sym c.in-Some.ensures.slot in
    λ edition owner h s fresh few. record {
      slots = subst (λ ws. SlotsStandFor ws (is_open (Opened c.args.by w ∷ h)) (open_count (Opened c.args.by w ∷ h)))
          (sym c.put.ensures) (slots-opened old.windows.serials (is_open h) (open_count h) s.slots w slot free fresh);
      all = length-set_lock old.locks slot _ ∙ s.all;
      are = AreLocks-Opened _ _ _ edition owner h s.are c.args.by w fresh
          (λ q. (λ i. lock_at (c.put.ensures i) (slice_set old.locks slot (c.opened_by.ensures i)) q)
          ∙ lock_at-opened old.windows.serials old.locks w slot _ (s.slots.all ∙ sym s.all) free
          (none (slot_of old.windows.serials w) (s.slots.shown w ∙ fresh)) q);
    }

pub returns-in_default : goal.returns-in_default
returns-in_default c = λ edition owner h s fresh few. slots-free c.args.self.now.windows.serials (is_open h)
    (open_count h) s.slots few (sym c.in_default.ensures.slot)
