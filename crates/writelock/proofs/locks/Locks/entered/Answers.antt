use Rattle.writelock.proofs.Vocabulary.{◌∙◌, ◌∷◌, ap, sym, subst, if◌then◌else◌, nat_eq, option_map, Entered, Slots}
use Rattle.writelock.proofs.Vocabulary.{SlotsStandFor, is_open, open_count, Lock, AreLocks, lock_in, entered_by}
use Rattle.writelock.proofs.LockLemmas.{AreLocks-Entered}
use Rattle.writelock.proofs.SlotViews.{changed_at, unchanged_at}
use Rattle.writelock.proofs.locks.Locks.entered.Goals as goal

pub returns-in-Some : goal.returns-in-Some
returns-in-Some c =
    let w = c.args.window in
    let old = c.args.self.now in
    λ edition owner h s open_now told.
    record {
      slots = subst (λ (ws : Slots). SlotsStandFor ws.serials (is_open h) (open_count h)) (sym c.put.ensures.windows)
          s.slots;
      all = c.put.ensures.all ∙ s.all;
      are = subst (λ d. AreLocks d (lock_in c.put.new.self) edition owner (Entered c.args.user w ∷ h))
          (sym c.put.ensures.default)
          (AreLocks-Entered old.default (lock_in old) (lock_in c.put.new.self) edition owner h s.are c.args.user w
          c.args.may_write open_now told
          (λ q. c.put.ensures.locks q
          ∙ ap (λ l. if nat_eq w q then option_map {T = Lock} (λ _. l) (lock_in old q) else lock_in old q)
          c.entered_by.ensures
          ∙ changed_at (entered_by c.args.user c.args.may_write) (lock_in old) w c.in-Some.lock (sym c.in-Some.ensures)
          q));
    }

pub returns-in_default : goal.returns-in_default
returns-in_default c =
    let w = c.args.window in
    let old = c.args.self.now in
    λ edition owner h s open_now told. record {
      slots = s.slots;
      all = s.all;
      are = AreLocks-Entered old.default (lock_in old) (lock_in old) edition owner h s.are c.args.user w
          c.args.may_write open_now told
          (unchanged_at (entered_by c.args.user c.args.may_write) (lock_in old) w (sym c.in_default.ensures));
    }
