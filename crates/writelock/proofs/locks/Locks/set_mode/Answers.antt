use Rattle.writelock.proofs.Vocabulary.{◌∙◌, ◌∷◌, ap, sym, subst, if◌then◌else◌, nat_eq, option_map, Mode, Slots}
use Rattle.writelock.proofs.Vocabulary.{SlotsStandFor, is_open, open_count, Lock, AreLocks, lock_in}
use Rattle.writelock.proofs.LockLemmas.{AreLocks-Mode}
use Rattle.writelock.proofs.locks.Locks.set_mode.Goals as goal

pub returns : goal.returns
returns c =
    let w = c.args.window in
    let old = c.args.self.now in
    λ edition owner h s open_now right.
    record {
      slots = subst (λ (ws : Slots). SlotsStandFor ws.serials (is_open h) (open_count h)) (sym c.put.ensures.windows)
          s.slots;
      all = c.put.ensures.all ∙ s.all;
      are = subst (λ d. AreLocks d (lock_in c.put.new.self) edition owner (Mode c.args.by w c.args.mode ∷ h))
          (sym c.put.ensures.default)
          (AreLocks-Mode old.default (lock_in old) (lock_in c.put.new.self) edition owner h s.are c.args.by w
          c.args.mode open_now
          (λ q. c.put.ensures.locks q
          ∙ ap (λ l. if nat_eq w q then option_map {T = Lock} (λ _. l) (lock_in old q) else lock_in old q)
          c.lock_by.ensures) right);
    }
