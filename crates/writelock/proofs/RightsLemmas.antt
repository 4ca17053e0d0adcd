-- Locks after an act of a list command: such an act gives nobody a lock, opens no window and sets no mode.
use Rattle.writelock.proofs.Vocabulary.{[], ◌≡◌, ◌∙◌, ℕ, Bool, true, false, not, ◌||◌, ap, sym, refl, List, ◌∷◌, Option}
use Rattle.writelock.proofs.Vocabulary.{Some, None, if◌then◌else◌, option_map, SlotsStandFor, History, open_count}
use Rattle.writelock.proofs.Vocabulary.{is_open, LockMode, may-StandsFor, Edition, UserId, Read, Write, Execute, Window}
use Rattle.writelock.proofs.Vocabulary.{Command, Act, Opened, Closed, Attached, Parted, Entered, Left, Mode, Lock}
use Rattle.writelock.proofs.Vocabulary.{AreLocks, lock_of, frees, remaining, with_remaining}
use Rattle.acl.specs.History.{there, followed_by}
use Rattle.acl.specs.Commands.{MayFollow, AllMayFollow}
use Rattle.acl.specs.Table.{Table, StandsFor}
use Rattle.acl.specs.declared.bits.Bit.{Bit}
use Rattle.acl.specs.declared.act.Object.{Object}
use Rattle.acl.specs.declared.act.Act.TheVariants.{Known, Gone, Set, Grouped, Masked, Preset, Default}
use Rattle.writelock.specs.Holding.{default_of, mode_of, holder, ends, given, kept, or_else, clients_of}
use Rattle.writelock.proofs.HolderLemmas.{able-kept, unheld-kept}

-- the act gives nobody a lock, ends only what `frees` says, and leaves modes, open windows and the
-- default
record LeavesLocks (edition : Edition) (owner : UserId) (a : Act) (h : History) : Type 0 where
  gives_none : (w : ℕ) (held : Option UserId) → given edition owner a h w held ≡ None
  same_end : (u : UserId) (w : ℕ) → ends a h u w ≡ frees a u w
  same_mode : (w : ℕ) → mode_of (a ∷ h) w ≡ mode_of h w
  same_open : (w : ℕ) → is_open (a ∷ h) w ≡ is_open h w
  same_default : default_of (a ∷ h) ≡ default_of h

same_end-Set : (h : History) (v : UserId) (bit : Bit) (object : Object) (value : Bool) (u : UserId) (w : ℕ)
    → ends (Set v bit object value) h u w ≡ frees (Set v bit object value) u w
same_end-Set h v Read (Window x) true u w = refl
same_end-Set h v Read (Window x) false u w = refl
same_end-Set h v Read (Command c) true u w = refl
same_end-Set h v Read (Command c) false u w = refl
same_end-Set h v Write (Window x) true u w = refl
same_end-Set h v Write (Window x) false u w = refl
same_end-Set h v Write (Command c) true u w = refl
same_end-Set h v Write (Command c) false u w = refl
same_end-Set h v Execute (Window x) true u w = refl
same_end-Set h v Execute (Window x) false u w = refl
same_end-Set h v Execute (Command c) true u w = refl
same_end-Set h v Execute (Command c) false u w = refl

leaves_locks : (edition : Edition) (owner : UserId) (a : Act) (h : History) → MayFollow edition owner h a
    → LeavesLocks edition owner a h
leaves_locks edition owner (Known v) h r = record {
  gives_none = λ w held. refl;
  same_end = λ u w. refl;
  same_mode = λ w. refl;
  same_open = λ w. refl;
  same_default =
      refl;
}
leaves_locks edition owner (Gone v) h r = record {
  gives_none = λ w held. refl;
  same_end = λ u w. refl;
  same_mode = λ w. refl;
  same_open = λ w. refl;
  same_default =
      refl;
}
leaves_locks edition owner (Grouped v leader) h r = record {
  gives_none = λ w held. refl;
  same_end = λ u w. refl;
  same_mode = λ w. refl;
  same_open = λ w. refl;
  same_default =
      refl;
}
leaves_locks edition owner (Masked by v bit value) h r = record {
  gives_none = λ w held. refl;
  same_end = λ u w. refl;
  same_mode = λ w. refl;
  same_open = λ w. refl;
  same_default =
      refl;
}
leaves_locks edition owner (Preset kind bit value) h r = record {
  gives_none = λ w held. refl;
  same_end = λ u w. refl;
  same_mode = λ w. refl;
  same_open = λ w. refl;
  same_default =
      refl;
}
leaves_locks edition owner (Set v bit object value) h r = record {
  gives_none = λ w held. refl;
  same_end = λ u w. same_end-Set h v bit object value u w;
  same_mode = λ w. refl;
  same_open = λ w. refl;
  same_default = refl;
}
leaves_locks edition owner (Opened by v) h r = absurd r
leaves_locks edition owner (Closed v) h r = absurd r
leaves_locks edition owner (Attached client u) h r = absurd r
leaves_locks edition owner (Parted client) h r = absurd r
leaves_locks edition owner (Entered u v) h r = absurd r
leaves_locks edition owner (Left u v) h r = absurd r
leaves_locks edition owner (Mode by v mode) h r = absurd r
leaves_locks edition owner (Default mode) h r = absurd r

module _ (acl : Table) (edition : Edition) (owner : UserId) (h : History) (a : Act) (r : MayFollow edition owner h a)
    (sa : StandsFor acl edition owner (a ∷ h)) where
  leaves : LeavesLocks edition owner a h
  leaves = leaves_locks edition owner a h r

  -- the holder after the act, if the window is open
  holder-rights : (w : ℕ) → is_open h w ≡ true
      → holder edition owner (a ∷ h) w ≡ remaining acl a w (holder edition owner h w)
  holder-rights w open_now =
      (λ i. or_else (leaves.gives_none w (holder edition owner h w) i)
      (kept edition owner a h w (holder edition owner h w))) ∙ by (holder edition owner h w)
    where
      here : there (a ∷ h) (Window w) ≡ true
      here = leaves.same_open w ∙ open_now

      by : (held : Option UserId) → kept edition owner a h w held ≡ remaining acl a w held
      by None = refl
      by (Some u) =
          (λ i. if leaves.same_end u w i || not
          (sym (may-StandsFor acl edition owner (a ∷ h) sa u Write (Window w) (sa.slots.shown w ∙ here)) i) then None
          else Some u)

  pub AreLocks-rights : (default : LockMode) (old new : ℕ → Option Lock) → AreLocks default old edition owner h
      → ((w : ℕ) → new w ≡ option_map (with_remaining acl a w) (old w)) → AreLocks default new edition owner (a ∷ h)
  AreLocks-rights default old new s is = record {
    default_is = s.default_is ∙ sym leaves.same_default;
    locks_are = λ w. is w ∙ ap (option_map (with_remaining acl a w)) (s.locks_are w) ∙ by w (is_open h w) refl;
    able = λ w u e. able-kept edition owner h a w (leaves.gives_none w (holder edition owner h w)) u e;
    unheld = λ w e. unheld-kept edition owner h a w (s.unheld w (sym (leaves.same_open w) ∙ e))
        (leaves.gives_none w None);
  }
    where
      by : (w : ℕ) (c : Bool) → is_open h w ≡ c
          → option_map (with_remaining acl a w)
          (if c then Some (record { mode = mode_of h w; holder = holder edition owner h w }) else None) ≡ lock_of
          edition owner (a ∷ h) w
      by w true p =
          (λ i. let lock : Lock = record { mode = sym (leaves.same_mode w) i; holder = sym (holder-rights w p) i } in
          Some lock)
          ∙ ap (λ c. if c then Some (record { mode = mode_of (a ∷ h) w; holder = holder edition owner (a ∷ h) w }) else
          None) (sym (leaves.same_open w ∙ p))
      by w false p = ap
          (λ c. if c then Some (record { mode = mode_of (a ∷ h) w; holder = holder edition owner (a ∷ h) w }) else None)
          (sym (leaves.same_open w ∙ p))

-- an act of a list command opens and closes no window
pub slots-rights : (edition : Edition) (owner : UserId) (a : Act) (h : History) (windows : List (Option ℕ))
    → MayFollow edition owner h a → SlotsStandFor windows (is_open h) (open_count h)
    → SlotsStandFor windows (is_open (a ∷ h)) (open_count (a ∷ h))
slots-rights edition owner (Known v) h windows r s = s
slots-rights edition owner (Gone v) h windows r s = s
slots-rights edition owner (Grouped v leader) h windows r s = s
slots-rights edition owner (Masked by v bit value) h windows r s = s
slots-rights edition owner (Preset kind bit value) h windows r s = s
slots-rights edition owner (Set v bit object value) h windows r s = s
slots-rights edition owner (Opened by v) h windows r s = absurd r
slots-rights edition owner (Closed v) h windows r s = absurd r
slots-rights edition owner (Attached client u) h windows r s = absurd r
slots-rights edition owner (Parted client) h windows r s = absurd r
slots-rights edition owner (Entered u v) h windows r s = absurd r
slots-rights edition owner (Left u v) h windows r s = absurd r
slots-rights edition owner (Mode by v mode) h windows r s = absurd r
slots-rights edition owner (Default mode) h windows r s = absurd r

-- an act of a list command leaves the clients, the modes and the default
clients-same : (edition : Edition) (owner : UserId) (h : History) (a : Act) → MayFollow edition owner h a
    → clients_of (a ∷ h) ≡ clients_of h
clients-same edition owner h (Known v) m = refl
clients-same edition owner h (Gone v) m = refl
clients-same edition owner h (Set v bit object value) m = refl
clients-same edition owner h (Grouped v leader) m = refl
clients-same edition owner h (Masked by v bit value) m = refl
clients-same edition owner h (Preset kind bit value) m = refl
clients-same edition owner h (Opened by v) m = absurd m
clients-same edition owner h (Closed v) m = absurd m
clients-same edition owner h (Attached client user) m = absurd m
clients-same edition owner h (Parted client) m = absurd m
clients-same edition owner h (Entered user v) m = absurd m
clients-same edition owner h (Left user v) m = absurd m
clients-same edition owner h (Mode by v mode) m = absurd m
clients-same edition owner h (Default mode) m = absurd m

pub clients-all_same : (edition : Edition) (owner : UserId) (h : History) (acts : List Act)
    → AllMayFollow edition owner h acts → clients_of (followed_by h acts) ≡ clients_of h
clients-all_same edition owner h [] m = refl
clients-all_same edition owner h (a ∷ acts) m = clients-all_same edition owner (a ∷ h) acts m.1
    ∙ clients-same edition owner h a m.0

pub mode-all_same : (edition : Edition) (owner : UserId) (h : History) (acts : List Act)
    → AllMayFollow edition owner h acts → (w : ℕ) → mode_of (followed_by h acts) w ≡ mode_of h w
mode-all_same edition owner h [] m w = refl
mode-all_same edition owner h (a ∷ acts) m w = mode-all_same edition owner (a ∷ h) acts m.1 w
    ∙ (leaves_locks edition owner a h m.0).same_mode w

pub default-all_same : (edition : Edition) (owner : UserId) (h : History) (acts : List Act)
    → AllMayFollow edition owner h acts → default_of (followed_by h acts) ≡ default_of h
default-all_same edition owner h [] m = refl
default-all_same edition owner h (a ∷ acts) m = default-all_same edition owner (a ∷ h) acts m.1
    ∙ (leaves_locks edition owner a h m.0).same_default
