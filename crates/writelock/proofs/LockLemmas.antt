-- Locks stand for the history with an act in front if the act sets a mode, or a client comes to or leaves
-- a window, attaches or goes.
use Rattle.writelock.proofs.Vocabulary.{◌≡◌, ◌∙◌, ℕ, Bool, true, false, not, ◌==◌, ◌&&◌, ◌||◌, ap, sym, refl, ◌∷◌}
use Rattle.writelock.proofs.Vocabulary.{Option, Some, None, if◌then◌else◌, true≢false, option_map, option_map_or}
use Rattle.writelock.proofs.Vocabulary.{same_user, History, may, is_open, decided, LockMode, Edition, UserId, Write}
use Rattle.writelock.proofs.Vocabulary.{Window, Attached, Parted, Entered, Left, Mode, Lock, LocksStandFor, AreLocks}
use Rattle.writelock.proofs.Vocabulary.{lock_of, lock_by, left_by, entered_by, without_holder, has_holder}
use Rattle.std.proofs.Common.{is_none}
use borrow.Author.Tests.{eqb-true}
use Rattle.acl.specs.declared.act.LockMode.TheVariants.{Off, Auto, On}
use Rattle.acl.proofs.FollowingLemmas.{same_user-sym}
use Rattle.writelock.specs.declared.locks.Locks.{Locks}
use Rattle.writelock.specs.Holding.{mode_of, holder, kept, or_else, is_off, is_auto, loses_last}
use Rattle.writelock.proofs.HolderLemmas.{able-kept, unheld-kept, holder-same}

module _ (default : LockMode) (old new : ℕ → Option Lock) (edition : Edition) (owner : UserId) (h : History)
    (s : AreLocks default old edition owner h) where
  -- a mode is set, and the lock is given or freed
  pub AreLocks-Mode : (by : UserId) (w : ℕ) (mode : LockMode) → is_open h w ≡ true
      → ((q : ℕ) → new q ≡ (if w == q then option_map (λ _. lock_by by mode) (old q) else old q))
      → (is_off mode ≡ false → may edition owner h by Write (Window w) ≡ true)
      → AreLocks default new edition owner (Mode by w mode ∷ h)
  AreLocks-Mode by w mode open_now locks right = record {
    default_is = s.default_is;
    locks_are = λ q. locks q ∙ lock_now q (w == q) refl;
    able = λ q u e. able_now q u (w == q) mode refl right e;
    unheld = λ q e. other mode q (apart q (w == q) refl e) ∙ s.unheld q e;
  }
    where
      apart : (q : ℕ) (c : Bool) → (w == q) ≡ c → is_open h q ≡ false → (w == q) ≡ false
      apart q false p e = p
      apart q true p e = absurd (true≢false (sym open_now ∙ ap (is_open h) (eqb-true w q p) ∙ e))

      other : (m : LockMode) (q : ℕ) → (w == q) ≡ false
          → holder edition owner (Mode by w m ∷ h) q ≡ holder edition owner h q
      other m q e = holder-same edition owner h (Mode by w m) q (s.able q) (λ i. decided (e i && not (is_off m)) by)
          (λ u i. e i && is_off m) (λ u. refl)

      here : (q : ℕ) → (w == q) ≡ true → (m : LockMode) (held : Option UserId)
          → or_else (decided ((w == q) && not (is_off m)) by) (kept edition owner (Mode by w m) h q held) ≡
          (lock_by by m).holder
      here q e Off None = λ i. or_else (decided (e i && false) by) None
      here q e Off (Some u) = λ i. or_else (decided (e i && false) by)
          (if (e i && true) || not (may edition owner h u Write (Window q)) then None else Some u)
      here q e Auto held = λ i. or_else (decided (e i && true) by) (kept edition owner (Mode by w Auto) h q held)
      here q e On held = λ i. or_else (decided (e i && true) by) (kept edition owner (Mode by w On) h q held)

      lock_now : (q : ℕ) (c : Bool) → (w == q) ≡ c
          → (if c then option_map (λ _. lock_by by mode) (old q) else old q) ≡ lock_of edition owner
          (Mode by w mode ∷ h) q
      lock_now q false e = s.locks_are q
          ∙
          (λ i. if is_open h q then Some
          (record { mode = if sym e i then mode else mode_of h q; holder = sym (other mode q e) i }) else None)
      lock_now q true e =
          let open_q : is_open h q ≡ true = ap (is_open h) (sym (eqb-true w q e)) ∙ open_now in
          ap (option_map (λ _. lock_by by mode)) (s.locks_are q)
          ∙ (λ i. option_map {T = Lock} (λ _. lock_by by mode)
          (if open_q i then Some (record { mode = mode_of h q; holder = holder edition owner h q }) else None))
          ∙ (λ i. if sym open_q i then Some
          (record {
            mode = if sym e i then mode else mode_of h q;
            holder = sym (here q e mode (holder edition owner h q)) i;
          }) else None)

      able_now : (q : ℕ) (u : UserId) (c : Bool) (m : LockMode) → (w == q) ≡ c
          → (is_off m ≡ false → may edition owner h by Write (Window w) ≡ true)
          → holder edition owner (Mode by w m ∷ h) q ≡ Some u → may edition owner h u Write (Window q) ≡ true
      able_now q u false m e right f = s.able q u (sym (other m q e) ∙ f)
      able_now q u true m e right f = held (is_off m) refl (sym (here q e m (holder edition owner h q)) ∙ f)
        where
          held : (off : Bool) → is_off m ≡ off → (if off then None else Some by) ≡ Some u
              → may edition owner h u Write (Window q) ≡ true
          held true p g = cc
          held false p g = let same : by ≡ u = cc in
              (λ i. may edition owner h (sym same i) Write (Window (sym (eqb-true w q e) i))) ∙ right p

  -- a user leaves a window
  pub AreLocks-Left : (user : UserId) (w : ℕ)
      → ((q : ℕ) → new q ≡ (if w == q then option_map (left_by user) (old q) else old q))
      → AreLocks default new edition owner (Left user w ∷ h)
  AreLocks-Left user w locks = record {
    default_is = s.default_is;
    locks_are = λ q. locks q ∙ lock_now q (w == q) refl;
    able = λ q u e. able-kept edition owner h (Left user w) q refl u e;
    unheld = λ q e. unheld-kept edition owner h (Left user w) q (s.unheld q e) refl;
  }
    where
      -- the holder who is left
      left_now : (q : ℕ) (held : Option UserId) → holder edition owner h q ≡ held → (c : Bool) → (w == q) ≡ c
          → kept edition owner (Left user w) h q held ≡
          (if c && is_auto (mode_of h q) && has_holder user held then None else held)
      left_now q None e c f = cases c (is_auto (mode_of h q))
        where
          none : Option UserId
          none = None

          cases : (a b : Bool) → none ≡ (if a && b && false then none else none)
          cases true true = refl
          cases true false = refl
          cases false b = refl
      left_now q (Some u) e c f =
          (λ i. if (same_user user u && f i && is_auto (mode_of h q)) || not (s.able q u e i) then None else Some u)
          ∙ cases (same_user user u) (same_user u user) c (is_auto (mode_of h q)) (same_user-sym user u)
        where
          cases : (a a' b d : Bool) → a ≡ a'
              → (if (a && b && d) || false then None else Some u) ≡ (if b && d && a' then None else Some u)
          cases true true true true e = refl
          cases false false true true e = refl
          cases true false true true e = cc
          cases false true true true e = cc
          cases true a' true false e = refl
          cases true a' false d e = refl
          cases false a' true false e = refl
          cases false a' false d e = refl

      lock_now : (q : ℕ) (c : Bool) → (w == q) ≡ c
          → (if c then option_map (left_by user) (old q) else old q) ≡ lock_of edition owner (Left user w ∷ h) q
      lock_now q false e = s.locks_are q
          ∙
          (λ i. if is_open h q then Some
          (record { mode = mode_of h q; holder = sym (left_now q (holder edition owner h q) refl false e) i }) else
          None)
      lock_now q true e = ap (option_map (left_by user)) (s.locks_are q) ∙ cases (is_open h q)
        where
          cases : (o : Bool)
              → option_map (left_by user)
              (if o then Some (record { mode = mode_of h q; holder = holder edition owner h q }) else None) ≡
              (if o then Some (record { mode = mode_of h q; holder = holder edition owner (Left user w ∷ h) q }) else
              None)
          cases true =
              (λ i. let lock : Lock = record
              { mode = mode_of h q; holder = sym (left_now q (holder edition owner h q) refl true e) i } in Some lock)
          cases false = refl

  -- a user enters a window
  pub AreLocks-Entered : (user : UserId) (w : ℕ) (may_write : Bool) → is_open h w ≡ true
      → may_write ≡ may edition owner h user Write (Window w)
      → ((q : ℕ) → new q ≡ (if w == q then option_map (entered_by user may_write) (old q) else old q))
      → AreLocks default new edition owner (Entered user w ∷ h)
  AreLocks-Entered user w may_write open_now told locks = record {
    default_is = s.default_is;
    locks_are = λ q. locks q ∙ lock_now q (w == q) refl;
    able = λ q u e. able_now q u (w == q) refl e;
    unheld = λ q e. other q (apart q (w == q) refl e) ∙ s.unheld q e;
  }
    where
      apart : (q : ℕ) (c : Bool) → (w == q) ≡ c → is_open h q ≡ false → (w == q) ≡ false
      apart q false p e = p
      apart q true p e = absurd (true≢false (sym open_now ∙ ap (is_open h) (eqb-true w q p) ∙ e))

      other : (q : ℕ) → (w == q) ≡ false → holder edition owner (Entered user w ∷ h) q ≡ holder edition owner h q
      other q e = holder-same edition owner h (Entered user w) q (s.able q)
          (λ i. decided
          (e i && is_auto (mode_of h q) && is_none (holder edition owner h q) && may edition owner h user Write
          (Window q)) user) (λ u. refl) (λ u. refl)

      entered : Bool → Bool → Option UserId → Option UserId
      entered auto may held = if auto && is_none held && may then Some user else held

      here : (q : ℕ) → (w == q) ≡ true → (held : Option UserId) → holder edition owner h q ≡ held
          → or_else
          (decided ((w == q) && is_auto (mode_of h q) && is_none held && may edition owner h user Write (Window q))
          user) (kept edition owner (Entered user w) h q held) ≡ entered (is_auto (mode_of h q)) may_write held
      here q e None k =
          (λ i. or_else
          (decided (e i && is_auto (mode_of h q) && true && may edition owner h user Write (Window q)) user) None)
          ∙ cases (is_auto (mode_of h q)) (may edition owner h user Write (Window q))
          ∙ ap (λ m. entered (is_auto (mode_of h q)) m None)
          (sym (told ∙ ap (λ x. may edition owner h user Write (Window x)) (eqb-true w q e)))
        where
          cases : (a m : Bool) → or_else (decided (true && a && true && m) user) None ≡ entered a m None
          cases true true = refl
          cases true false = refl
          cases false m = refl
      here q e (Some u) k =
          (λ i. or_else
          (decided (e i && is_auto (mode_of h q) && false && may edition owner h user Write (Window q)) user)
          (if false || not (s.able q u k i) then None else Some u))
          ∙ cases (is_auto (mode_of h q)) (may edition owner h user Write (Window q))
        where
          cases : (a m : Bool)
              → or_else (decided (true && a && false && m) user) (Some u) ≡ entered a may_write (Some u)
          cases true m = refl
          cases false m = refl

      lock_now : (q : ℕ) (c : Bool) → (w == q) ≡ c
          → (if c then option_map (entered_by user may_write) (old q) else old q) ≡ lock_of edition owner
          (Entered user w ∷ h) q
      lock_now q false e = s.locks_are q
          ∙ (λ i. if is_open h q then Some (record { mode = mode_of h q; holder = sym (other q e) i }) else None)
      lock_now q true e = ap (option_map (entered_by user may_write)) (s.locks_are q) ∙ cases (is_open h q)
        where
          cases : (o : Bool)
              → option_map (entered_by user may_write)
              (if o then Some (record { mode = mode_of h q; holder = holder edition owner h q }) else None) ≡
              (if o then Some (record { mode = mode_of h q; holder = holder edition owner (Entered user w ∷ h) q }) else
              None)
          cases true =
              (λ i. let lock : Lock = record
              { mode = mode_of h q; holder = sym (here q e (holder edition owner h q) refl) i } in Some lock)
          cases false = refl

      able_now : (q : ℕ) (u : UserId) (c : Bool) → (w == q) ≡ c → holder edition owner (Entered user w ∷ h) q ≡ Some u
          → may edition owner h u Write (Window q) ≡ true
      able_now q u false e f = s.able q u (sym (other q e) ∙ f)
      able_now q u true e f = cases (is_auto (mode_of h q)) may_write refl (holder edition owner h q) refl
          (sym (here q e (holder edition owner h q) refl) ∙ f)
        where
          cases : (a m : Bool) → may_write ≡ m → (held : Option UserId) → holder edition owner h q ≡ held
              → entered a m held ≡ Some u → may edition owner h u Write (Window q) ≡ true
          cases true true p None k g =
              let same : user ≡ u = cc in
              (λ i. may edition owner h (sym same i) Write (Window (sym (eqb-true w q e) i))) ∙ sym told ∙ p
          cases true false p None k g = cc
          cases false m p None k g = cc
          cases true m p (Some v) k g = s.able q u (k ∙ g)
          cases false m p (Some v) k g = s.able q u (k ∙ g)

  -- a client goes
  pub AreLocks-Parted : (last : Option UserId) (client : ℕ)
      → ((u : UserId) → loses_last h client u ≡ option_map_or (same_user u) last false)
      → ((q : ℕ) → new q ≡ option_map (without_holder last) (old q))
      → AreLocks default new edition owner (Parted client ∷ h)
  AreLocks-Parted last client told locks = record {
    default_is = s.default_is;
    locks_are = λ q. locks q ∙ ap (option_map (without_holder last)) (s.locks_are q) ∙ cases q (is_open h q);
    able = λ q u e. able-kept edition owner h (Parted client) q refl u e;
    unheld = λ q e. unheld-kept edition owner h (Parted client) q (s.unheld q e) refl;
  }
    where
      freed : Option UserId → Option UserId → Option UserId
      freed gone held = if option_map_or (λ user. has_holder user held) gone false then None else held

      left_now : (q : ℕ) (held : Option UserId) → holder edition owner h q ≡ held → (gone : Option UserId) → last ≡ gone
          → kept edition owner (Parted client) h q held ≡ freed gone held
      left_now q None e None p = refl
      left_now q None e (Some v) p = refl
      left_now q (Some u) e gone p = (λ i. if told u i || not (s.able q u e i) then None else Some u)
          ∙ (λ i. if option_map_or (same_user u) (p i) false || false then None else Some u) ∙ by gone
        where
          by : (gone : Option UserId)
              → (if option_map_or (same_user u) gone false || false then None else Some u) ≡ freed gone (Some u)
          by None = refl
          by (Some v) = elim (same_user u v) as
              (λ c. (if c || false then None else Some u) ≡ (if c then None else Some u)) [ true ↦ refl | false ↦ refl ]

      cases : (q : ℕ) (o : Bool)
          → option_map (without_holder last)
          (if o then Some (record { mode = mode_of h q; holder = holder edition owner h q }) else None) ≡
          (if o then Some (record { mode = mode_of h q; holder = holder edition owner (Parted client ∷ h) q }) else
          None)
      cases q true =
          (λ i. let lock : Lock = record
          { mode = mode_of h q; holder = sym (left_now q (holder edition owner h q) refl last refl) i } in Some lock)
      cases q false = refl

-- a client that attaches leaves the locks unchanged
pub LocksStandFor-Attached : (t : Locks) (edition : Edition) (owner : UserId) (h : History) (client : ℕ) (user : UserId)
    → LocksStandFor t edition owner h → LocksStandFor t edition owner (Attached client user ∷ h)
LocksStandFor-Attached t edition owner h client user s = record {
  slots = s.slots;
  all = s.all;
  are = record {
    default_is = s.are.default_is;
    locks_are = λ w. s.are.locks_are w
        ∙ (λ i. if is_open h w then Some (record { mode = mode_of h w; holder = sym (same w) i }) else None);
    able = λ w u e. s.are.able w u (sym (same w) ∙ e);
    unheld = λ w e. same w ∙ s.are.unheld w e;
  };
}
  where
    same : (w : ℕ) → holder edition owner (Attached client user ∷ h) w ≡ holder edition owner h w
    same w = holder-same edition owner h (Attached client user) w (s.are.able w) refl (λ u. refl) (λ u. refl)
