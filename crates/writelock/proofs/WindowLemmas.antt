-- Locks after a window was opened or closed stand for the history with that act in front.
use Rattle.writelock.proofs.Vocabulary.{◌≡◌, ◌∙◌, ℕ, Bool, true, false, not, ◌==◌, ◌&&◌, ◌||◌, ap, sym, refl, ◌∷◌}
use Rattle.writelock.proofs.Vocabulary.{Option, Some, None, if◌then◌else◌, true≢false, same_user, History, may, is_open}
use Rattle.writelock.proofs.Vocabulary.{decided, LockMode, same_user-refl, Edition, UserId, Write, Window, Opened}
use Rattle.writelock.proofs.Vocabulary.{Closed, Lock, AreLocks, lock_of, opened_by}
use Rattle.std.proofs.Common.{unwrap_or}
use Rattle.std.specs.List.{list_any}
use borrow.Author.Tests.{eqb-true}
use Rattle.acl.specs.History.{has, leaders_of, opening, is_known, mask}
use Rattle.writelock.specs.Holding.{default_of, mode_of, holder, kept, or_else, is_on}
use Rattle.writelock.proofs.HolderLemmas.{able-kept, holder-same}

module _ (default : LockMode) (old new : ℕ → Option Lock) (edition : Edition) (owner : UserId) (h : History)
    (s : AreLocks default old edition owner h) where
  -- a window is closed
  pub AreLocks-Closed : (w : ℕ) → ((q : ℕ) → new q ≡ (if w == q then None else old q))
      → AreLocks default new edition owner (Closed w ∷ h)
  AreLocks-Closed w locks = record {
    default_is = s.default_is;
    locks_are = λ q. locks q ∙ lock_now q (w == q) refl;
    able = λ q u e. able-kept edition owner h (Closed w) q refl u e;
    unheld = λ q e. unheld_now q (w == q) refl e;
  }
    where
      other : (q : ℕ) → (w == q) ≡ false → holder edition owner (Closed w ∷ h) q ≡ holder edition owner h q
      other q e = holder-same edition owner h (Closed w) q (s.able q) refl (λ u. e) (λ u. refl)

      here : (q : ℕ) → (w == q) ≡ true → (held : Option UserId) → kept edition owner (Closed w) h q held ≡ None
      here q e None = refl
      here q e (Some u) = λ i. if e i || not (may edition owner (Closed w ∷ h) u Write (Window q)) then None else Some u

      unheld_now : (q : ℕ) (c : Bool) → (w == q) ≡ c → unwrap_or (decided c false) (is_open h q) ≡ false
          → holder edition owner (Closed w ∷ h) q ≡ None
      unheld_now q true p e = here q p (holder edition owner h q)
      unheld_now q false p e = other q p ∙ s.unheld q e

      lock_now : (q : ℕ) (c : Bool) → (w == q) ≡ c
          → (if c then None else old q) ≡ lock_of edition owner (Closed w ∷ h) q
      lock_now q true e =
          (λ i. if sym (ap (λ c. unwrap_or (decided c false) (is_open h q)) e) i then Some
          (record { mode = mode_of h q; holder = holder edition owner (Closed w ∷ h) q }) else None)
      lock_now q false e = s.locks_are q
          ∙
          (λ i. if sym (ap (λ c. unwrap_or (decided c false) (is_open h q)) e) i then Some
          (record { mode = mode_of h q; holder = sym (other q e) i }) else None)

  -- a window is opened
  pub AreLocks-Opened : (by : UserId) (w : ℕ) → is_open h w ≡ false
      → ((q : ℕ) → new q ≡ (if w == q then Some (opened_by by default) else old q))
      → AreLocks default new edition owner (Opened by w ∷ h)
  AreLocks-Opened by w fresh locks = record {
    default_is = s.default_is;
    locks_are = λ q. locks q ∙ lock_now q (w == q) refl;
    able = λ q u e. able_now q u (w == q) refl e;
    unheld = λ q e. unheld_now q (w == q) refl e;
  }
    where
      -- the rights on other windows stay
      has_same : (q : ℕ) → (w == q) ≡ false → (u : UserId)
          → has owner (Opened by w ∷ h) u Write (Window q) ≡ has owner h u Write (Window q)
      has_same q e u = λ i. unwrap_or (if e i then opening owner h by u Write else None)
          (has owner h u Write (Window q))

      may_same : (q : ℕ) → (w == q) ≡ false → (u : UserId)
          → may edition owner (Opened by w ∷ h) u Write (Window q) ≡ may edition owner h u Write (Window q)
      may_same q e u = λ i. same_user owner u || has_same q e u i || list_any (λ leader. has_same q e leader i)
          (leaders_of edition h u)

      other : (q : ℕ) → (w == q) ≡ false → holder edition owner (Opened by w ∷ h) q ≡ holder edition owner h q
      other q e = holder-same edition owner h (Opened by w) q (s.able q) (λ i. decided (e i && is_on (default_of h)) by)
          (λ u. refl) (may_same q e)

      free : (q : ℕ) → (w == q) ≡ true → holder edition owner h q ≡ None
      free q e = s.unheld q (ap (is_open h) (sym (eqb-true w q e)) ∙ fresh)

      here : (q : ℕ) → (w == q) ≡ true → holder edition owner (Opened by w ∷ h) q ≡ (opened_by by default).holder
      here q e =
          (λ i. or_else (decided (e i && is_on (default_of h)) by) (kept edition owner (Opened by w) h q (free q e i)))
          ∙ cases (is_on (default_of h)) ∙ ap (λ m. (opened_by by m).holder) (sym s.default_is)
        where
          cases : (c : Bool) → or_else (decided (true && c) by) None ≡ (if c then Some by else None)
          cases true = refl
          cases false = refl

      unheld_now : (q : ℕ) (c : Bool) → (w == q) ≡ c → unwrap_or (decided c true) (is_open h q) ≡ false
          → holder edition owner (Opened by w ∷ h) q ≡ None
      unheld_now q true p e = absurd (true≢false e)
      unheld_now q false p e = other q p ∙ s.unheld q e

      lock_now : (q : ℕ) (c : Bool) → (w == q) ≡ c
          → (if c then Some (opened_by by default) else old q) ≡ lock_of edition owner (Opened by w ∷ h) q
      lock_now q true e =
          (λ i. let lock : Lock = record { mode = s.default_is i; holder = sym (here q e) i } in Some lock)
          ∙ (λ i. if sym (ap (λ c. unwrap_or (decided c true) (is_open h q)) e) i then Some
          (record {
            mode = if sym e i then default_of h else mode_of h q;
            holder = holder edition owner (Opened by w ∷ h) q;
          }) else None)
      lock_now q false e = s.locks_are q
          ∙ (λ i. if sym (ap (λ c. unwrap_or (decided c true) (is_open h q)) e) i then Some
          (record { mode = if sym e i then default_of h else mode_of h q; holder = sym (other q e) i }) else None)

      may_now : (q : ℕ) → (w == q) ≡ true → may edition owner (Opened by w ∷ h) by Write (Window q) ≡ true
      may_now q e =
          (λ i. same_user owner by || unwrap_or
          (if e i then
          (if same_user-refl by i then Some true else decided (is_known owner h by) (mask h by by Write)) else None)
          (has owner h by Write (Window q)) || list_any
          (λ leader. has owner (Opened by w ∷ h) leader Write (Window q)) (leaders_of edition h by))
          ∙ cases (same_user owner by)
        where
          cases : (c : Bool)
              →
              (c || true || list_any (λ leader. has owner (Opened by w ∷ h) leader Write (Window q))
              (leaders_of edition h by)) ≡ true
          cases true = refl
          cases false = refl

      able_now : (q : ℕ) (u : UserId) (c : Bool) → (w == q) ≡ c → holder edition owner (Opened by w ∷ h) q ≡ Some u
          → may edition owner (Opened by w ∷ h) u Write (Window q) ≡ true
      able_now q u false e f = may_same q e u ∙ s.able q u (sym (other q e) ∙ f)
      able_now q u true e f = held (is_on default) (sym (here q e) ∙ f)
        where
          held : (c : Bool) → (if c then Some by else None) ≡ Some u
              → may edition owner (Opened by w ∷ h) u Write (Window q) ≡ true
          held true g = let same : by ≡ u = cc in ap (λ x. may edition owner (Opened by w ∷ h) x Write (Window q))
              (sym same) ∙ may_now q e
          held false g = cc
