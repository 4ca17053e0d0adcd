-- Locks that an act which sets a bit leaves as they are.
use Rattle.rights.proofs.Vocabulary.{◌≡◌, ◌∙◌, ◌∷◌, [], List, ◌&&◌, ◌||◌, ℕ, Bool, true, false, not, Option, Some, None}
use Rattle.rights.proofs.Vocabulary.{refl, ap, sym, is_none, if◌then◌else◌, ◌==◌, list_any, false≢true, eqb-true, Set}
use Rattle.rights.proofs.Vocabulary.{Object, Window, Command, Bit, Read, Write, Execute, Edition, UserId, History, may}
use Rattle.rights.proofs.Vocabulary.{leaders_of, is_open, same_user, Locks, holder, mode_of, LocksStandFor}
use Rattle.std.proofs.Common.{unwrap_or}
use Rattle.acl.specs.History.{decided, has}
use Rattle.acl.specs.Same.{same_bit, same_object}
use Rattle.writelock.specs.Holding.{ends, kept}
use Rattle.writelock.proofs.HolderLemmas.{able-kept}

-- whether setting a bit leaves each lock as it is: w is taken on no window whose lock is held
abbrev pub leaves_locks : Edition → UserId → History → Bit → Object → Bool → Bool
leaves_locks edition owner h Write (Window w) false = is_none (holder edition owner h w)
leaves_locks edition owner h bit object value = true

-- ---- tests

and_false : (a : Bool) → (a && false) ≡ false
and_false true = refl
and_false false = refl

and_none : (a b : Bool) → (a && false && b) ≡ false
and_none true b = refl
and_none false b = refl

or_true : (a : Bool) → (a || true) ≡ true
or_true true = refl
or_true false = refl

or_on : (p q r s : Bool) → (p ≡ true → r ≡ true) → (q ≡ true → s ≡ true) → (p || q) ≡ true → (r || s) ≡ true
or_on true q r s f g e = ap (λ b. b || s) (f refl)
or_on false q r s f g e = ap (λ b. r || b) (g e) ∙ or_true r

-- what was so stays so, if it is set or isn't decided
given_true : (c r : Bool) → r ≡ true → unwrap_or (decided c true) r ≡ true
given_true true r e = refl
given_true false r e = e

undecided : (c b r : Bool) → c ≡ false → r ≡ true → unwrap_or (decided c b) r ≡ true
undecided c b r e f = ap (λ x. unwrap_or (decided x b) r) e ∙ f

module _ (edition : Edition) (owner : UserId) (h : History) (u : UserId) where
  -- the window whose lock is held isn't the one on which w is taken
  apart : (x w : ℕ) (v : UserId) → is_none (holder edition owner h x) ≡ true → holder edition owner h w ≡ Some v
      → (x == w) ≡ false
  apart x w v free held = at (x == w) refl
    where
      at : (b : Bool) → (x == w) ≡ b → (x == w) ≡ false
      at false e = e
      at true e = absurd
          (false≢true
          (sym (ap is_none held)
          ∙ (sym (ap (λ n. is_none (holder edition owner h n)) (eqb-true x w e)) ∙ free)))

  -- the act doesn't free the lock by itself
  unended : (bit : Bit) (object : Object) (value : Bool) → leaves_locks edition owner h bit object value ≡ true
      → (w : ℕ) (v : UserId) → holder edition owner h w ≡ Some v → ends (Set u bit object value) h v w ≡ false
  unended Read (Window x) true free w v held = refl
  unended Read (Window x) false free w v held = refl
  unended Read (Command c) true free w v held = refl
  unended Read (Command c) false free w v held = refl
  unended Execute (Window x) true free w v held = refl
  unended Execute (Window x) false free w v held = refl
  unended Execute (Command c) true free w v held = refl
  unended Execute (Command c) false free w v held = refl
  unended Write (Window x) true free w v held = refl
  unended Write (Command c) true free w v held = refl
  unended Write (Command c) false free w v held = refl
  unended Write (Window x) false free w v held = ap (λ b. same_user u v && b) (apart x w v free held)
      ∙ and_false (same_user u v)

  -- nobody loses w on the window
  undenied : (bit : Bit) (object : Object) (value : Bool) → leaves_locks edition owner h bit object value ≡ true
      → (w : ℕ) (v : UserId) → holder edition owner h w ≡ Some v → (q : UserId)
      → has owner h q Write (Window w) ≡ true → has owner (Set u bit object value ∷ h) q Write (Window w) ≡ true
  undenied bit object true free w v held q e = given_true
      (same_user u q && same_bit bit Write && same_object object (Window w)) (has owner h q Write (Window w)) e
  undenied Read object false free w v held q e = undecided
      (same_user u q && same_bit Read Write && same_object object (Window w)) false (has owner h q Write (Window w))
      (and_none (same_user u q) (same_object object (Window w))) e
  undenied Execute object false free w v held q e = undecided
      (same_user u q && same_bit Execute Write && same_object object (Window w)) false
      (has owner h q Write (Window w)) (and_none (same_user u q) (same_object object (Window w))) e
  undenied Write (Command c) false free w v held q e = undecided
      (same_user u q && same_bit Write Write && same_object (Command c) (Window w)) false
      (has owner h q Write (Window w)) (and_false (same_user u q && same_bit Write Write)) e
  undenied Write (Window x) false free w v held q e = undecided
      (same_user u q && same_bit Write Write && same_object (Window x) (Window w)) false
      (has owner h q Write (Window w))
      (ap (λ b. same_user u q && same_bit Write Write && b) (apart x w v free held)
      ∙ and_false (same_user u q && same_bit Write Write)) e

  module _ (bit : Bit) (object : Object) (value : Bool) (free : leaves_locks edition owner h bit object value ≡ true)
    where
      any_on : (w : ℕ) (v : UserId) → holder edition owner h w ≡ Some v → (us : List UserId)
          → list_any (λ q. has owner h q Write (Window w)) us ≡ true
          → list_any (λ q. has owner (Set u bit object value ∷ h) q Write (Window w)) us ≡ true
      any_on w v held [] e = e
      any_on w v held (q ∷ us) e = or_on (has owner h q Write (Window w))
          (list_any (λ q. has owner h q Write (Window w)) us)
          (has owner (Set u bit object value ∷ h) q Write (Window w))
          (list_any (λ q. has owner (Set u bit object value ∷ h) q Write (Window w)) us)
          (undenied bit object value free w v held q) (any_on w v held us) e

      able_on : (w : ℕ) (v : UserId) → holder edition owner h w ≡ Some v
          → may edition owner h v Write (Window w) ≡ true
          → may edition owner (Set u bit object value ∷ h) v Write (Window w) ≡ true
      able_on w v held e = or_on
          (same_user owner v || has owner h v Write (Window w))
          (list_any (λ q. has owner h q Write (Window w)) (leaders_of edition h v))
          (same_user owner v || has owner (Set u bit object value ∷ h) v Write (Window w))
          (list_any (λ q. has owner (Set u bit object value ∷ h) q Write (Window w)) (leaders_of edition h v))
          (or_on (same_user owner v) (has owner h v Write (Window w)) (same_user owner v)
          (has owner (Set u bit object value ∷ h) v Write (Window w)) (λ is. is)
          (undenied bit object value free w v held v))
          (any_on w v held (leaders_of edition h v)) e

      module _ (t : Locks) (s : LocksStandFor t edition owner h) where
        same : (w : ℕ) → holder edition owner (Set u bit object value ∷ h) w ≡ holder edition owner h w
        same w = by (holder edition owner h w) refl
          where
            by : (held : Option UserId) → holder edition owner h w ≡ held
                → kept edition owner (Set u bit object value) h w held ≡ held
            by None e = refl
            by (Some v) e = ap
                (λ b. if b || not (may edition owner (Set u bit object value ∷ h) v Write (Window w)) then None
                else Some v) (unended bit object value free w v e)
                ∙ ap (λ b. if not b then None else Some v) (able_on w v e (s.are.able w v e))

        pub locks_left : LocksStandFor t edition owner (Set u bit object value ∷ h)
        locks_left = record {
          slots = s.slots;
          all = s.all;
          are = record {
            default_is = s.are.default_is;
            locks_are = λ w. s.are.locks_are w
                ∙ (λ i. if is_open h w then Some (record { mode = mode_of h w; holder = sym (same w) i }) else None);
            able = λ w v e. able-kept edition owner h (Set u bit object value) w refl v e;
            unheld = λ w e. same w ∙ s.are.unheld w e;
          };
        }
