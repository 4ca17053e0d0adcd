-- Acts of other users that leave a lock to its holder, and acts that give no lock.
use Rattle.session_laws.proofs.Vocabulary.{◌≡◌, ◌<◌, ℕ, Bool, true, false, not, List, [], ◌∷◌, ◌++◌, Option, Some, None}
use Rattle.session_laws.proofs.Vocabulary.{refl, ap, sym, ◌∙◌, subst, map, arith, inl, inr, if◌then◌else◌, ◌==◌, ◌&&◌}
use Rattle.session_laws.proofs.Vocabulary.{◌⊎◌, AllByRecursion, nat_tests, UserId, Bit, PresetKind, MaskEntry}
use Rattle.session_laws.proofs.Vocabulary.{MaskScope, mask_acts, scope_acts, Act, History, followed_by, same_user}
use Rattle.session_laws.proofs.Vocabulary.{holder, kept, releases, or_else, clients_of, frees, Order, IsOn, right}
use Rattle.session_laws.proofs.Vocabulary.{unlocked, first_fault, window_checks, where_needed, may_in, holder_in, Needs}
use Rattle.session_laws.proofs.Vocabulary.{option_map, Write, Execute, stops_nobody_but, Rises, AreFit, Tables, Window}
use Rattle.session_laws.proofs.Vocabulary.{Client, contradicts, equal, all_weaken, all_append, all_map}
use Rattle.acl.specs.declared.entries.MaskScope.TheVariants as scope
use Rattle.acl.specs.declared.act.Act.TheVariants as act
use Rattle.writelock.specs.Holding.{given}
use Rattle.command_lang.specs.declared.command.Command.TheVariants as command
use Rattle.acl.specs.declared.act.Object.TheVariants as object
use Rattle.session_laws.proofs.Gating.{first_passed, then_passed}
use Rattle.session_laws.proofs.Listing.{is_listing}
use Rattle.session_laws.proofs.Callers.{Own, above, all_reverse, all_mapped}
use Rattle.session_laws.proofs.GuestsLeaving.{LeftBy}
use Rattle.session_laws.proofs.HolderActs.{NoneOf, IsCalm}

-- ---- lists

pub split_all : {A : Type 0} (P : A → Type 0) (xs ys : List A) → AllByRecursion P (xs ++ ys) → AllByRecursion P xs
    × AllByRecursion P ys
split_all P [] ys all = (tt, all)
split_all P (x ∷ xs) ys all = let rest : AllByRecursion P xs
    × AllByRecursion P ys = split_all P xs ys all.1 in ((all.0, rest.0), rest.1)

pub both_all : {A : Type 0} (P Q : A → Type 0) (xs : List A) → AllByRecursion P xs → AllByRecursion Q xs
    → AllByRecursion (λ x. P x × Q x) xs
both_all P Q [] p q = tt
both_all P Q (x ∷ xs) p q = ((p.0, q.0), both_all P Q xs p.1 q.1)

less_apart : (m n : ℕ) → m < n → (m == n) ≡ false
less_apart m n less = grind (arith, nat_tests, less)

-- each client has a serial of its own
abbrev pub Alone : List Client → Client → Type 0
Alone cs d = AllByRecursion (Own d.serial d.user) cs

pub alone : (cs : List Client) (next : ℕ) → Rises (map (λ (d : Client). d.serial) cs) next
    → AllByRecursion (Alone cs) cs
alone [] next rise = tt
alone (c ∷ cs) next rise = (
  ((λ here. refl), above c.serial c.serial c.user cs refl rise.1),
  all_weaken (λ (d : Client). (c.serial < d.serial) × Alone cs d) (Alone (c ∷ cs)) cs
      (λ d both. ((λ here. contradicts (c.serial == d.serial) here (less_apart c.serial d.serial both.0)), both.1))
      (both_all (λ (d : Client). c.serial < d.serial) (Alone cs) cs
      (all_mapped (λ n. c.serial < n) (λ (d : Client). d.serial) cs rise.1) (alone cs next rise.2)),
)

-- commands by which a user may lose w on a window
abbrev pub takes_rights : Order → Bool
takes_rights (command.Acladd names) = true
takes_rights (command.Aclchg names bits list) = true
takes_rights (command.Acldel word) = true
takes_rights (command.Aclgrp word leader) = true
takes_rights c = false

module _ (P : Act → Type 0) (by : UserId)
    (masked : (u : UserId) (bit : Bit) (value : Bool) → P (act.Masked by u bit value))
    (preset : (kind : PresetKind) (bit : Bit) (value : Bool) → P (act.Preset kind bit value)) where
  pub scope_all : (s : MaskScope) (bit : Bit) (value : Bool) → AllByRecursion P (scope_acts by s bit value)
  scope_all (scope.Preset kind) bit value = (preset kind bit value, tt)
  scope_all (scope.User None) bit value = tt
  scope_all (scope.User (Some u)) bit value = (masked u bit value, tt)

  pub mask_all : (entries : List MaskEntry) → AllByRecursion P (mask_acts by entries)
  mask_all [] = tt
  mask_all (e ∷ entries) = all_append P (scope_acts by e.scope e.bit e.value) (mask_acts by entries)
      (scope_all e.scope e.bit e.value) (mask_all entries)

-- ---- acts that give no lock

abbrev pub Silent : Act → Type 0
Silent (act.Mode by w mode) = ⊥
Silent (act.Opened by w) = ⊥
Silent (act.Entered user w) = ⊥
Silent a = Unit {0}

pub listing_silent : (a : Act) → is_listing a ≡ true → Silent a
listing_silent (act.Mode by w mode) is = absurd (cc (is))
listing_silent (act.Opened by w) is = absurd (cc (is))
listing_silent (act.Entered user w) is = absurd (cc (is))
listing_silent a is = tt

pub any_window : (w : Window) (n : ℕ) (o : Option Window) → o ≡ Some w → (w.serial == n) ≡ true → IsOn o n
any_window w n o is here = subst (λ p. IsOn p n) (sym is) (equal w.serial n here)

pub and_other : (a b : Bool) → b ≡ false → (a && b) ≡ false
and_other true b is = is
and_other false b is = refl

pub and_this : (a b : Bool) → a ≡ false → (a && b) ≡ false
and_this true b is = absurd (cc (is))
and_this false b is = refl

pub not_true : (b : Bool) → not b ≡ true → b ≡ false
not_true true is = absurd (cc (is))
not_true false is = refl

-- the act is that another user left a window; or that someone left this window
abbrev pub Others : UserId → UserId → ℕ → Type 0
Others x u v = same_user u x ≡ false

abbrev pub Elsewhere : ℕ → UserId → ℕ → Type 0
Elsewhere window u v = (v == window) ≡ true

module _ (t : Tables) (w : ℕ) (x : UserId) where
  abbrev Calm : Bool → Act → Type 0
  Calm b a = IsCalm t.edition t.owner t.acts x w b a

  -- ---- nobody else gets it

  abbrev pub Mine : History → Type 0
  Mine h = (holder t.edition t.owner h w ≡ Some x) ⊎ (holder t.edition t.owner h w ≡ None)

  none_given : (h : History) (a : Act) (o : Option UserId) → Silent a → given t.edition t.owner a h w o ≡ None
  none_given h (act.Mode by v mode) o is = absurd is
  none_given h (act.Opened by v) o is = absurd is
  none_given h (act.Entered user v) o is = absurd is
  none_given h a o is = refl

  silent_one : (h : History) (a : Act) → Silent a → Mine h → Mine (a ∷ h)
  silent_one h a is (inr free) =
      inr (ap (λ o. or_else (given t.edition t.owner a h w o) (kept t.edition t.owner a h w o)) free
      ∙ ap (λ g. or_else g None) (none_given h a None is))
  silent_one h a is (inl theirs) = on (releases t.edition t.owner a h x w) refl where
    there : holder t.edition t.owner (a ∷ h) w ≡ kept t.edition t.owner a h w (Some x)
    there = ap (λ o. or_else (given t.edition t.owner a h w o) (kept t.edition t.owner a h w o)) theirs
        ∙ ap (λ g. or_else g (kept t.edition t.owner a h w (Some x))) (none_given h a (Some x) is)

    on : (b : Bool) → releases t.edition t.owner a h x w ≡ b → Mine (a ∷ h)
    on true releases = inr (there ∙ ap (λ c. if c then None else Some x) releases)
    on false releases = inl (there ∙ ap (λ c. if c then None else Some x) releases)

  pub silent_all : (h : History) (acts : List Act) → AllByRecursion Silent acts → Mine h → Mine (followed_by h acts)
  silent_all h [] all mine = mine
  silent_all h (a ∷ acts) all mine = silent_all (a ∷ h) acts all.1 (silent_one h a all.0 mine)

  pub calm_left : (b : Bool) (Q : UserId → ℕ → Type 0) (acts : List Act)
      → ((u : UserId) (v : ℕ) → Q u v → (same_user u x && v == w) ≡ false) → AllByRecursion (LeftBy Q) acts
      → AllByRecursion (Calm b) acts
  calm_left b Q acts on all = all_weaken (LeftBy Q) (Calm b) acts one all where
    one : (a : Act) → LeftBy Q a → Calm b a
    one (act.Left u v) q = on u v q
    one a q = absurd q

  pub others_left : (u : UserId) (v : ℕ) → Others x u v → (same_user u x && v == w) ≡ false
  others_left u v other = and_this (same_user u x) (v == w) other

  pub elsewhere_left : (window : ℕ) → (window == w) ≡ false → (u : UserId) (v : ℕ) → Elsewhere window u v
      → (same_user u x && v == w) ≡ false
  elsewhere_left window off u v here = and_other (same_user u x) (v == w) (ap (λ n. n == w) (equal v window here) ∙ off)

  pub listing_calm : (a : Act) → is_listing a ≡ true → frees a x w ≡ false → Calm false a
  listing_calm (act.Known u) is none = none
  listing_calm (act.Gone u) is none = none
  listing_calm (act.Set u bit o value) is none = none
  listing_calm (act.Grouped u leader) is none = none
  listing_calm (act.Masked by u bit value) is none = none
  listing_calm (act.Preset kind bit value) is none = none
  listing_calm a is none = absurd (cc (is))

module _ (t : Tables) (fit : AreFit t) (w : ℕ) (x : UserId) where
  none_of : (s : ℕ) → AllByRecursion (λ (c : Client). (c.serial == s) ≡ true → same_user c.user x ≡ false) t.clients
      → NoneOf x s (clients_of t.acts)
  none_of s all =
      subst (NoneOf x s) (sym fit.agree.clients_are)
      (all_reverse (λ (p : ℕ × UserId). (p.0 == s) ≡ true → same_user p.1 x ≡ false)
      (map (λ (c : Client). (c.serial, c.user)) t.clients)
      (all_map (λ (p : ℕ × UserId). (p.0 == s) ≡ true → same_user p.1 x ≡ false) (λ (c : Client). (c.serial, c.user))
      t.clients all))

  -- a client of another user
  pub others_part : (d : Client) → Alone t.clients d → same_user d.user x ≡ false
      → IsCalm t.edition t.owner t.acts x w false (act.Parted d.serial)
  others_part d own other = (
    refl,
    none_of d.serial
        (all_weaken (Own d.serial d.user) (λ (c : Client). (c.serial == d.serial) ≡ true → same_user c.user x ≡ false)
        t.clients (λ c theirs here. ap (λ u. same_user u x) (theirs here) ∙ other) own),
  )

-- ---- the check of a lock

-- a user who passes the check of the window's lock is its holder
module _ (t : Tables) (w : ℕ) (x u : UserId) (held : holder_in t w ≡ Some x) where
  pub lock_free : (o : Option Window) → IsOn o w → (n : Needs) → n.lock ≡ true → (write : Bool) → n.write ≡ write
      → first_fault t (window_checks u n (option_map (λ (y : Window). y.serial) o)) ≡ None
      → same_user x u ≡ true
  lock_free None on n locks write writes is = absurd on
  lock_free (Some y) on n locks write writes is = ap (stops_nobody_but u)
      (sym held ∙ ap (holder_in t) (sym on))
      ∙ free (n.lock) locks write
      (ap
      (λ b. first_fault t
      (right u Execute (object.Window y.serial) ∷
      (where_needed b (right u Write (object.Window y.serial) ∷ []) ++ where_needed n.lock
      (unlocked u y.serial ∷ [])))) (sym writes) ∙ is) where
        free : (l : Bool) → l ≡ true → (b : Bool)
            → first_fault t
            (right u Execute (object.Window y.serial) ∷
            (where_needed b (right u Write (object.Window y.serial) ∷ []) ++ where_needed l
            (unlocked u y.serial ∷ []))) ≡ None
            → stops_nobody_but u (holder_in t y.serial) ≡ true
        free false not b is = absurd (cc (not))
        free true l false is = first_passed (stops_nobody_but u (holder_in t y.serial)) _ _
            (then_passed (may_in t u Execute (object.Window y.serial)) _ _ is)
        free true l true is = first_passed (stops_nobody_but u (holder_in t y.serial)) _ _
            (then_passed (may_in t u Write (object.Window y.serial)) _ _
            (then_passed (may_in t u Execute (object.Window y.serial)) _ _ is))
