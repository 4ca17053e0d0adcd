-- Facts of the verdicts of checks, and of the first check that fails.
use Rattle.hub_trail.proofs.Vocabulary.{◌≡◌, ℕ, Bool, true, false, not, List, [], ◌∷◌, Option, Some, None, Err, refl}
use Rattle.hub_trail.proofs.Vocabulary.{subst, sym, if◌then◌else◌, AllByRecursion, list_all, option_map, and_from}
use Rattle.hub_trail.proofs.Vocabulary.{eq-eqb, both_ways, UserId, Bit, Read, Write, Execute, Object, same_user}
use Rattle.hub_trail.proofs.Vocabulary.{same_bit, same_user-refl, stops_nobody_but, Check, Needs, Refusal, NoWindow}
use Rattle.hub_trail.proofs.Vocabulary.{Verdict, Tables, Window, may_in, holder_in, Caller, needs, verdicts}
use Rattle.hub_trail.proofs.Vocabulary.{first_fault, checks, typing_checks, where_needed, window_checks, is_plain}
use Rattle.hub_trail.proofs.Vocabulary.{all_append, Kept, IsTrue, failed, user_of, CarriesFailed, IsDenied}
use Rattle.acl.specs.declared.act.Object.TheVariants as object
use Rattle.acl.specs.Same.{index_of_command}
use Rattle.command_lang.specs.declared.command.Command.{Command}
use Rattle.session.specs.refusal.Check.TheVariants.{Right as right, Unlocked as unlocked, Must as must}
use Rattle.session.specs.refusal.Refusal.TheVariants.{EntryDenied, LockDenied}
use Rattle.session.specs.refusal.Verdict.TheVariants as verdict
use Rattle.session.specs.Denials.{entry_denial, lock_denial, denied_on}
use Rattle.hub_trail.specs.declared.kept.Kept.TheVariants as kept
use Rattle.hub_trail.specs.Trails.{Ending}
use Rattle.hub_trail.specs.Legal.{passes, is_denial, is_named, is_of}

-- each verdict of checks is true
abbrev pub AreTrue : Tables → List Verdict → Type 0
AreTrue t vs = AllByRecursion (IsTrue t.edition t.owner t.acts) vs

all_if : {A : Type 0} (P : A → Type 0) (b : Bool) (xs : List A) → AllByRecursion P xs
    → AllByRecursion P (if b then xs else [])
all_if P true xs all = all
all_if P false xs all = tt

pub true_verdicts : (t : Tables) (cs : List Check) → AreTrue t (verdicts t cs)
true_verdicts t [] = tt
true_verdicts t (right u b o ∷ cs) =
    (refl, all_if (IsTrue t.edition t.owner t.acts) (may_in t u b o) (verdicts t cs) (true_verdicts t cs))
true_verdicts t (unlocked u w ∷ cs) = (
  refl,
  all_if (IsTrue t.edition t.owner t.acts) (stops_nobody_but u (holder_in t w)) (verdicts t cs)
      (true_verdicts t cs),
)
true_verdicts t (must b r ∷ cs) = all_if (IsTrue t.edition t.owner t.acts) b (verdicts t cs) (true_verdicts t cs)

-- ---- on which user they are

abbrev pub IsCheckOf : UserId → Check → Type 0
IsCheckOf user (right u b o) = u ≡ user
IsCheckOf user (unlocked u w) = u ≡ user
IsCheckOf user (must b r) = Unit {0}

abbrev pub AreOf : UserId → List Verdict → Type 0
AreOf user vs = AllByRecursion (λ v. user_of v ≡ user) vs

pub own_verdicts : (t : Tables) (user : UserId) (cs : List Check) → AllByRecursion (IsCheckOf user) cs
    → AreOf user (verdicts t cs)
own_verdicts t user [] all = tt
own_verdicts t user (right u b o ∷ cs) all =
    (all.0, all_if (λ v. user_of v ≡ user) (may_in t u b o) (verdicts t cs) (own_verdicts t user cs all.1))
own_verdicts t user (unlocked u w ∷ cs) all = (
  all.0,
  all_if (λ v. user_of v ≡ user) (stops_nobody_but u (holder_in t w)) (verdicts t cs)
      (own_verdicts t user cs all.1),
)
own_verdicts t user (must b r ∷ cs) all = all_if (λ v. user_of v ≡ user) b (verdicts t cs)
    (own_verdicts t user cs all.1)

-- ---- if there is no fault, all checks pass

pass_step : (v : Verdict) (b : Bool) (f : Option Refusal) (r : Refusal) (vs : List Verdict) → passes v ≡ b
    → (f ≡ None → list_all passes vs ≡ true)
    → (if b then f else Some r) ≡ None → list_all passes (v ∷ (if b then vs else [])) ≡ true
pass_step v true f r vs e on none = and_from (passes v) (list_all passes vs) e (on none)
pass_step v false f r vs e on none = absurd (cc (none))

must_step : (b : Bool) (f : Option Refusal) (r : Refusal) (vs : List Verdict) → (f ≡ None → list_all passes vs ≡ true)
    → (if b then f else Some r) ≡ None → list_all passes (if b then vs else []) ≡ true
must_step true f r vs on none = on none
must_step false f r vs on none = refl

pub all_pass : (t : Tables) (cs : List Check) → first_fault t cs ≡ None → list_all passes (verdicts t cs) ≡ true
all_pass t [] none = refl
all_pass t (right u b o ∷ cs) none =
    pass_step (verdict.Right u b o (may_in t u b o)) (may_in t u b o) (first_fault t cs) (entry_denial t u b o)
    (verdicts t cs) refl (all_pass t cs) none
all_pass t (unlocked u w ∷ cs) none =
    pass_step (verdict.Lock u w (holder_in t w)) (stops_nobody_but u (holder_in t w)) (first_fault t cs)
    (lock_denial t w (holder_in t w)) (verdicts t cs) refl (all_pass t cs) none
all_pass t (must b r ∷ cs) none = must_step b (first_fault t cs) r (verdicts t cs) (all_pass t cs) none

-- ---- what the first fault says of the first verdict that fails

abbrev pub Tells : Option Refusal → Option Verdict → Type 0
Tells None None = Unit {0}
Tells None (Some v) = ⊥
Tells (Some r) None = is_denial r ≡ false
Tells (Some r) (Some v) = (is_denial r ≡ true) × (is_of r v ≡ true)

-- a fact that doesn't hold is refused without a denial
abbrev pub IsPlain : Check → Type 0
IsPlain (must b r) = is_denial r ≡ false
IsPlain c = Unit {0}

same_bit-refl : (b : Bit) → same_bit b b ≡ true
same_bit-refl Read = refl
same_bit-refl Write = refl
same_bit-refl Execute = refl

named-denied : (t : Tables) (o : Object) → is_named (denied_on t o) o ≡ true
named-denied t (object.Window w) = eq-eqb w w refl
named-denied t (object.Command c) = eq-eqb (index_of_command c) (index_of_command c) refl

right_tells : (t : Tables) (u : UserId) (b : Bit) (o : Object) (m : Bool) (f : Option Refusal) (vs : List Verdict)
    → Tells f (failed vs)
    → Tells (if m then f else Some (entry_denial t u b o)) (failed (verdict.Right u b o m ∷ (if m then vs else [])))
right_tells t u b o true f vs on = on
right_tells t u b o false f vs on =
    (refl, and_from _ _ (same_user-refl u) (and_from _ _ (same_bit-refl b) (named-denied t o)))

lock_step : (t : Tables) (u : UserId) (w : ℕ) (v : UserId) (m : Bool) (f : Option Refusal) (vs : List Verdict)
    → same_user v u ≡ m → Tells f (failed vs)
    → Tells (if m then f else Some (lock_denial t w (Some v)))
    (failed (verdict.Lock u w (Some v) ∷ (if m then vs else [])))
lock_step t u w v true f vs e on = subst
    (λ (b : Bool). Tells f (if not b then Some (verdict.Lock u w (Some v)) else failed vs)) (sym e) on
lock_step t u w v false f vs e on =
    subst
    (λ (b : Bool). Tells (Some (lock_denial t w (Some v)))
    (if not b then Some (verdict.Lock u w (Some v)) else failed [])) (sym e)
    (refl, and_from _ _ (eq-eqb w w refl) (same_user-refl v))

lock_tells : (t : Tables) (u : UserId) (w : ℕ) (held : Option UserId) (f : Option Refusal) (vs : List Verdict)
    → Tells f (failed vs)
    → Tells (if stops_nobody_but u held then f else Some (lock_denial t w held))
    (failed (verdict.Lock u w held ∷ (if stops_nobody_but u held then vs else [])))
lock_tells t u w None f vs on = on
lock_tells t u w (Some v) f vs on = lock_step t u w v (same_user v u) f vs refl on

must_tells : (b : Bool) (r : Refusal) (f : Option Refusal) (vs : List Verdict) → is_denial r ≡ false
    → Tells f (failed vs)
    → Tells (if b then f else Some r) (failed (if b then vs else []))
must_tells true r f vs plain on = on
must_tells false r f vs plain on = plain

pub tells : (t : Tables) (cs : List Check) → AllByRecursion IsPlain cs
    → Tells (first_fault t cs) (failed (verdicts t cs))
tells t [] plain = tt
tells t (right u b o ∷ cs) plain = right_tells t u b o (may_in t u b o) (first_fault t cs) (verdicts t cs)
    (tells t cs plain.1)
tells t (unlocked u w ∷ cs) plain = lock_tells t u w (holder_in t w) (first_fault t cs) (verdicts t cs)
    (tells t cs plain.1)
tells t (must b r ∷ cs) plain = must_tells b r (first_fault t cs) (verdicts t cs) plain.0 (tells t cs plain.1)

-- ---- replies

-- a refusal that is a command's own is no denial
pub plain_refusal : (r : Refusal) → is_plain r ≡ true → is_denial r ≡ false
plain_refusal (EntryDenied d) is = absurd (cc (is))
plain_refusal (LockDenied d) is = absurd (cc (is))
plain_refusal r is = refl

pub plain_tells : (r : Refusal) (v : Option Verdict) → is_denial r ≡ false → Tells None v → Tells (Some r) v
plain_tells r None plain told = plain
plain_tells r (Some v) plain told = absurd told

pub denial_carries : (r : Refusal) (v : Option Verdict) → Tells (Some r) v → CarriesFailed v (Err r)
denial_carries r None plain = λ denial. absurd (both_ways (is_denial r) plain denial)
denial_carries r (Some v) told = λ denial. told.1

pub refusal_denies : (k : Kept) (r : Refusal) (v : Option Verdict) → Tells (Some r) v → IsDenied k v (Err r)
refusal_denies (kept.Command user window line) r None told = tt
refusal_denies (kept.Command user window line) r (Some v) told = told.0
refusal_denies (kept.Open user rows columns keep title) r None told = tt
refusal_denies (kept.Open user rows columns keep title) r (Some v) told = told.0
refusal_denies (kept.Attach user rows columns) r v told = tt
refusal_denies (kept.Detach client) r v told = tt
refusal_denies (kept.Keys client) r v told = tt
refusal_denies (kept.Closed window) r v told = tt

pub none_denied : (k : Kept) (v : Option Verdict) (reply : Ending) → Tells None v → IsDenied k v reply
none_denied (kept.Command user window line) None reply told = tt
none_denied (kept.Command user window line) (Some v) reply told = absurd told
none_denied (kept.Open user rows columns keep title) None reply told = tt
none_denied (kept.Open user rows columns keep title) (Some v) reply told = absurd told
none_denied (kept.Attach user rows columns) v reply told = tt
none_denied (kept.Detach client) v reply told = tt
none_denied (kept.Keys client) v reply told = tt
none_denied (kept.Closed window) v reply told = tt

-- ---- the checks of commands

all_where : (P : Check → Type 0) (b : Bool) (cs : List Check) → AllByRecursion P cs
    → AllByRecursion P (where_needed b cs)
all_where P true cs all = all
all_where P false cs all = tt

-- a fact of each check of a command
module _ (P : Check → Type 0) (user : UserId) (rights : (b : Bit) (o : Object) → P (right user b o))
    (locks : (w : ℕ) → P (unlocked user w)) where
  on_window : (n : Needs) (o : Option ℕ) → P (must false NoWindow) → AllByRecursion P (window_checks user n o)
  on_window n None none = (none, tt)
  on_window n (Some w) none = (
    rights Execute (object.Window w),
    all_append P (where_needed n.write (right user Write (object.Window w) ∷ []))
        (where_needed n.lock (unlocked user w ∷ []))
        (all_where P n.write (right user Write (object.Window w) ∷ []) (rights Write (object.Window w), tt))
        (all_where P n.lock (unlocked user w ∷ []) (locks w, tt)),
  )

pub plain_checks : (t : Tables) (k : Caller) (c : Command) → AllByRecursion IsPlain (checks t k c)
plain_checks t k c =
    let n : Needs = needs c in
    let last : List Check = where_needed n.window
    (window_checks k.user n (option_map (λ (w : Window). w.serial) k.window)) in (
      tt,
      all_append IsPlain (where_needed n.multiuser _) _ (all_where IsPlain n.multiuser _ (refl, tt))
          (all_append IsPlain (where_needed n.client _) last (all_where IsPlain n.client _ (refl, tt))
          (all_where IsPlain n.window _
          (on_window IsPlain k.user (λ b o. tt) (λ w. tt) n (option_map (λ (w : Window). w.serial) k.window)
          refl))),
    )

pub own_checks : (t : Tables) (k : Caller) (c : Command) → AllByRecursion (IsCheckOf k.user) (checks t k c)
own_checks t k c =
    let P : Check → Type 0 = IsCheckOf k.user in
    let n : Needs = needs c in
    let last : List Check = where_needed n.window
    (window_checks k.user n (option_map (λ (w : Window). w.serial) k.window)) in (
      refl,
      all_append P (where_needed n.multiuser _) _ (all_where P n.multiuser _ (tt, tt))
          (all_append P (where_needed n.client _) last (all_where P n.client _ (tt, tt))
          (all_where P n.window _
          (on_window P k.user (λ b o. refl) (λ w. refl) n (option_map (λ (w : Window). w.serial) k.window) tt))),
    )

pub own_typing : (user : UserId) (o : Option Window) → AllByRecursion (IsCheckOf user) (typing_checks user o)
own_typing user None = (tt, tt)
own_typing user (Some w) = (refl, (refl, tt))
