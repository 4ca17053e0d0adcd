-- A user who holds a lock took it in a step of their own, and may write.
use Rattle.session_laws.proofs.Vocabulary.{◌≡◌, ℕ, Bool, true, false, List, [], ◌∷◌, ◌++◌, Option, Some, None, refl, ap}
use Rattle.session_laws.proofs.Vocabulary.{sym, ◌∙◌, subst, inl, inr, ⊎_elim, if◌then◌else◌, ◌⊎◌, AllByRecursion}
use Rattle.session_laws.proofs.Vocabulary.{option_map, option_map_or, Edition, UserId, Write, Execute, Act, LockMode}
use Rattle.session_laws.proofs.Vocabulary.{Off, History, followed_by, may, holder, is_off, Order, name_of, Check}
use Rattle.session_laws.proofs.Vocabulary.{first_fault, checks_by, window_checks, left_acts, Given, commands_of}
use Rattle.session_laws.proofs.Vocabulary.{with_order, order_in, ok_of, step_items, command_item, Caller, caller_of}
use Rattle.session_laws.proofs.Vocabulary.{line_caller, read_line, needs, IsOn, may_in, holder_in, IsStep, IsRunFrom}
use Rattle.session_laws.proofs.Vocabulary.{after, tables_from, Tables, Window, Client, client_at, is_known, EventValue}
use Rattle.session_laws.proofs.Vocabulary.{Attach, Detach, Keys, Command, Open, Closed, Entry, some_gives, some_elim}
use Rattle.session_laws.proofs.Vocabulary.{contradicts, all_weaken, all_append, changes_rights, user_of}
use Rattle.session_laws.proofs.Vocabulary.{HoldersMayWrite, TakesIt}
use Rattle.acl.specs.declared.act.Act.TheVariants as act
use Rattle.acl.specs.declared.act.Object.TheVariants as object
use Rattle.command_lang.specs.declared.command.Command.TheVariants as command
use Rattle.command_lang.specs.Needs as need
use Rattle.session_laws.proofs.CommandActs.{IsActOf, IsRow}
use Rattle.session_laws.proofs.Steps.{Did, with_clients}
use Rattle.session_laws.proofs.Events.{IsActIn, all_left}
use Rattle.session_laws.proofs.Gating.{Below, Steps, steps_of, row_did, first_passed, then_passed}
use Rattle.session_laws.proofs.Giving as giving
use Rattle.session_laws.proofs.Giving.{gives_lock}

-- ---- the user whose command a step gives

given_by : (user : UserId) (k : Caller) (o : Option Order) → Some user ≡ Some k.user
    → AllByRecursion (λ (g : Given). Some user ≡ Some g.caller.user) (with_order k o)
given_by user k None is = tt
given_by user k (Some c) is = (is, tt)

pub givers : (t : Tables) (event : EventValue)
    → AllByRecursion (λ (g : Given). user_of t event ≡ Some g.caller.user) (commands_of t event)
givers t (Command user number bytes) = on (is_known t user) where
  on : (b : Bool)
      → AllByRecursion (λ (g : Given). Some user ≡ Some g.caller.user)
      (if b then with_order (line_caller t user number) (ok_of (read_line bytes)) else [])
  on true = given_by user (line_caller t user number) (ok_of (read_line bytes)) refl
  on false = tt
givers t (Keys client bytes) = on (client_at t client) where
  on : (o : Option Client)
      → AllByRecursion (λ (g : Given). option_map (λ (c : Client). c.user) o ≡ Some g.caller.user)
      (option_map_or (λ c. with_order (caller_of t c) (order_in (command_item (step_items c bytes)))) o [])
  on None = tt
  on (Some c) = given_by c.user (caller_of t c) (order_in (command_item (step_items c bytes))) refl
givers t event = tt

-- ---- a lock that is set needs w

pub write_on : (t : Tables) (user : UserId) (o : Option Window) (w : ℕ) → IsOn o w
    → first_fault t (window_checks user need.typing (option_map (λ (v : Window). v.serial) o)) ≡ None
    → may_in t user Write (object.Window w) ≡ true
write_on t user None w on is = absurd on
write_on t user (Some v) w on is =
    let rest : first_fault t
    (Rattle.session_model.specs.declared.refusal.Check.TheVariants.Right user Write (object.Window v.serial) ∷
    Rattle.session_model.specs.declared.refusal.Check.TheVariants.Unlocked user v.serial ∷ []) ≡ None =
    then_passed (may_in t user Execute (object.Window v.serial)) _ _ is in
    subst (λ n. may_in t user Write (object.Window n) ≡ true) on
    (first_passed (may_in t user Write (object.Window v.serial)) _ _ rest)

lock_written : (t : Tables) (k : Caller) (mode : LockMode) (w : ℕ) → is_off mode ≡ false → IsOn k.window w
    → first_fault t (checks_by t k (needs (command.Writelock mode))) ≡ None
    → may_in t k.user Write (object.Window w) ≡ true
lock_written t k Off w not on is = absurd (cc (not))
lock_written t k mode w not on is = write_on t k.user k.window w on is

-- ---- the acts of a step give locks to its user

module _ (t : Tables) (P : UserId → Type 0) where
  abbrev Own : UserId → Act → Type 0
  Own user a = giving.IsOwn t.edition t.owner P t.acts user a

  abbrev pub All : List Act → Type 0
  All acts = giving.GivesAll t.edition t.owner P t.acts t.acts acts

  row_own : (k : Caller) (c : Order) → changes_rights (name_of c) ≡ false
      → first_fault t (checks_by t k (needs c)) ≡ None → (a : Act) → IsActOf k c a → Own k.user a
  row_own k c not passed (act.Known user) is = contradicts (changes_rights (name_of c)) is not
  row_own k c not passed (act.Gone user) is = contradicts (changes_rights (name_of c)) is not
  row_own k c not passed (act.Set user bit object value) is = contradicts (changes_rights (name_of c)) is not
  row_own k c not passed (act.Grouped user leader) is = contradicts (changes_rights (name_of c)) is not
  row_own k c not passed (act.Masked by user bit value) is = contradicts (changes_rights (name_of c)) is not
  row_own k c not passed (act.Preset kind bit value) is = contradicts (changes_rights (name_of c)) is not
  row_own k c not passed (act.Opened by w) is = absurd is
  row_own k (command.Writelock mode) not passed (act.Mode by w m) is = (
    is.0,
    λ on. subst (λ u. may_in t u Write (object.Window w) ≡ true) (sym is.0)
        (lock_written t k mode w (ap is_off (sym is.2) ∙ on) is.1 passed),
  )
  row_own k c not passed (act.Mode by w m) is = absurd is
  row_own k c not passed (act.Entered user w) is = is.0
  row_own k c not passed a is = tt

  row_silent : (k : Caller) (c : Order) → changes_rights (name_of c) ≡ true → (a : Act) → IsActOf k c a
      → gives_lock t.edition t.owner P t.acts a ≡ false
  row_silent k (command.Writelock mode) changes (act.Mode by w m) is = absurd (cc (changes))
  row_silent k c changes (act.Mode by w m) is = absurd is
  row_silent k c changes (act.Entered user w) is = contradicts (changes_rights (name_of c)) changes is.1
  row_silent k c changes (act.Opened by w) is = absurd is
  row_silent k c changes a is = refl

  abbrev Silent : Act → Type 0
  Silent a = gives_lock t.edition t.owner P t.acts a ≡ false

  did_gives : (e : Entry) (g : Given) → P g.caller.user → Did t e g → All e.acts
  did_gives e g p d = subst All (sym d.acts) (on (changes_rights (name_of g.order)) refl) where
    r : IsRow (with_clients t d.clients) g.caller g.order d.deed
    r = row_did t e g d

    left : List Act
    left = left_acts t.clients d.deed.tables.clients

    passed : first_fault t (checks_by t g.caller (needs g.order)) ≡ None
    passed = then_passed (may_in t g.caller.user Execute (object.Command (name_of g.order))) _ _ d.passes

    on : (b : Bool) → changes_rights (name_of g.order) ≡ b → All (d.deed.acts ++ left)
    on true is =
        giving.silent t.edition t.owner P t.acts t.acts (d.deed.acts ++ left)
        (all_append Silent d.deed.acts left
        (all_weaken (IsActOf g.caller g.order) Silent d.deed.acts (row_silent g.caller g.order is) r.acts)
        (all_left Silent t.clients d.deed.tables.clients (λ user w. refl)))
    on false is =
        giving.own t.edition t.owner P t.acts g.caller.user p t.acts (d.deed.acts ++ left) (λ u w. refl)
        (all_append (Own g.caller.user) d.deed.acts left
        (all_weaken (IsActOf g.caller g.order) (Own g.caller.user) d.deed.acts (row_own g.caller g.order is passed)
        r.acts)
        (all_left (Own g.caller.user) t.clients d.deed.tables.clients (λ user w. tt)))

  attach_own : (user : UserId) (rows columns : ℕ) (a : Act) → IsActIn t (Attach user rows columns) a → Own user a
  attach_own user rows columns (act.Attached client v) is = tt
  attach_own user rows columns (act.Entered v w) is = is
  attach_own user rows columns (act.Left v w) is = tt
  attach_own user rows columns a is = absurd is

  detach_silent : (client : ℕ) (a : Act) → IsActIn t (Detach client) a → Silent a
  detach_silent client (act.Parted d) is = refl
  detach_silent client (act.Left v w) is = refl
  detach_silent client a is = absurd is

  closed_silent : (window : ℕ) (a : Act) → IsActIn t (Closed window) a → Silent a
  closed_silent window (act.Closed w) is = refl
  closed_silent window (act.Left v w) is = refl
  closed_silent window a is = absurd is

  other_silent : (event : EventValue) → ((a : Act) → IsActIn t event a → Silent a) → (acts : List Act)
      → AllByRecursion (IsActIn t event) acts → All acts
  other_silent event on acts all = giving.silent t.edition t.owner P t.acts t.acts acts
      (all_weaken (IsActIn t event) Silent acts on all)

  abbrev pub Each : History → List Act → Type 0
  Each h acts = giving.GivesAll t.edition t.owner P t.acts h acts

  open_gives : (user : UserId) (rows columns keep : ℕ) (title : List ℕ) → P user → (h : History) (acts : List Act)
      → AllByRecursion (IsActIn t (Open user rows columns keep title)) acts → Each h acts
  open_gives user rows columns keep title p h [] all = tt
  open_gives user rows columns keep title p h (a ∷ acts) all =
      (one a all.0, open_gives user rows columns keep title p (a ∷ h) acts all.1) where
        one : (a : Act) → IsActIn t (Open user rows columns keep title) a → giving.Gives t.edition t.owner P t.acts h a
        one (act.Opened by w) is = giving.opening t.edition t.owner P t.acts by (subst P (sym is.0) p) h w
        one (act.Left v w) is = giving.silent_one t.edition t.owner P t.acts h (act.Left v w) refl
        one a is = absurd is

  -- events with other acts than those of users who leave windows
  abbrev brings_acts : EventValue → Bool
  brings_acts (Attach user rows columns) = true
  brings_acts (Detach client) = true
  brings_acts (Open user rows columns keep title) = true
  brings_acts (Closed window) = true
  brings_acts event = false

  left_silent : (event : EventValue) (a : Act) → brings_acts event ≡ false → IsActIn t event a → Silent a
  left_silent event (act.Left v w) none is = refl
  left_silent (Attach user rows columns) a none is = absurd (cc (none))
  left_silent (Detach client) a none is = absurd (cc (none))
  left_silent (Open user rows columns keep title) a none is = absurd (cc (none))
  left_silent (Closed window) a none is = absurd (cc (none))
  left_silent event a none is = absurd is

  plain_gives : (event : EventValue) → ((user : UserId) → user_of t event ≡ Some user → P user) → (acts : List Act)
      → AllByRecursion (IsActIn t event) acts → All acts
  plain_gives (Attach user rows columns) p acts all =
      giving.own t.edition t.owner P t.acts user (p user refl) t.acts acts (λ u w. refl)
      (all_weaken (IsActIn t (Attach user rows columns)) (Own user) acts (attach_own user rows columns) all)
  plain_gives (Open user rows columns keep title) p acts all = open_gives user rows columns keep title (p user refl)
      t.acts acts all
  plain_gives (Detach client) p acts all = other_silent (Detach client) (detach_silent client) acts all
  plain_gives (Closed window) p acts all = other_silent (Closed window) (closed_silent window) acts all
  plain_gives event p acts all = other_silent event (λ a is. left_silent event a refl is) acts all

-- the user of a step
abbrev Steps_of : Tables → Entry → UserId → Type 0
Steps_of t e user = user_of t e.event ≡ Some user

pub gives : Below → (t : Tables) (e : Entry) → IsStep t e → All t (Steps_of t e) e.acts
gives laws t e step = on (steps_of laws t e step) where
  on : Steps t e → All t (Steps_of t e) e.acts
  on (inl p) = plain_gives t (Steps_of t e) e.event (λ user is. is) e.acts p.acts_in
  on (inr (inl rests)) = subst (All t (Steps_of t e)) (sym rests.acts) tt
  on (inr (inr some)) = some_elim (Did t e) (λ g. user_of t e.event ≡ Some g.caller.user) (All t (Steps_of t e) e.acts)
      (commands_of t e.event) (λ g did is. did_gives t (Steps_of t e) e g is did) some (givers t e.event)

-- ---- the tables after a step

pub record KeepsOwner (t : Tables) (e : Entry) : Type 0 where
  pub owner : (after t e).owner ≡ t.owner
  pub edition : (after t e).edition ≡ t.edition
  pub acts : (after t e).acts ≡ followed_by t.acts e.acts

did_kept : (t : Tables) (e : Entry) (g : Given) → Did t e g → KeepsOwner t e
did_kept t e g d = let r : IsRow (with_clients t d.clients) g.caller g.order d.deed = row_did t e g d in record
    { owner = d.tables.owner ∙ r.owner; edition = d.tables.edition ∙ r.edition; acts = d.tables.acts }

pub kept : Below → (t : Tables) (e : Entry) → IsStep t e → KeepsOwner t e
kept laws t e step = on (steps_of laws t e step) where
  on : Steps t e → KeepsOwner t e
  on (inl p) = record { owner = p.owner; edition = p.edition; acts = p.acts_are }
  on (inr (inl rests)) = record {
    owner = rests.tables.owner;
    edition = rests.tables.edition;
    acts = rests.tables.acts
        ∙ sym (ap (followed_by t.acts) rests.acts);
  }
  on (inr (inr some)) = some_gives (Did t e) (KeepsOwner t e) (commands_of t e.event) (did_kept t e) some

-- a fact of the owner, the edition and the acts alone
pub by_acts : (P : Edition → UserId → History → Type 0) (t : Tables) (e : Entry) → KeepsOwner t e
    → P t.edition t.owner (followed_by t.acts e.acts) → P (after t e).edition (after t e).owner (after t e).acts
by_acts P t e k p =
    subst (λ x. P x (after t e).owner (after t e).acts) (sym k.edition)
    (subst (λ x. P t.edition x (after t e).acts) (sym k.owner) (subst (P t.edition t.owner) (sym k.acts) p))

pub stay_able : Below → (t : Tables) (e : Entry) → IsStep t e → HoldersMayWrite t → HoldersMayWrite (after t e)
stay_able laws t e step before =
    by_acts
    (λ edition owner h. (w : ℕ) (u : UserId) → holder edition owner h w ≡ Some u
    → may edition owner h u Write (object.Window w) ≡ true) t e (kept laws t e step)
    (giving.able t.edition t.owner (Steps_of t e) t.acts t.acts e.acts (gives laws t e step) before)

pub run_able : Below → (start : Tables) (entries : List Entry) → HoldersMayWrite start → IsRunFrom start entries
    → HoldersMayWrite (tables_from start entries)
run_able laws start [] before run = before
run_able laws start (e ∷ past) before run = stay_able laws (tables_from start past) e run.1
    (run_able laws start past before run.0)

pub are_taken : Below → (t : Tables) (e : Entry) → IsStep t e → (w : ℕ) (u : UserId) → holder_in (after t e) w ≡ Some u
    → (holder_in t w ≡ Some u) ⊎ TakesIt t e w u
are_taken laws t e step w u is =
    let k : KeepsOwner t e = kept laws t e step in
    let there : holder t.edition t.owner (followed_by t.acts e.acts) w ≡ Some u =
    ap (λ x. holder t.edition t.owner x w) (sym k.acts) ∙ ap (λ x. holder t.edition x (after t e).acts w) (sym k.owner)
    ∙ ap (λ x. holder x (after t e).owner (after t e).acts w) (sym k.edition) ∙ is in
    ⊎_elim (λ (held : holder t.edition t.owner t.acts w ≡ Some u). inl held)
    (λ (taken : giving.Taken t.edition t.owner (Steps_of t e) t.acts e.acts w u). inr
    (record { own = taken.0; may = taken.1 }))
    (giving.taken t.edition t.owner (Steps_of t e) t.acts t.acts e.acts (gives laws t e step) w u there)
