-- A command that watches leaves others' clients and all windows as they are, by its kind of deed.
use Rattle.session_laws.proofs.Vocabulary.{◌≡◌, ℕ, Bool, true, false, not, List, [], ◌∷◌, Option, Some, None, Ok, Err}
use Rattle.session_laws.proofs.Vocabulary.{refl, ap, sym, ◌∙◌, filter, if◌then◌else◌, ◌==◌, AllByRecursion}
use Rattle.session_laws.proofs.Vocabulary.{option_and_then, UserId, Act, same_user, Order, name_of, Arrangement, Effect}
use Rattle.session_laws.proofs.Vocabulary.{Deliver, Say, Gone, StatusMessage, Tables, Client, row_of, with_row}
use Rattle.session_laws.proofs.Vocabulary.{client_at, with_client, with_layout, focused, Caller, Deed, Answer, parts}
use Rattle.session_laws.proofs.Vocabulary.{arranges, enters, entering, hearing, does, caller_client, told}
use Rattle.session_laws.proofs.Vocabulary.{order_writing, row_serial, equal, all_map, all_passed, all_of, is_watching}
use Rattle.session_laws.proofs.Vocabulary.{others_clients}
use Rattle.acl.specs.declared.act.Act.TheVariants as act
use Rattle.command_lang.specs.declared.command.Command.TheVariants as command
use Rattle.session_model.specs.declared.event.Peer.TheVariants as peer
use Rattle.session_model.specs.declared.event.Reason.TheVariants as reason
use Rattle.session_model.specs.Deeds as deeds
use Rattle.session_laws.proofs.Doing.{Either}
use Rattle.session_laws.proofs.Shapes as shapes

-- acts that say where somebody is
abbrev pub is_presence : Act → Bool
is_presence (act.Attached client user) = true
is_presence (act.Parted client) = true
is_presence (act.Entered user window) = true
is_presence (act.Left user window) = true
is_presence _ = false

abbrev pub Presence : List Act → Type 0
Presence acts = AllByRecursion (λ a. is_presence a ≡ true) acts

-- whether it is this client, if there is one
abbrev pub is_it : Option ℕ → ℕ → Bool
is_it None n = false
is_it (Some s) n = n == s

abbrev pub is_to : Option ℕ → Effect → Bool
is_to o (Say n bytes) = is_it o n
is_to o (Deliver n bytes) = is_it o n
is_to o (Gone (peer.Client n) why) = is_it o n
is_to o _ = false

abbrev pub AllTo : Option ℕ → List Effect → Type 0
AllTo o effects = AllByRecursion (λ f. is_to o f ≡ true) effects

-- a fact of the deed, if there is one
abbrev pub IfDone : (Deed → Type 0) → Answer → Type 0
IfDone P (Ok d) = P d
IfDone P (Err r) = Unit {0}

if_done : (P : Deed → Type 0) (a : Answer) → Either P a → IfDone P a
if_done P (Ok d) is = is
if_done P (Err r) is = tt

-- a command that watches is no other one
no_other : (c x : Order) → c ≡ x → is_watching (name_of x) ≡ false → is_watching (name_of c) ≡ true → ⊥
no_other c x same other is = absurd (cc (ap (λ o. is_watching (name_of o)) same, other, is))

writes_nothing : (c : Order) → is_watching (name_of c) ≡ true → order_writing c ≡ []
writes_nothing command.Clear is = absurd (cc (is))
writes_nothing command.Reset is = absurd (cc (is))
writes_nothing (command.Encoding coding) is = absurd (cc (is))
writes_nothing c is = refl

acts_nothing : (t : Tables) (k : Caller) (c : Order) (all : List Act) → is_watching (name_of c) ≡ true
    → shapes.Acted t k c all → ⊥
acts_nothing t k c all is (shapes.added names objects same clear every) = no_other c _ same refl is
acts_nothing t k c all is (shapes.changed names bits list objects same clear every) = no_other c _ same refl is
acts_nothing t k c all is (shapes.grouped word leader same clear) = no_other c _ same refl is
acts_nothing t k c all is (shapes.masked masks same clear) = no_other c _ same refl is
acts_nothing t k c all is (shapes.locked w mode same at) = no_other c _ same refl is
acts_nothing t k c all is (shapes.preset mode same) = no_other c _ same refl is

module _ (user : UserId) (own : Option ℕ) where
  abbrev theirs : Client → Bool
  theirs c = same_user c.user user

  -- clients with this serial are the user's
  abbrev pub AllHis : List Client → Type 0
  AllHis cs = AllByRecursion (λ (c : Client). is_it own c.serial ≡ true → theirs c ≡ true) cs

  -- ---- rows

  put_others : (cs : List Client) (y : Client) → AllHis cs → is_it own y.serial ≡ true → theirs y ≡ true
      → others_clients user (with_row (λ (c : Client). c.serial) cs y.serial y) ≡ others_clients user cs
  put_others [] y all is mine = refl
  put_others (x ∷ cs) y all is mine = on (x.serial == y.serial) refl (put_others cs y all.1 is mine) where
    here : x.serial ≡ y.serial → theirs x ≡ true
    here same = all.0 (ap (is_it own) same ∙ is)

    on : (b : Bool) → (x.serial == y.serial) ≡ b
        → others_clients user (with_row (λ (c : Client). c.serial) cs y.serial y) ≡ others_clients user cs
        → others_clients user (if b then y ∷ cs else x ∷ with_row (λ (c : Client). c.serial) cs y.serial y) ≡
        others_clients user (x ∷ cs)
    on true at same =
        ap (λ b. if not b then y ∷ others_clients user cs else others_clients user cs) mine
        ∙ sym
        (ap (λ b. if not b then x ∷ others_clients user cs else others_clients user cs)
        (here (equal x.serial y.serial at)))
    on false at same = ap (λ ds. if not (theirs x) then x ∷ ds else ds) same

  put_all : (cs : List Client) (y : Client) (n : ℕ) → AllHis cs → theirs y ≡ true
      → AllHis (with_row (λ (c : Client). c.serial) cs n y)
  put_all [] y n all mine = tt
  put_all (x ∷ cs) y n all mine = on (x.serial == n) (put_all cs y n all.1 mine) where
    on : (b : Bool) → AllHis (with_row (λ (c : Client). c.serial) cs n y)
        → AllHis (if b then y ∷ cs else x ∷ with_row (λ (c : Client). c.serial) cs n y)
    on true more = (λ is. mine, all.1)
    on false more = (all.0, more)

  row_theirs : (cs : List Client) (n : ℕ) (c : Client) → AllHis cs → is_it own n ≡ true
      → row_of (λ (c : Client). c.serial) cs n ≡ Some c → theirs c ≡ true
  row_theirs [] n c all is at = absurd (cc (at))
  row_theirs (x ∷ cs) n c all is at = on (x.serial == n) refl at (row_theirs cs n c all.1 is) where
    on : (b : Bool) → (x.serial == n) ≡ b → (if b then Some x else row_of (λ (c : Client). c.serial) cs n) ≡ Some c
        → (row_of (λ (c : Client). c.serial) cs n ≡ Some c → theirs c ≡ true) → theirs c ≡ true
    on true here at more = let e : x ≡ c = cc (at) in ap theirs (sym e)
        ∙ all.0 (ap (is_it own) (equal x.serial n here) ∙ is)
    on false here at more = more at

  parted_others : (p : Client → Bool) (cs : List Client) → ((c : Client) → p c ≡ true → is_it own c.serial ≡ true)
      → AllHis cs → others_clients user (filter (λ c. not (p c)) cs) ≡ others_clients user cs
  parted_others p [] goes all = refl
  parted_others p (x ∷ cs) goes all = on (p x) refl (parted_others p cs goes all.1) where
    on : (b : Bool) → p x ≡ b → others_clients user (filter (λ c. not (p c)) cs) ≡ others_clients user cs
        → others_clients user (if not b then x ∷ filter (λ c. not (p c)) cs else filter (λ c. not (p c)) cs) ≡
        others_clients user (x ∷ cs)
    on true is same = same
        ∙ sym (ap (λ b. if not b then x ∷ others_clients user cs else others_clients user cs) (all.0 (goes x is)))
    on false is same = ap (λ ds. if not (theirs x) then x ∷ ds else ds) same

  parted_all : (p : Client → Bool) (cs : List Client) → AllHis cs → AllHis (filter p cs)
  parted_all p [] all = tt
  parted_all p (x ∷ cs) all = on (p x) (parted_all p cs all.1) where
    on : (b : Bool) → AllHis (filter p cs) → AllHis (if b then x ∷ filter p cs else filter p cs)
    on true more = (all.0, more)
    on false more = more

  -- ---- tables in which the user's client alone has changed

  pub record Still (t v : Tables) : Type 0 where
    pub owner : v.owner ≡ t.owner
    pub edition : v.edition ≡ t.edition
    pub acts : v.acts ≡ t.acts
    pub mode : v.is_multiuser ≡ t.is_multiuser
    pub windows : v.windows ≡ t.windows
    pub next_window : v.next_window ≡ t.next_window
    pub clients : others_clients user v.clients ≡ others_clients user t.clients
    pub all : AllHis v.clients

  pub as_before : (t : Tables) → AllHis t.clients → Still t t
  as_before t all = record {
    owner = refl;
    edition = refl;
    acts = refl;
    mode = refl;
    windows = refl;
    next_window = refl;
    clients = refl;
    all
        = all;
  }

  abbrev moved : (t v : Tables) (cs : List Client) → Still t v → others_clients user cs ≡ others_clients user v.clients
      → AllHis cs → Still t (record v { clients = cs })
  moved t v cs s same all = record {
    owner = s.owner;
    edition = s.edition;
    acts = s.acts;
    mode = s.mode;
    windows = s.windows;
    next_window =
        s.next_window;
    clients = same ∙ s.clients;
    all = all;
  }

  pub put : (t v : Tables) (c : Client) → Still t v → is_it own c.serial ≡ true → theirs c ≡ true
      → Still t (with_client v c)
  put t v c s is mine = moved t v (with_client v c).clients s (put_others v.clients c s.all is mine)
      (put_all v.clients c c.serial s.all mine)

  pub told_still : (t v : Tables) (n : ℕ) (m : StatusMessage) → Still t v → is_it own n ≡ true → Still t (told v n m)
  told_still t v n m s is = on (client_at v n) refl where
    on : (o : Option Client) → client_at v n ≡ o
        → Still t (elim o as (λ _. Tables) [ None ↦ v | Some c ↦ with_client v (hearing m c) ])
    on None at = s
    on (Some c) at = put t v (hearing m c) s
        (ap (is_it own) (row_serial (λ (x : Client). x.serial) v.clients n c at) ∙ is)
        (row_theirs v.clients n c s.all is at)

  -- ---- the rows

  -- what a deed of a spectator leaves
  pub record Leaves (t : Tables) (d : Deed) : Type 0 where
    pub tables : Still t d.tables
    pub acts : Presence d.acts
    pub effects : AllTo own d.effects

  entering_presence : (v : UserId) (o : Option ℕ) → Presence (entering v o)
  entering_presence v None = tt
  entering_presence v (Some w) = (refl, tt)

  pub parted_by : (t v : Tables) (n : ℕ) → Still t v → is_it own n ≡ true
      → Leaves t (parts (λ (d : Client). d.serial == n) reason.Detached v)
  parted_by t v n still own_is =
      let p : Client → Bool = λ d. d.serial == n in
      let goes : (d : Client) → p d ≡ true → is_it own d.serial ≡ true = λ d is. ap (is_it own) (equal d.serial n is)
      ∙ own_is in record {
        tables = moved t v (filter (λ d. not (p d)) v.clients) still (parted_others p v.clients goes still.all)
            (parted_all (λ d. not (p d)) v.clients still.all);
        acts = all_map (λ a. is_presence a ≡ true) (λ (d : Client). act.Parted d.serial) (filter p v.clients)
            (all_of (λ (d : Client). true ≡ true) (filter p v.clients) (λ d. refl));
        effects = all_map (λ f. is_to own f ≡ true) (λ (d : Client). Gone (peer.Client d.serial) reason.Detached)
            (filter p v.clients)
            (all_passed (λ (d : Client). is_it own d.serial ≡ true) p v.clients
            (all_of (λ (d : Client). p d ≡ true → is_it own d.serial ≡ true) v.clients goes));
      }

  module _ (t v : Tables) (k : Caller) (still : Still t v)
      (of_own : (c : Client) → caller_client v k ≡ Some c → is_it own c.serial ≡ true) where
    mine : (c : Client) → caller_client v k ≡ Some c → theirs c ≡ true
    mine c at = on k.client at (of_own c at) where
      on : (o : Option ℕ) → option_and_then (client_at v) o ≡ Some c → is_it own c.serial ≡ true → theirs c ≡ true
      on None at is = absurd (cc (at))
      on (Some n) at is = row_theirs v.clients n c still.all
          (ap (is_it own) (sym (row_serial (λ (x : Client). x.serial) v.clients n c at)) ∙ is) at

    arranged : (c : Client) (l : Arrangement) → caller_client v k ≡ Some c → Leaves t (arranges v c l)
    arranged c l at = record
        { tables = put t v (with_layout l c) still (of_own c at) (mine c at); acts = tt; effects = tt }

    entered : (c : Client) (l : Arrangement) → caller_client v k ≡ Some c → Leaves t (enters v c l)
    entered c l at = record {
      tables = put t v (with_layout l c) still (of_own c at) (mine c at);
      acts = entering_presence c.user
          (focused (with_layout l c));
      effects = tt;
    }

    parted : (c : Client) → caller_client v k ≡ Some c
        → Leaves t (parts (λ (d : Client). d.serial == c.serial) reason.Detached v)
    parted c at = parted_by t v c.serial still (of_own c at)

    nothing : (bytes : List ℕ) → Leaves t (deeds.listing v bytes)
    nothing bytes = record { tables = still; acts = tt; effects = tt }

    -- each kind of deed
    each : (c : Order) → is_watching (name_of c) ≡ true → (d : Deed) → shapes.Shape v k c d → Leaves t d
    each c is d (shapes.lists bytes quiet tells) = nothing bytes
    each c is d (shapes.acts all quiet acted) = absurd (acts_nothing v k c all is acted)
    each c is d (shapes.enters_page e l of at shows) = entered e l at
    each c is d (shapes.keeps_page e l of at shows same) = arranged e l at
    each c is d (shapes.writes_to w what one at) = absurd (cc (writes_nothing c is, one))
    each c is d (shapes.opened same) = absurd (no_other c _ same refl is)
    each c is d (shapes.shut same) = absurd (no_other c _ same refl is)
    each c is d (shapes.told bytes same) = absurd (no_other c _ same refl is)
    each c is d (shapes.removed word same clear) = absurd (no_other c _ same refl is)
    each c is d (shapes.fitted w rows columns same at) = absurd (no_other c _ same refl is)
    each c is d (shapes.titled w bytes same at) = absurd (no_other c _ same refl is)
    each c is d (shapes.numbered w n same at free) = absurd (no_other c _ same refl is)
    each c is d (shapes.typed w bytes same at) = absurd (no_other c _ same refl is)
    each c is d (shapes.detached e same at) = parted e at
    each c is d (shapes.killed w same at) = absurd (no_other c _ same refl is)
    each c is d (shapes.quits same) = absurd (no_other c _ same refl is)

    pub watched : (c : Order) → is_watching (name_of c) ≡ true → IfDone (Leaves t) (does v k c)
    watched c is = if_done (Leaves t) (does v k c) (shapes.by_shape (Leaves t) v k c (λ d of. each c is d of))
