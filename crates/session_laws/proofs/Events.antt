-- Which acts an event has that gives no command, and what it leaves unchanged.
use Rattle.session_laws.proofs.Vocabulary.{all_made, ◌≡◌, ◌≤◌, ℕ, ◌+◌, Bool, true, false, List, [], ◌∷◌, ◌++◌, Option}
use Rattle.session_laws.proofs.Vocabulary.{Some, None, refl, ap, sym, subst, arith, if◌then◌else◌, ◌==◌, ◌||◌}
use Rattle.session_laws.proofs.Vocabulary.{AllByRecursion, option_map_or, UserId, Act, followed_by, Effect, Tables}
use Rattle.session_laws.proofs.Vocabulary.{Window, Client, client_at, with_client, focused, is_in_focus, Deed, changing}
use Rattle.session_laws.proofs.Vocabulary.{parts, closes, entering, outcome, Outcome, left_acts_of, left_acts, attaches}
use Rattle.session_laws.proofs.Vocabulary.{new_client, opens, new_window, outputs, IsStep, after, drawn, drawn_on}
use Rattle.session_laws.proofs.Vocabulary.{EventValue, Attach, Detach, Keys, Command, Open, Output, Closed, Draw, Entry}
use Rattle.session_laws.proofs.Vocabulary.{equal, all_append, OfClient, OfNobody, giver_of, client_user, user_by}
use Rattle.session_laws.proofs.Vocabulary.{user_of}
use Rattle.acl.specs.declared.act.Act.TheVariants as act
use Rattle.session_model.specs.declared.event.Reason.TheVariants as reason
use Rattle.session_laws.proofs.Outcomes as outcomes
use Rattle.session_laws.proofs.Outcomes.{Change, change_of}

-- whether an event gives commands
abbrev pub gives_commands : EventValue → Bool
gives_commands (Keys client bytes) = true
gives_commands (Command user number bytes) = true
gives_commands _ = false

abbrev pub is_open : EventValue → Bool
is_open (Open user rows columns keep title) = true
is_open _ = false

-- which acts such an event has
abbrev pub IsActIn : Tables → EventValue → Act → Type 0
IsActIn t event (act.Left user w) = Unit {0}
IsActIn t (Attach user rows columns) (act.Attached client v) = (client ≡ t.next_client) × (v ≡ user)
IsActIn t (Attach user rows columns) (act.Entered v w) = v ≡ user
IsActIn t (Detach client) (act.Parted d) = d ≡ client
IsActIn t (Open user rows columns keep title) (act.Opened by w) = (by ≡ user) × (w ≡ t.next_window)
IsActIn t (Closed window) (act.Closed w) = w ≡ window
IsActIn t _ _ = ⊥

pub record Plain (t : Tables) (event : EventValue) (acts : List Act) (u : Tables) : Type 0 where
  pub acts_in : AllByRecursion (IsActIn t event) acts
  pub owner : u.owner ≡ t.owner
  pub edition : u.edition ≡ t.edition
  pub acts_are : u.acts ≡ followed_by t.acts acts
  pub mode : u.is_multiuser ≡ t.is_multiuser
  pub next_window : t.next_window ≤ u.next_window

abbrev PlainTo : Tables → EventValue → Outcome → Type 0
PlainTo t event o = Plain t event o.acts o.tables

-- the acts of users who leave windows
pub all_left : (P : Act → Type 0) (before after : List Client) → ((user : UserId) (w : ℕ) → P (act.Left user w))
    → AllByRecursion P (left_acts before after)
all_left P [] after on = tt
all_left P (c ∷ before) after on = all_append P (left_acts_of c (focused c) before after) (left_acts before after)
    (one (focused c)) (all_left P before after on) where
      one : (o : Option ℕ) → AllByRecursion P (left_acts_of c o before after)
      one None = tt
      one (Some w) = left (is_in_focus before c.user w || is_in_focus after c.user w) where
        left : (b : Bool) → AllByRecursion P (if b then [] else act.Left c.user w ∷ [])
        left true = tt
        left false = (on c.user w, tt)

le_same : (n : ℕ) → n ≤ n
le_same n = omega arith

le_more : (n : ℕ) → n ≤ n + 1
le_more n = omega arith

still : (t : Tables) (event : EventValue) → Plain t event [] t
still t event = record
    { acts_in = tt; owner = refl; edition = refl; acts_are = refl; mode = refl; next_window = le_same t.next_window }

made : (t : Tables) (event : EventValue) (d : Deed) → AllByRecursion (IsActIn t event) d.acts → d.tables.owner ≡ t.owner
    → d.tables.edition ≡ t.edition → d.tables.is_multiuser ≡ t.is_multiuser
    → t.next_window ≤ d.tables.next_window
    → let acts : List Act = d.acts ++ left_acts t.clients d.tables.clients in Plain t event acts
    (record d.tables { acts = followed_by t.acts acts })
made t event d all owner edition mode next = record {
  acts_in = all_append (IsActIn t event) d.acts (left_acts t.clients d.tables.clients) all
      (all_left (IsActIn t event) t.clients d.tables.clients (λ user w. tt));
  owner = owner;
  edition = edition;
  acts_are = refl;
  mode = mode;
  next_window = next;
}

enters_in : (t : Tables) (user : UserId) (rows columns : ℕ) (o : Option ℕ)
    → AllByRecursion (IsActIn t (Attach user rows columns)) (entering user o)
enters_in t user rows columns None = tt
enters_in t user rows columns (Some w) = (refl, tt)

-- an event that changes one client's row belongs to that client
given_by : (event : EventValue) (x : Change) → change_of event ≡ Some x → giver_of event ≡ OfClient x.client
given_by (Attach user rows columns) x is = absurd (cc (is))
given_by (Detach client) x is = absurd (cc (is))
given_by (Keys client bytes) x is = absurd (cc (is))
given_by (Command user number bytes) x is = absurd (cc (is))
given_by (Open user rows columns keep title) x is = absurd (cc (is))
given_by (Draw client) x is = absurd (cc (is))
given_by event x is = ap (λ o. option_map_or (λ (y : Change). OfClient y.client) o OfNobody) is

pub changed_by : (t : Tables) (event : EventValue) (x : Change) → change_of event ≡ Some x
    → user_of t event ≡ client_user t x.client
changed_by t event x is = ap (user_by t) (given_by event x is)

happened : (t : Tables) (event : EventValue) (o : Outcome) → outcomes.Happens t event o → gives_commands event ≡ false
    → PlainTo t event o
happened t _ _ (outcomes.failed event vs r why) not = still t event
happened t _ _ (outcomes.changed event x c is f at) not =
    made t event (changing (with_client t (x.row c))) tt refl refl refl (le_same t.next_window)
happened t _ _ (outcomes.attached user rows columns passes) not =
    let c : Client = new_client t user rows columns in
    made t (Attach user rows columns) (attaches t c) ((refl, refl), enters_in t user rows columns (focused c))
    refl refl refl (le_same t.next_window)
happened t _ _ (outcomes.detached client c at) not =
    made t (Detach client) (parts (λ d. d.serial == client) reason.Detached t)
    (all_made (IsActIn t (Detach client)) (λ (d : Client). act.Parted d.serial) (λ d. d.serial == client) t.clients
    (λ d goes. equal d.serial client goes))
    refl refl refl (le_same t.next_window)
happened t _ _ (outcomes.opened user rows columns keep title passes) not =
    made t (Open user rows columns keep title) (opens t user (new_window t rows columns keep title)) ((refl, refl), tt)
    refl refl refl (le_more t.next_window)
happened t _ _ (outcomes.wrote window bytes v at) not =
    made t (Output window bytes) (outputs t v bytes) tt refl refl refl (le_same t.next_window)
happened t _ _ (outcomes.closed window v at) not =
    made t (Closed window) (closes (λ x. x.serial == window) reason.Detached t)
    (all_made (IsActIn t (Closed window)) (λ (w : Window). act.Closed w.serial) (λ w. w.serial == window) t.windows
    (λ w goes. equal w.serial window goes))
    refl refl refl (le_same t.next_window)
happened t _ _ (outcomes.drew client c at) not =
    made t (Draw client) (changing t) tt refl refl refl (le_same t.next_window)
happened t _ _ h not = absurd (cc (not))

plain : (t : Tables) (event : EventValue) → gives_commands event ≡ false → PlainTo t event (outcome t event)
plain t event not = happened t event (outcome t event) (outcomes.happens t event) not

-- a draw changes only clients
drawn_plain : (t : Tables) (event : EventValue) (acts : List Act) (o : Option Client) (effects : List Effect)
    (u : Tables) → Plain t event acts u → Plain t event acts (drawn_on o effects u)
drawn_plain t event acts None effects u p = p
drawn_plain t event acts (Some c) effects u p = record {
  acts_in = p.acts_in;
  owner = p.owner;
  edition = p.edition;
  acts_are = p.acts_are;
  mode = p.mode;
  next_window =
      p.next_window;
}

after_plain : (t : Tables) (event : EventValue) (effects : List Effect) → gives_commands event ≡ false
    → Plain t event (outcome t event).acts (drawn event effects (outcome t event).tables)
after_plain t (Draw client) effects not = let u : Tables = (outcome t (Draw client)).tables in drawn_plain t
    (Draw client) (outcome t (Draw client)).acts (client_at u client) effects u (plain t (Draw client) not)
after_plain t event effects not = plain t event not

pub step_plain : (t : Tables) (e : Entry) → IsStep t e → gives_commands e.event ≡ false
    → Plain t e.event e.acts (after t e)
step_plain t e step not = subst (λ acts. Plain t e.event acts (after t e)) (sym step.acts)
    (after_plain t e.event e.effects not)
