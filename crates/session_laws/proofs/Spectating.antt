-- A step of a spectator changes the spectator's own client alone; Spectators proves what others keep.
use Rattle.session_laws.proofs.Vocabulary.{◌≡◌, ◌<◌, ℕ, Bool, true, false, List, [], ◌∷◌, ◌++◌, Option, Some, None, Ok}
use Rattle.session_laws.proofs.Vocabulary.{Err, Result, refl, ap, ◌∙◌, subst, arith, if◌then◌else◌, ◌==◌}
use Rattle.session_laws.proofs.Vocabulary.{AllByRecursion, UserId, Act, Write, Execute, CommandName, followed_by, may}
use Rattle.session_laws.proofs.Vocabulary.{same_user, Order, ParseFault, name_of, Item, bound, line, unlocked, Say}
use Rattle.session_laws.proofs.Vocabulary.{StatusMessage, Refusal, Line, NoWindow, Tables, Window, Client, row_of}
use Rattle.session_laws.proofs.Vocabulary.{with_client, focused_window, may_in, text_of, Caller, caller_of, read_line}
use Rattle.session_laws.proofs.Vocabulary.{first_fault, checks, checks_by, typing_checks, needs, entry_denial, Deed}
use Rattle.session_laws.proofs.Vocabulary.{Answer, changing, does, caller_client, ruling, items_behind, typed_bytes}
use Rattle.session_laws.proofs.Vocabulary.{command_item, left_acts, types, says, says_why, message_of, with_listed}
use Rattle.session_laws.proofs.Vocabulary.{keyed, by_line, ordered, unsaid, reading, input_in, Rises, client_serials}
use Rattle.session_laws.proofs.Vocabulary.{not_so, row_serial, equal, all_append, all_filter, is_watching}
use Rattle.session_laws.proofs.Vocabulary.{others_clients, IsSpectator}
use Rattle.acl.specs.declared.act.Object.TheVariants as object
use Rattle.session_laws.proofs.Events.{all_left}
use Rattle.session_laws.proofs.Watching.{is_presence, Presence, is_it, is_to, IfDone, AllHis, Still, as_before, put}
use Rattle.session_laws.proofs.Watching.{told_still, Leaves, watched}

-- ---- one client of a serial

later_differ : (s : ℕ) (cs : List Client) → AllByRecursion (λ (n : ℕ). s < n) (client_serials cs)
    → AllByRecursion (λ (c : Client). s < c.serial) cs
later_differ s [] all = tt
later_differ s (c ∷ cs) all = (all.0, later_differ s cs all.1)

differs : (s n : ℕ) → s < n → (n == s) ≡ false
differs s n less = not_so (n == s) (λ is. let same : n ≡ s = equal n s is in absurd (omega (arith, less, same)))

none_later : (user : UserId) (s : ℕ) (cs : List Client) → AllByRecursion (λ (c : Client). s < c.serial) cs
    → AllHis user (Some s) cs
none_later user s [] all = tt
none_later user s (c ∷ cs) all = (
  (λ is. let not_it : (c.serial == s) ≡ false = differs s c.serial all.0 in absurd (cc (is, not_it))),
  none_later
      user s cs all.1,
)

pub all_theirs : (user : UserId) (next s : ℕ) (cs : List Client) (c : Client) → Rises (client_serials cs) next
    → row_of (λ (x : Client). x.serial) cs s ≡ Some c → same_user c.user user ≡ true → AllHis user (Some s) cs
all_theirs user next s [] c rise at mine = tt
all_theirs user next s (x ∷ cs) c rise at mine = on (x.serial == s) refl at (all_theirs user next s cs c rise.2) where
  on : (b : Bool) → (x.serial == s) ≡ b → (if b then Some x else row_of (λ (x : Client). x.serial) cs s) ≡ Some c
      → (row_of (λ (x : Client). x.serial) cs s ≡ Some c → same_user c.user user ≡ true → AllHis user (Some s) cs)
      → AllHis user (Some s) (x ∷ cs)
  on true is at more =
      let e : x ≡ c = cc (at) in (
        (λ it. ap (λ (y : Client). same_user y.user user) e ∙ mine),
        none_later user s cs
            (subst (λ n. AllByRecursion (λ (d : Client). n < d.serial) cs) (equal x.serial s is)
            (later_differ x.serial cs rise.1)),
      )
  on false is at more = ((λ it. absurd (cc (it, is))), more at mine)

-- ---- a step

pub record Stepped (user : UserId) (t : Tables) (acts : List Act) (v : Tables) : Type 0 where
  pub presence : Presence acts
  pub acts_are : v.acts ≡ followed_by t.acts acts
  pub owner : v.owner ≡ t.owner
  pub edition : v.edition ≡ t.edition
  pub mode : v.is_multiuser ≡ t.is_multiuser
  pub windows : v.windows ≡ t.windows
  pub next_window : v.next_window ≡ t.next_window
  pub clients : others_clients user v.clients ≡ others_clients user t.clients

pub stays : (user : UserId) (t : Tables) → Stepped user t [] t
stays user t = record {
  presence = tt;
  acts_are = refl;
  owner = refl;
  edition = refl;
  mode = refl;
  windows = refl;
  next_window = refl;
  clients = refl;
}

pub all_present : (before after : List Client) → Presence (left_acts before after)
all_present before after = all_left (λ a. is_presence a ≡ true) before after (λ user w. refl)

module _ (user : UserId) (own : Option ℕ) (t : Tables) (watches : IsSpectator t user) where
  pub did : (d : Deed) → Leaves user own t d
      → let acts : List Act = d.acts ++ left_acts t.clients d.tables.clients in Stepped user t acts
      (record d.tables { acts = followed_by t.acts acts })
  did d leaves = record {
    presence = all_append (λ a. is_presence a ≡ true) d.acts (left_acts t.clients d.tables.clients) leaves.acts
        (all_present t.clients d.tables.clients);
    acts_are = refl;
    owner = leaves.tables.owner;
    edition = leaves.tables.edition;
    mode = leaves.tables.mode;
    windows = leaves.tables.windows;
    next_window = leaves.tables.next_window;
    clients = leaves.tables.clients;
  }

  abbrev Of : Deed → Type 0
  Of d = Leaves user own t d

  same_may : (v : Tables) → Still user own t v → (c : CommandName) → is_watching c ≡ false
      → may_in v user Execute (object.Command c) ≡ false
  same_may v s c is =
      ap (λ h. may v.edition v.owner h user Execute (object.Command c)) s.acts
      ∙ ap (λ o. may v.edition o t.acts user Execute (object.Command c)) s.owner
      ∙ ap (λ e. may e t.owner t.acts user Execute (object.Command c)) s.edition ∙ watches.commands c is

  -- a command that is given
  pub answer_of : (v : Tables) (k : Caller) (c : Order) → k.user ≡ user → Still user own t v
      → ((d : Client) → caller_client v k ≡ Some d → is_it own d.serial ≡ true) → IfDone Of (ruling v k c).answer
  answer_of v k c by s of_own = on (is_watching (name_of c)) refl where
    checked : (o : Option Refusal) → IfDone Of (does v k c)
        → IfDone Of (elim o as (λ _. Answer) [ Some r ↦ Err r | None ↦ does v k c ])
    checked (Some r) done = tt
    checked None done = done

    denied : (o : Option Refusal) (r : Refusal) → o ≡ Some r
        → IfDone Of (elim o as (λ _. Answer) [ Some r ↦ Err r | None ↦ does v k c ])
    denied (Some x) r is = tt
    denied None r is = absurd (cc (is))

    on : (b : Bool) → is_watching (name_of c) ≡ b → IfDone Of (ruling v k c).answer
    on true is = checked (first_fault v (checks v k c)) (watched user own t v k s of_own c is)
    on false is =
        denied (first_fault v (checks v k c)) _
        (ap (λ b. if b then first_fault v (checks_by v k (needs c)) else Some
        (entry_denial v k.user Execute (object.Command (name_of c))))
        (ap (λ u. may_in v u Execute (object.Command (name_of c))) by ∙ same_may v s (name_of c) is))

  -- ---- keys

  said : (v : Tables) (n : ℕ) (m : StatusMessage) (bytes : List ℕ) → Still user own t v → is_it own n ≡ true
      → Of (says v n m bytes)
  said v n m bytes s is = record { tables = told_still user own t v n m s is; acts = tt; effects = (is, tt) }

  listed : (n : ℕ) (m : List ℕ → StatusMessage) (o : Option (List ℕ)) (d : Deed) → is_it own n ≡ true → Of d
      → Of (with_listed n m o d)
  listed n m None d is leaves = leaves
  listed n m (Some bytes) d is leaves = record {
    tables = told_still user own t d.tables n (m bytes) leaves.tables is;
    acts = leaves.acts;
    effects = all_append (λ f. is_to own f ≡ true) d.effects (Say n bytes ∷ []) leaves.effects (is, tt);
  }

  by_answer : (v : Tables) (n : ℕ) (m : List ℕ → StatusMessage) (a : Answer) → Still user own t v → is_it own n ≡ true
      → IfDone Of a → Of (keyed v n m a)
  by_answer v n m (Err r) s is done = said v n _ (text_of r) s is
  by_answer v n m (Ok d) s is done = listed n m d.lists d is done

  -- the client that gives keys, in tables after they were read
  module _ (c : Client) (is : is_it own c.serial ≡ true) (mine : c.user ≡ user) where
    of_own : (v : Tables) (d : Client) → caller_client v (caller_of v c) ≡ Some d → is_it own d.serial ≡ true
    of_own v d at = ap (is_it own) (row_serial (λ (x : Client). x.serial) v.clients c.serial d at) ∙ is

    lined : (v : Tables) (r : Result Order ParseFault) → Still user own t v → Of (by_line v c r).deed
    lined v (Err f) s = said v c.serial _ (text_of (Line f)) s is
    lined v (Ok order) s = by_answer v c.serial (message_of order) (ruling v (caller_of v c) order).answer s is
        (answer_of v (caller_of v c) order mine s (of_own v))

    itemed : (v : Tables) (item : Option Item) → Still user own t v → Of (ordered v c item).deed
    itemed v (Some (bound order)) s = lined v (Ok order) s
    itemed v (Some (line (b ∷ bytes))) s = lined v (read_line (b ∷ bytes)) s
    itemed v item s = record { tables = s; acts = tt; effects = tt }

    may_not : (v : Tables) (w : ℕ) → Still user own t v → may_in v c.user Write (object.Window w) ≡ false
    may_not v w s =
        ap (λ h. may v.edition v.owner h c.user Write (object.Window w)) s.acts
        ∙ ap (λ o. may v.edition o t.acts c.user Write (object.Window w)) s.owner
        ∙ ap (λ e. may e t.owner t.acts c.user Write (object.Window w)) s.edition
        ∙ ap (λ u. may_in t u Write (object.Window w)) mine ∙ watches.write w

    refuses : (v : Tables) (o : Option Window) → Still user own t v → (r : Refusal)
        × (first_fault v (typing_checks c.user o) ≡ Some r)
    refuses v None s = (NoWindow, refl)
    refuses v (Some w) s =
        let checked : Bool
        → Option Refusal = λ b. if b then first_fault v (unlocked c.user w.serial ∷ []) else Some
        (entry_denial v c.user Write (object.Window w.serial)) in
        (entry_denial v c.user Write (object.Window w.serial), ap checked (may_not v w.serial s))

    typed_so : (v : Tables) (bytes : List ℕ) → Still user own t v → Of (types v c bytes)
    typed_so v [] s = record { tables = s; acts = tt; effects = tt }
    typed_so v (b ∷ bytes) s = on (first_fault v (typing_checks c.user (focused_window v c)))
        (refuses v (focused_window v c) s).1 where
          on : (o : Option Refusal) → o ≡ Some (refuses v (focused_window v c) s).0
              → Of (elim o as (λ _. Deed) [
                | Some r ↦ says_why v c.serial r
                | None ↦ record (changing v)
                    { effects = input_in (focused_window v c) (b ∷ bytes) }
              ])
          on (Some r) at = said v c.serial _ (text_of r) s is
          on None at = absurd (cc (at))

  -- a step of keys
  pub keys_leave : (c : Client) (bytes : List ℕ) → is_it own c.serial ≡ true → c.user ≡ user
      → same_user c.user user ≡ true → AllHis user own t.clients
      → let d : Client = reading bytes c in let given : List Item = items_behind c.keys bytes in let typing : Deed =
      types (with_client t d) d (typed_bytes given) in
      let order : Deed = (ordered typing.tables d (command_item given)).deed in Of
      (record order { effects = typing.effects ++ unsaid typing.effects order.effects })
  keys_leave c bytes is mine same all =
      let d : Client = reading bytes c in
      let given : List Item = items_behind c.keys bytes in
      let typing : Deed = types (with_client t d) d (typed_bytes given) in
      let order : Deed = (ordered typing.tables d (command_item given)).deed in
      let began : Still user own t (with_client t d) = put user own t t d (as_before user own t all) is same in
      let wrote : Of typing = typed_so d is mine (with_client t d) (typed_bytes given) began in
      let gave : Of order = itemed d is mine typing.tables (command_item given) wrote.tables in record {
        tables = gave.tables;
        acts = gave.acts;
        effects = all_append (λ f. is_to own f ≡ true) typing.effects (unsaid typing.effects order.effects)
            wrote.effects (all_filter (λ f. is_to own f ≡ true) _ order.effects gave.effects);
      }
