-- What a step files is legal in what was asked and answered, and a step that writes no entry has no
-- acts.
use Rattle.hub_trail.proofs.Vocabulary.{◌≡◌, ◌∙◌, ℕ, Bool, true, false, List, [], ◌∷◌, ◌++◌, Option, Some, None, Result}
use Rattle.hub_trail.proofs.Vocabulary.{Ok, Err, refl, ap, inl, inr, ⊎_elim, take, ◌==◌, if◌then◌else◌, AllByRecursion}
use Rattle.hub_trail.proofs.Vocabulary.{and_from, or_left, eq-eqb, UserId, Write, same_user-refl}
use Rattle.hub_trail.proofs.Vocabulary.{stops_nobody_but, ParseFault, read_line, Item, typed, bound, line, Check, Done}
use Rattle.hub_trail.proofs.Vocabulary.{StatusMessage, Refusal, NoWindow, Line, Verdict, EventValue, Attach, Detach}
use Rattle.hub_trail.proofs.Vocabulary.{Keys, Command, Open, Closed, ActsAgree, Window, Client, Tables, window_at}
use Rattle.hub_trail.proofs.Vocabulary.{client_at, with_client, focused_window, may_in, holder_in, caller_of, verdicts}
use Rattle.hub_trail.proofs.Vocabulary.{first_fault, checks, typing_checks, Deed, Answer, changing, parts, closes, does}
use Rattle.hub_trail.proofs.Vocabulary.{items_behind, typed_bytes, command_item, taken, Outcome, finished, left_acts}
use Rattle.hub_trail.proofs.Vocabulary.{done, outcome, attaches, opens, attach_checks, open_checks, new_client}
use Rattle.hub_trail.proofs.Vocabulary.{new_window, told, typing_verdicts, message_of, keyed, by_line, ordered, Ordered}
use Rattle.hub_trail.proofs.Vocabulary.{reading, types, keys_outcome, OnlyRead, Either, told_read, all_append}
use Rattle.hub_trail.proofs.Vocabulary.{all_weaken, SameClients, typing_clients, nobody_left, Kept, is_granted}
use Rattle.hub_trail.proofs.Vocabulary.{from_command, failed, is_client_of, user_of, kept_of}
use Rattle.std.proofs.Common.{◌⊎◌}
use Rattle.acl.specs.declared.act.Object.TheVariants as object
use Rattle.command_lang.specs.declared.command.Command.{Command as Order}
use Rattle.session.specs.event.Reason.TheVariants as reason
use Rattle.session.specs.event.StatusMessage.TheVariants as message
use Rattle.session.specs.refusal.Verdict.TheVariants as verdict
use Rattle.session.specs.Texts.{text_of}
use Rattle.session.proofs.Outcomes as outcomes
use Rattle.hub_trail.specs.declared.kept.Kept.TheVariants as kept
use Rattle.hub_trail.proofs.Verdicts.{AreTrue, true_verdicts, AreOf, own_verdicts, all_pass, IsCheckOf, own_checks}
use Rattle.hub_trail.proofs.Verdicts.{own_typing}
use Rattle.hub_trail.proofs.Sights.{stays_alike, left_none, with_stays, parted_found, closed_found, attached}
use Rattle.hub_trail.proofs.Rules.{rules, Still, stills, listed_rules, read_rules}
use Rattle.hub_trail.proofs.Answered.{Legal, refused_legal, finished_legal, passed_legal, own_user, granted_first}
use Rattle.hub_trail.proofs.Answered.{command_legal}

-- ---- Attach, Open, Detach, Closed

attach_legal : (t : Tables) (user : UserId) (rows columns : ℕ)
    → Legal t (kept.Attach user rows columns) (outcome t (Attach user rows columns))
attach_legal t user rows columns =
    let cs : List Check = attach_checks t user rows columns in
    passed_legal t (kept.Attach user rows columns) cs
    (record { taken = 0; made = t.next_client; number = 0; text = None })
    (attaches t (new_client t user rows columns)) (refl, (refl, (refl, (refl, tt)))) tt tt
    (λ none. all_pass t cs none) (or_left _ _ (and_from _ _ (eq-eqb t.next_client t.next_client refl)
    (same_user-refl user)))

open_legal : (t : Tables) (user : UserId) (rows columns keep : ℕ) (title : List ℕ)
    → Legal t (kept.Open user rows columns keep title) (outcome t (Open user rows columns keep title))
open_legal t user rows columns keep title =
    let cs : List Check = open_checks t user rows columns keep title in
    let w : Window = new_window t rows columns keep title in
    passed_legal t (kept.Open user rows columns keep title) cs
    (record { taken = 0; made = w.serial; number = w.number; text = None }) (opens t user w)
    (refl, (tt, (refl, (refl, (refl, (refl, tt))))))
    (own_user t user cs (tt, (refl, (tt, (tt, (tt, (tt, tt))))))) tt
    (λ none. all_pass t cs none) (or_left _ _ (and_from _ _ (eq-eqb t.next_window t.next_window refl)
    (same_user-refl user)))

abbrev nothing : Done
nothing = record { taken = 0; made = 0; number = 0; text = None }

detach_legal : (t : Tables) (client : ℕ) → Legal t (kept.Detach client) (outcome t (Detach client))
detach_legal t client =
    let d : Deed = parts (λ (d : Client). d.serial == client) reason.Detached t in
    outcomes.found (Legal t (kept.Detach client)) t (λ (c : Client). finished t [] done d) (client_at t client)
    (refused_legal t (kept.Detach client) [] NoWindow tt tt refl)
    (λ c is. finished_legal t (kept.Detach client) [] nothing d tt tt refl tt
    (parted_found t.clients client c (left_acts t.clients d.tables.clients) is))

closed_legal : (t : Tables) (window : ℕ) → Legal t (kept.Closed window) (outcome t (Closed window))
closed_legal t window =
    let d : Deed = closes (λ (v : Window). v.serial == window) reason.Detached t in
    outcomes.found (Legal t (kept.Closed window)) t (λ (w : Window). finished t [] done d) (window_at t window)
    (refused_legal t (kept.Closed window) [] NoWindow tt tt refl)
    (λ w is. finished_legal t (kept.Closed window) [] nothing d tt tt refl tt
    (closed_found t.windows window w (left_acts t.clients d.tables.clients) is))

-- ---- Keys

-- what comes of a command among the keys of a client of this user
pub record IsOrdered (t : Tables) (user : UserId) (o : Ordered) : Type 0 where
  pub truth : AreTrue t o.verdicts
  pub own : AreOf user o.verdicts
  pub stand : (o.deed.acts ++ left_acts t.clients o.deed.tables.clients ≡ []) ⊎ (is_granted
      (from_command o.verdicts) ≡ true)
  pub still : rules o.deed.tables ≡ rules t

module _ (t : Tables) (cs : List Client) (same : SameClients t cs) (d : Client) where
  abbrev v : Tables
  v = record t { clients = cs }

  only : OnlyRead t v
  only = record {
    owner = refl;
    edition = refl;
    next_window = refl;
    next_client = refl;
    acts = refl;
    multiuser = refl;
    windows = refl;
    clients = same;
  }

  abbrev Is : Ordered → Type 0
  Is o = IsOrdered t d.user o

  -- the client is told the refusal
  why_said : (r : Refusal) (m : List ℕ → StatusMessage) (asked : List Check) → AllByRecursion (IsCheckOf d.user) asked
      → Is (record { verdicts = verdicts v asked; deed = keyed v d.serial m (Err r) })
  why_said r m asked own =
      let all : OnlyRead t (told v d.serial (message.Text (text_of r))) =
      told_read t v d.serial (message.Text (text_of r)) only in
      record {
        truth = true_verdicts v asked;
        own = own_verdicts v d.user asked own;
        stand = inl (nobody_left t.clients (told v d.serial (message.Text (text_of r))).clients all.clients);
        still = read_rules t (told v d.serial (message.Text (text_of r))) all;
      }

  by_order : (c : Order) → Is (by_line v d (Ok c))
  by_order c = on (first_fault v (checks v (caller_of v d) c)) refl where
    answer : (a : Answer) → first_fault v (checks v (caller_of v d) c) ≡ None → Either (Still v) a
        → Is (record { verdicts = verdicts v (checks v (caller_of v d) c); deed = keyed v d.serial (message_of c) a })
    answer (Err r) none plain = why_said r (message_of c) (checks v (caller_of v d) c) (own_checks v (caller_of v d) c)
    answer (Ok e) none still = record {
      truth = true_verdicts v (checks v (caller_of v d) c);
      own = own_verdicts v d.user (checks v (caller_of v d) c) (own_checks v (caller_of v d) c);
      stand = inr (granted_first v (caller_of v d) c none);
      still = listed_rules d.serial (message_of c) e.lists e ∙ still;
    }

    on : (f : Option Refusal) → first_fault v (checks v (caller_of v d) c) ≡ f
        → Is (record {
          verdicts = verdicts v (checks v (caller_of v d) c);
          deed = keyed v d.serial (message_of c)
              (elim f as (λ _. Answer) [ Some r ↦ Err r | None ↦ does v (caller_of v d) c ]);
        })
    on (Some r) is = why_said r (message_of c) (checks v (caller_of v d) c) (own_checks v (caller_of v d) c)
    on None is = answer (does v (caller_of v d) c) is (stills v (caller_of v d) c)

  by_read : (r : Result Order ParseFault) → Is (by_line v d r)
  by_read (Ok c) = by_order c
  by_read (Err f) = why_said (Line f) message.Text [] tt

  none_ordered : Is (record { verdicts = []; deed = changing v })
  none_ordered = record { truth = tt; own = tt; stand = inl (nobody_left t.clients cs same); still = refl }

  is_ordered : (item : Option Item) → Is (ordered v d item)
  is_ordered (Some (bound c)) = by_order c
  is_ordered (Some (line (b ∷ bytes))) = by_read (read_line (b ∷ bytes))
  is_ordered (Some (line [])) = none_ordered
  is_ordered (Some (typed b)) = none_ordered
  is_ordered None = none_ordered

-- the tables after a step's bytes were typed
abbrev pub typed_into : Tables → Client → List ℕ → Tables
typed_into t c bytes = let d : Client =
    reading bytes c in (types (with_client t d) d (typed_bytes (items_behind c.keys bytes))).tables

abbrev pub order_of : Tables → Client → List ℕ → Ordered
order_of t c bytes = ordered (typed_into t c bytes) (reading bytes c) (command_item (items_behind c.keys bytes))

pub keys_ordered : (t : Tables) (s : ℕ) (c : Client) (bytes : List ℕ) → client_at t s ≡ Some c
    → IsOrdered t c.user (order_of t c bytes)
keys_ordered t s c bytes found =
    let d : Client = reading bytes c in
    let item : Option Item = command_item (items_behind c.keys bytes) in
    typing_clients (λ v. IsOrdered t c.user (ordered v d item)) t s c d
    (typed_bytes (items_behind c.keys bytes)) found refl refl
    (λ cs same. is_ordered t cs same d item)

-- the verdicts of typed bytes
true_typing : (t : Tables) (c : Client) (bytes : List ℕ) → AreTrue t (typing_verdicts t c bytes)
true_typing t c [] = tt
true_typing t c (b ∷ bytes) = true_verdicts t (typing_checks c.user (focused_window t c))

typing_own : (t : Tables) (c : Client) (bytes : List ℕ) → AreOf c.user (typing_verdicts t c bytes)
typing_own t c [] = tt
typing_own t c (b ∷ bytes) = own_verdicts t c.user (typing_checks c.user (focused_window t c))
    (own_typing c.user (focused_window t c))

-- the verdicts of typed bytes don't ask for x on a command
pub asks_none : (t : Tables) (c : Client) (bytes : List ℕ) (vs : List Verdict)
    → from_command (typing_verdicts t c bytes ++ vs) ≡ from_command vs
asks_none t c [] vs = refl
asks_none t c (b ∷ bytes) vs = on (focused_window t c) where
  locked : (b : Bool) → from_command ((if b then [] else []) ++ vs) ≡ from_command vs
  locked true = refl
  locked false = refl

  written : (w : ℕ) (m s : Bool)
      → from_command ((if m then verdict.Lock c.user w
      (holder_in t w) ∷ (if s then [] else []) else []) ++ vs) ≡ from_command vs
  written w true s = locked s
  written w false s = refl

  on : (o : Option Window) → from_command (verdicts t (typing_checks c.user o) ++ vs) ≡ from_command vs
  on None = refl
  on (Some w) = written w.serial (may_in t c.user Write (object.Window w.serial))
      (stops_nobody_but c.user (holder_in t w.serial))

keys_legal : (t : Tables) (s : ℕ) (c : Client) (bytes : List ℕ) → ActsAgree t → client_at t s ≡ Some c
    → Legal t (kept.Keys s) (keys_outcome t c bytes)
keys_legal t s c bytes agree found =
    let typing : List Verdict = typing_verdicts t c (typed_bytes (items_behind c.keys bytes)) in
    let o : Ordered = order_of t c bytes in
    let is : IsOrdered t c.user o = keys_ordered t s c bytes found in
    let Own : Verdict → Type 0 = λ v. is_client_of t.acts s (user_of v) ≡ true in
    record {
      verdicts = all_append _ typing o.verdicts (true_typing t c (typed_bytes (items_behind c.keys bytes))) is.truth;
      user = all_weaken (λ v. user_of v ≡ c.user) Own (typing ++ o.verdicts)
          (λ v same. ap (is_client_of t.acts s) same ∙ attached t s c agree found)
          (all_append (λ v. user_of v ≡ c.user) typing o.verdicts
          (typing_own t c (typed_bytes (items_behind c.keys bytes))) is.own);
      first = tt;
      acts = ⊎_elim (λ (none : o.deed.acts ++ left_acts t.clients o.deed.tables.clients ≡ []). inl none)
          (λ (granted : is_granted (from_command o.verdicts) ≡ true). inr
          (ap is_granted (asks_none t c (typed_bytes (items_behind c.keys bytes)) o.verdicts) ∙ granted)) is.stand;
      denial = tt;
      denied = tt;
      done = tt;
    }

-- ---- all events

-- a step that writes no entry has no acts
abbrev pub IsLegalStep : Tables → Option Kept → Outcome → Type 0
IsLegalStep t None o = o.acts ≡ []
IsLegalStep t (Some k) o = Legal t k o

unkept : (t : Tables) (event : EventValue) (o : Outcome) → outcomes.Happens t event o → kept_of event ≡ None
    → o.acts ≡ []
unkept t _ _ (outcomes.failed event vs r why) none = refl
unkept t _ _ (outcomes.changed event x c is f at) none =
    left_none t.clients _ (stays_alike t.clients _
    (with_stays t.clients x.client c (x.row c) at (f.serial c) (λ i. (f.user c i, f.focus c i))))
unkept t _ _ (outcomes.wrote window bytes w at) none = nobody_left t.clients t.clients refl
unkept t _ _ (outcomes.drew client c at) none = nobody_left t.clients t.clients refl
unkept t _ _ h none = absurd (cc (none))

pub legal_step : (t : Tables) (event : EventValue) → ActsAgree t → IsLegalStep t (kept_of event) (outcome t event)
legal_step t (Attach user rows columns) agree = attach_legal t user rows columns
legal_step t (Detach client) agree = detach_legal t client
legal_step t (Keys client bytes) agree =
    outcomes.found (Legal t (kept.Keys client)) t (λ c. keys_outcome t c (take (taken c.keys bytes) bytes))
    (client_at t client) (refused_legal t (kept.Keys client) [] NoWindow tt tt refl)
    (λ c is. keys_legal t client c (take (taken c.keys bytes) bytes) agree is)
legal_step t (Command user number bytes) agree = command_legal t user number bytes
legal_step t (Open user rows columns keep title) agree = open_legal t user rows columns keep title
legal_step t (Closed window) agree = closed_legal t window
legal_step t event agree = unkept t event (outcome t event) (outcomes.happens t event) refl
