-- What a step does: nothing, or what a command that passed its checks does, or what its event does.
use Rattle.session_laws.proofs.Vocabulary.{◌≡◌, ℕ, Bool, true, false, List, [], ◌∷◌, ◌++◌, Option, Some, None, Ok, Err}
use Rattle.session_laws.proofs.Vocabulary.{Result, refl, ap, sym, ◌∙◌, subst, map, take, inl, inr, if◌then◌else◌, ◌==◌}
use Rattle.session_laws.proofs.Vocabulary.{◌⊎◌, is_ok, AllByRecursion, UserId, Act, followed_by, Order, ParseFault}
use Rattle.session_laws.proofs.Vocabulary.{Item, typed, bound, line, Done, Effect, Verdict, Text, Refusal, NoWindow}
use Rattle.session_laws.proofs.Vocabulary.{UnknownUser, Line, Tables, Client, row_of, client_at, is_known, text_of}
use Rattle.session_laws.proofs.Vocabulary.{Caller, caller_of, line_caller, read_line, checks, first_fault, Deed, Answer}
use Rattle.session_laws.proofs.Vocabulary.{does, ruling, taken, step_items, typed_bytes, command_item, outcome, Outcome}
use Rattle.session_laws.proofs.Vocabulary.{refused, left_acts, reading, keys_outcome, told, Given, commands_of}
use Rattle.session_laws.proofs.Vocabulary.{with_order, order_in, ok_of, SomeOf, OnlyRead, unread, ChangesNothing, after}
use Rattle.session_laws.proofs.Vocabulary.{EventValue, Keys, Command, Reply, Entry, typing, heard, DidItsRowByKeys}
use Rattle.session_laws.proofs.Vocabulary.{WasRefusedByKeys, WasTypedAlone, IsAnswered, IsNoCommand, KeysAreAnswered}
use Rattle.session_laws.proofs.Vocabulary.{KeysDidTheirRow, DidItsRow, LineDidItsRow, refusal_in, why_refused}
use Rattle.session_laws.proofs.Unread.{SameClients, typing_clients}
use Rattle.session_laws.proofs.Granting.{told_read, same_tables}
use Rattle.session_laws.proofs.Asking.{keys_given}
use Rattle.session_laws.proofs.CommandActs.{IsCaller}

-- tables whose clients have read keys
abbrev pub with_clients : Tables → List Client → Tables
with_clients t cs = record t { clients = cs }

-- what a command did that passed its checks
pub record Did (t : Tables) (e : Entry) (g : Given) : Type 0 where
  pub clients : List Client
  pub same : SameClients t clients
  pub deed : Deed
  pub by : IsCaller (with_clients t clients) g.caller
  pub passes : first_fault t (checks t g.caller g.order) ≡ None
  pub does_it : does (with_clients t clients) g.caller g.order ≡ Ok deed
  pub acts : e.acts ≡ deed.acts ++ left_acts t.clients deed.tables.clients
  pub tables : OnlyRead (record deed.tables { acts = followed_by t.acts e.acts }) (after t e)

-- a step that did nothing
pub record Rests (t : Tables) (e : Entry) : Type 0 where
  pub acts : e.acts ≡ []
  pub tables : OnlyRead t (after t e)

abbrev pub Obeys : Tables → Entry → Type 0
Obeys t e = Rests t e ⊎ SomeOf (Did t e) (commands_of t e.event)

rests_refused : (t : Tables) (e : Entry) → ChangesNothing t e (after t e) → is_ok e.reply ≡ false → Rests t e
rests_refused t e nothing is = record
    { acts = (nothing is).1; tables = subst (λ u. OnlyRead t u) (sym (nothing is).0) (same_tables t) }

-- ---- a Command

line_by : (t : Tables) (user : UserId) (number : Option ℕ) → IsCaller t (line_caller t user number)
line_by t user number c is = absurd (cc (is))

passed : (o : Option Refusal) (a : Answer) → None ≡ refusal_in (elim o as (λ _. Answer) [ Some r ↦ Err r | None ↦ a ])
    → o ≡ None
passed None a is = refl
passed (Some r) a is = absurd (cc (is))

line_did : (t : Tables) (e : Entry) (done : Done) (user : UserId) (number : Option ℕ) (order : Order)
    → let g : Given = record { caller = line_caller t user number; order = order } in
    None ≡ refusal_in (ruling t g.caller g.order).answer → DidItsRow t e done g → Did t e g
line_did t e done user number order is did = record {
  clients = t.clients;
  same = refl;
  deed = did.deed;
  by = line_by t user number;
  passes = passed (first_fault t (checks t (line_caller t user number) order))
      (does t (line_caller t user number) order) is;
  does_it = did.does_it;
  acts = did.acts;
  tables = subst (λ u. OnlyRead (record did.deed.tables { acts = followed_by t.acts e.acts }) u) (sym did.tables)
      (same_tables (record did.deed.tables { acts = followed_by t.acts e.acts }));
}

line_known : (t : Tables) (e : Entry) (done : Done) (user : UserId) (number : Option ℕ) (known : Bool)
    (r : Result Order ParseFault)
    → let k : Caller = line_caller t user number in
    None ≡
    (if known then elim r as (λ _. Option Refusal)
    [ Err f ↦ Some (Line f) | Ok order ↦ refusal_in (ruling t k order).answer ] else Some UnknownUser)
    → SomeOf (DidItsRow t e done) (if known then with_order k (ok_of r) else [])
    → SomeOf (Did t e) (if known then with_order k (ok_of r) else [])
line_known t e done user number false r is some = some
line_known t e done user number true (Err f) is some = some
line_known t e done user number true (Ok order) is (inl did) = inl (line_did t e done user number order is did)
line_known t e done user number true (Ok order) is (inr none) = inr none

line_obeys : (t : Tables) (e : Entry) (user : UserId) (number : Option ℕ) (bytes : List ℕ) (reply : Reply)
    → e.reply ≡ reply → ChangesNothing t e (after t e)
    → refusal_in reply ≡ why_refused t user number bytes → LineDidItsRow t e (Command user number bytes) reply
    → Rests t e ⊎ SomeOf (Did t e) (commands_of t (Command user number bytes))
line_obeys t e user number bytes (Err r) is nothing why did = inl (rests_refused t e nothing (ap is_ok is))
line_obeys t e user number bytes (Ok done) is nothing why did = inr
    (line_known t e done user number (is_known t user) (read_line bytes) why did)

-- ---- keys

row_read : (cs ds : List Client) (s : ℕ) (c d : Client) → map unread cs ≡ map unread ds
    → row_of (λ (x : Client). x.serial) cs s ≡ Some d → row_of (λ (x : Client). x.serial) ds s ≡ Some c
    → unread d ≡ unread c
row_read [] ds s c d same at was = absurd (cc (at))
row_read (x ∷ cs) [] s c d same at was = absurd (cc (was))
row_read (x ∷ cs) (y ∷ ds) s c d same at was =
    let heads : unread x ≡ unread y = cc (same) in
    let tails : map unread cs ≡ map unread ds = cc (same) in
    let serials : x.serial ≡ y.serial = ap (λ (z : Client). z.serial) heads in
    on (x.serial == s) (y.serial == s) (ap (λ n. n == s) serials) heads at was (row_read cs ds s c d tails) where
      on : (a b : Bool) → a ≡ b → unread x ≡ unread y
          → (if a then Some x else row_of (λ (z : Client). z.serial) cs s) ≡ Some d
          → (if b then Some y else row_of (λ (z : Client). z.serial) ds s) ≡ Some c
          → (row_of (λ (z : Client). z.serial) cs s ≡ Some d → row_of (λ (z : Client). z.serial) ds s ≡ Some c
          → unread d ≡ unread c) → unread d ≡ unread c
      on true true is heads at was more = let e : x ≡ d = cc (at) in let f : y ≡ c = cc (was) in ap unread (sym e)
          ∙ heads ∙ ap unread f
      on false false is heads at was more = more at was
      on true false is heads at was more = absurd (cc (is))
      on false true is heads at was more = absurd (cc (is))

module _ (t : Tables) (e : Entry) (client : ℕ) (bytes : List ℕ) (c : Client) (at : client_at t client ≡ Some c)
    (at_own : client_at t c.serial ≡ Some c) where
  abbrev own : Caller
  own = caller_of t c

  keys_by : (cs : List Client) → SameClients t cs → IsCaller (with_clients t cs) own
  keys_by cs same d is = ap (λ (x : Client). x.user) (row_read cs t.clients c.serial c d same is at_own)

  abbrev before : Deed
  before = typing t c bytes

  typed_read : OnlyRead t before.tables
  typed_read =
      typing_clients (λ v. OnlyRead t v) t client c (reading (take (taken c.keys bytes) bytes) c)
      (typed_bytes (step_items c bytes)) at refl refl
      (λ cs same. record {
        owner = refl;
        edition = refl;
        acts = refl;
        multiuser = refl;
        windows = refl;
        clients = same;
        next_window =
            refl;
        next_client = refl;
      })

  -- if nothing was done but what was typed and said
  calm : (v : Tables) → OnlyRead t v → e.acts ≡ [] → after t e ≡ record v { acts = followed_by t.acts e.acts }
      → Rests t e
  calm v r none is = record {
    acts = none;
    tables = subst (λ u. OnlyRead t u) (sym is)
        (record {
          owner = r.owner;
          edition = r.edition;
          acts = ap (followed_by t.acts) none;
          multiuser = r.multiuser;
          windows =
              r.windows;
          clients = r.clients;
          next_window = r.next_window;
          next_client = r.next_client;
        });
  }

  refused_rests : (r : Refusal) → WasRefusedByKeys t e c before r → Rests t e
  refused_rests r w = calm (told before.tables c.serial (Text (text_of r)))
      (told_read t before.tables c.serial (Text (text_of r)) typed_read) w.acts w.tables

  alone_rests : WasTypedAlone t e before → Rests t e
  alone_rests w = calm before.tables typed_read w.acts w.tables

  heard_read : (v : Tables) (order : Order) (o : Option (List ℕ)) → OnlyRead v (heard c.serial order o v)
  heard_read v order None = same_tables v
  heard_read v order (Some text) = told_read v v c.serial (Rattle.session_model.specs.Answering.message_of order text)
      (same_tables v)

  did_by : (cs : List Client) (order : Order) (d : Deed) → SameClients t cs → first_fault t (checks t own order) ≡ None
      → does (with_clients t cs) own order ≡ Ok d
      → DidItsRowByKeys t e c before (record { caller = own; order = order }) d
      → Did t e (record { caller = own; order = order })
  did_by cs order d same passes is did =
      let r : OnlyRead d.tables (heard c.serial order d.lists d.tables) = heard_read d.tables order d.lists in record {
        clients = cs;
        same = same;
        deed = d;
        by = keys_by cs same;
        passes = passes;
        does_it = is;
        acts = did.acts;
        tables = subst (λ u. OnlyRead (record d.tables { acts = followed_by t.acts e.acts }) u) (sym did.tables)
            (record {
              owner = r.owner;
              edition = r.edition;
              acts = refl;
              multiuser = r.multiuser;
              windows = r.windows;
              clients = r.clients;
              next_window = r.next_window;
              next_client = r.next_client;
            });
      }

  abbrev Result_of : Order → Type 0
  Result_of order = Rests t e ⊎ (Did t e (record { caller = own; order = order }) ⊎ ⊥)

  by_order : (cs : List Client) (order : Order) → SameClients t cs → (o : Option Refusal)
      → first_fault t (checks t own order) ≡ o → (a : Answer) → does (with_clients t cs) own order ≡ a
      → IsAnswered t e c before (record { caller = own; order = order })
      (elim o as (λ _. Answer) [ Some r ↦ Err r | None ↦ a ]) → Result_of order
  by_order cs order same (Some r) passes a is answered = inl (refused_rests r answered)
  by_order cs order same None passes (Err r) is answered = inl (refused_rests r answered)
  by_order cs order same None passes (Ok d) is answered = inr (inl (did_by cs order d same passes is answered))

  abbrev Answered : Tables → List Given → Type 0
  Answered v gs = AllByRecursion (λ g. IsAnswered t e c before g (ruling v g.caller g.order).answer) gs

  by_item : (item : Option Item) → Answered before.tables (with_order own (order_in item))
      → IsNoCommand t e c before item → Rests t e ⊎ SomeOf (Did t e) (with_order own (order_in item))
  by_item None all none = inl (alone_rests none)
  by_item (Some (typed b)) all none = inl (alone_rests none)
  by_item (Some (bound order)) all none =
      typing_clients (λ v. Answered v (with_order own (Some order)) → Result_of order) t client c
      (reading (take (taken c.keys bytes) bytes) c) (typed_bytes (step_items c bytes)) at refl refl
      (λ cs same answered. by_order cs order same (first_fault t (checks t own order)) refl
      (does (with_clients t cs) own order) refl answered.0) all
  by_item (Some (line [])) all none = inl (alone_rests none)
  by_item (Some (line (b ∷ bs))) all none = on (read_line (b ∷ bs)) all none where
    on : (r : Result Order ParseFault) → Answered before.tables (with_order own (ok_of r))
        → elim r as (λ _. Type 0) [ Ok order ↦ Unit {0} | Err f ↦ WasRefusedByKeys t e c before (Line f) ]
        → Rests t e ⊎ SomeOf (Did t e) (with_order own (ok_of r))
    on (Err f) all none = inl (refused_rests (Line f) none)
    on (Ok order) all none =
        typing_clients (λ v. Answered v (with_order own (Some order)) → Result_of order) t client c
        (reading (take (taken c.keys bytes) bytes) c) (typed_bytes (step_items c bytes)) at refl refl
        (λ cs same answered. by_order cs order same (first_fault t (checks t own order)) refl
        (does (with_clients t cs) own order) refl answered.0) all

  keys_did : AllByRecursion (λ g. IsAnswered t e c before g (ruling before.tables g.caller g.order).answer)
      (commands_of t (Keys client bytes)) → IsNoCommand t e c before (command_item (step_items c bytes))
      → Rests t e ⊎ SomeOf (Did t e) (commands_of t (Keys client bytes))
  keys_did all none =
      let given : commands_of t (Keys client bytes) ≡ with_order own (order_in (command_item (step_items c bytes))) =
      keys_given t client bytes c at in
      subst (λ gs. Rests t e ⊎ SomeOf (Did t e) gs) (sym given)
      (by_item (command_item (step_items c bytes)) (subst (λ gs. Answered before.tables gs) given all) none)

module _ (t : Tables) (reply : Reply) (acts : List Act) (vs : List Verdict) (effects : List Effect) where
  abbrev entry : EventValue → Entry
  entry event = record { event = event; reply = reply; acts = acts; verdicts = vs; effects = effects }

  pub keys_obeys : (client : ℕ) (bytes : List ℕ)
      → ChangesNothing t (entry (Keys client bytes)) (after t (entry (Keys client bytes)))
      → reply ≡ (outcome t (Keys client bytes)).reply
      → KeysDidTheirRow t (entry (Keys client bytes)) (Keys client bytes) → Obeys t (entry (Keys client bytes))
  keys_obeys client bytes nothing answers did = on (client_at t client) refl where
    e : Entry
    e = entry (Keys client bytes)

    on : (o : Option Client) → client_at t client ≡ o → Obeys t e
    on None is = inl
        (rests_refused t e nothing
        (ap is_ok
        (answers
        ∙ ap
        (λ o.
        (elim o as (λ _. Outcome)
        [ None ↦ refused t [] NoWindow | Some x ↦ keys_outcome t x (take (taken x.keys bytes) bytes) ]).reply) is)))
    on (Some c) is =
        let all : KeysAreAnswered t e c bytes = did c is in
        keys_did t e client bytes c is (Rattle.session_laws.proofs.Unread.row_at t client c is) all.command
        all.no_command

  pub command_obeys : (user : UserId) (number : Option ℕ) (bytes : List ℕ)
      → let e : Entry = entry (Command user number bytes) in ChangesNothing t e (after t e)
      → refusal_in reply ≡ why_refused t user number bytes
      → LineDidItsRow t e (Command user number bytes) reply → Obeys t e
  command_obeys user number bytes nothing why did = line_obeys t (entry (Command user number bytes)) user number bytes
      reply refl nothing why did
