-- What a step files has only acts that its event can have.
use Rattle.hub_trail.proofs.Vocabulary.{◌≡◌, ℕ, Bool, true, false, not, List, [], ◌∷◌, ◌++◌, Option, Some, None, Result}
use Rattle.hub_trail.proofs.Vocabulary.{Ok, Err, refl, ap, sym, ◌∙◌, subst, inl, inr, map, filter, take, if◌then◌else◌}
use Rattle.hub_trail.proofs.Vocabulary.{◌==◌, ◌&&◌, AllByRecursion, list_all, option_map_or, UserId, Act, Execute}
use Rattle.hub_trail.proofs.Vocabulary.{CommandName, History, same_user, same_user-refl, ParseFault, name_of, Item}
use Rattle.hub_trail.proofs.Vocabulary.{typed, bound, line, Effect, NoWindow, UnknownUser, Verdict, EventValue, Attach}
use Rattle.hub_trail.proofs.Vocabulary.{Detach, Keys, Command, Open, Closed, Reply, AreFit, Window, Client, Tables}
use Rattle.hub_trail.proofs.Vocabulary.{window_at, client_at, focused, is_known, may_in, Caller, caller_of, line_caller}
use Rattle.hub_trail.proofs.Vocabulary.{verdicts, first_fault, checks, Deed, Answer, parts, closes, entering}
use Rattle.hub_trail.proofs.Vocabulary.{without_windows, does, step_items, typed_bytes, command_item, taken, Outcome}
use Rattle.hub_trail.proofs.Vocabulary.{finished, refused, left_acts, reply_of, done, outcome, attach_checks, attaches}
use Rattle.hub_trail.proofs.Vocabulary.{new_client, open_checks, opens, new_window, answered, commanded, line_ruling}
use Rattle.hub_trail.proofs.Vocabulary.{keys_outcome, ordered, reading, types, Given, commands_of, with_order, order_in}
use Rattle.hub_trail.proofs.Vocabulary.{ok_of, SomeOf, IsStep, equal, itself, both_true, row_serial, all_weaken}
use Rattle.hub_trail.proofs.Vocabulary.{all_append, all_map, all_passed, all_of, none_left, Either, Did, Obeys}
use Rattle.hub_trail.proofs.Vocabulary.{with_clients, IsMine, obeys_of, Kept, Entry, AsksFirst, from_command}
use Rattle.hub_trail.proofs.Vocabulary.{is_client_of, kept_of, ending_of, entry_of, makes, LeftBy, left_where, parted}
use Rattle.acl.specs.declared.act.Act.TheVariants as act
use Rattle.acl.specs.declared.act.Object.TheVariants as object
use Rattle.command_lang.specs.declared.command.Command.{Command as Order}
use Rattle.session.specs.event.Reason.TheVariants as reason
use Rattle.session.specs.refusal.Verdict.TheVariants.{Right as right}
use Rattle.session.specs.Trace as trace
use Rattle.session.specs.Lines.{read_line}
use Rattle.session.specs.Commands.{ruling}
use Rattle.session.specs.Keeps.{KeepsPromise}
use Rattle.session.proofs.Outcomes as outcomes
use Rattle.session.proofs.Callers.{Own, IsOf, callers, unique, own_read}
use Rattle.hub_trail.specs.declared.kept.Kept.TheVariants as kept
use Rattle.hub_trail.specs.Legal.{Fits}
use Rattle.hub_trail.proofs.Answered.{entry}
use Rattle.hub_trail.proofs.Entries.{asks_none}
use Rattle.hub_trail.proofs.Sights.{attached}
use Rattle.hub_trail.specs.Fitting.{made_by, enters_once, attaches_one, opens_one, detaches, shuts}
use Rattle.session.proofs.GuestsLeaving.{nobody, appended, shut, left_read}
use Rattle.hub_trail.proofs.Below.{below}
use Rattle.hub_trail.proofs.Making.{Fine, fine}

abbrev pub EntryFits : History → Entry → Type 0
EntryFits h e = Fits h e.event e.reply e.verdicts e.acts

all_true : {A : Type 0} (p : A → Bool) (xs : List A) → AllByRecursion (λ x. p x ≡ true) xs → list_all p xs ≡ true
all_true p [] all = refl
all_true p (x ∷ xs) all = both_true (p x) (list_all p xs) all.0 (all_true p xs all.1)

-- ---- the command that verdicts ask for

made_from : (client : Option ℕ) (user : UserId) (name : CommandName) (vs : List Verdict) (acts : List Act)
    → AsksFirst user name vs → AllByRecursion (λ a. makes client user name a ≡ true) acts
    → made_by client vs acts ≡ true
made_from client user name [] acts asks all = absurd asks
made_from client user name (v ∷ vs) acts asks all =
    ap (λ x. made_by client (x ∷ vs) acts) asks.1 ∙ all_true (makes client user name) acts all

made_none : (client : Option ℕ) (vs : List Verdict) → made_by client vs [] ≡ true
made_none client [] = refl
made_none client (right user Execute (object.Command c) answer ∷ vs) = refl
made_none client (v ∷ vs) = refl

abbrev Asks : List Verdict → Given → Type 0
Asks vs g = AsksFirst g.caller.user (name_of g.order) (from_command vs)

asks_first : (t : Tables) (k : Caller) (c : Order) → Asks (verdicts t (checks t k c)) (record { caller = k; order = c })
asks_first t k c = (may_in t k.user Execute (object.Command (name_of c)), refl)

answered_verdicts : (t : Tables) (vs : List Verdict) (a : Answer) → vs ≡ (answered t vs a).verdicts
answered_verdicts t vs (Err r) = refl
answered_verdicts t vs (Ok d) = refl

line_asks : (t : Tables) (k : Caller) (r : Result Order ParseFault)
    → AllByRecursion (Asks (commanded t (line_ruling t k r)).verdicts) (with_order k (ok_of r))
line_asks t k (Err f) = tt
line_asks t k (Ok c) = (
  subst (λ vs. Asks vs (record { caller = k; order = c }))
      (answered_verdicts t (verdicts t (checks t k c)) (ruling t k c).answer) (asks_first t k c),
  tt,
)

item_asks : (t v : Tables) (c : Client) (d : Client) → d.user ≡ c.user → (item : Option Item)
    → AllByRecursion (Asks (ordered v d item).verdicts) (with_order (caller_of t c) (order_in item))
item_asks t v c d same None = tt
item_asks t v c d same (Some (typed b)) = tt
item_asks t v c d same (Some (bound order)) = (
  (
    may_in v d.user Execute (object.Command (name_of order)),
    ap
        (λ u. right u Execute (object.Command (name_of order))
        (may_in v d.user Execute (object.Command (name_of order))))
        same,
  ),
  tt,
)
item_asks t v c d same (Some (line [])) = tt
item_asks t v c d same (Some (line (b ∷ bytes))) = on (read_line (b ∷ bytes)) where
  on : (r : Result Order ParseFault)
      → AllByRecursion (Asks (Rattle.session.specs.Answering.by_line v d r).verdicts)
      (with_order (caller_of t c) (ok_of r))
  on (Err f) = tt
  on (Ok order) = (
    (
      may_in v d.user Execute (object.Command (name_of order)),
      ap
          (λ u. right u Execute (object.Command (name_of order))
          (may_in v d.user Execute (object.Command (name_of order))))
          same,
    ),
    tt,
  )

keys_ask : (t : Tables) (c : Client) (bytes : List ℕ)
    → AllByRecursion (Asks (keys_outcome t c (take (taken c.keys bytes) bytes)).verdicts)
    (with_order (caller_of t c) (order_in (command_item (step_items c bytes))))
keys_ask t c bytes =
    let d : Client = reading (take (taken c.keys bytes) bytes) c in
    let v : Tables =
    (types (Rattle.session.specs.Tables.with_client t d) d (typed_bytes (step_items c bytes))).tables in
    let gs : List Given = with_order (caller_of t c) (order_in (command_item (step_items c bytes))) in
    let order : List Verdict = (ordered v d (command_item (step_items c bytes))).verdicts in
    subst (λ vs. AllByRecursion (λ (g : Given). AsksFirst g.caller.user (name_of g.order) vs) gs)
    (sym (asks_none t c (typed_bytes (step_items c bytes)) order))
    (item_asks t v c d refl (command_item (step_items c bytes)))

asks : (t : Tables) (event : EventValue) → AllByRecursion (Asks (outcome t event).verdicts) (commands_of t event)
asks t (Command user number bytes) = on (is_known t user) where
  on : (b : Bool)
      → AllByRecursion (Asks (if b then commanded t (line_ruling t (line_caller t user number) (read_line bytes))
      else refused t [] UnknownUser).verdicts)
      (if b then with_order (line_caller t user number) (ok_of (read_line bytes)) else [])
  on true = line_asks t (line_caller t user number) (read_line bytes)
  on false = tt
asks t (Keys client bytes) = on (client_at t client) where
  on : (o : Option Client)
      → AllByRecursion (Asks (elim o as (λ _. Outcome)
      [ None ↦ refused t [] NoWindow | Some c ↦ keys_outcome t c (take (taken c.keys bytes) bytes) ]).verdicts)
      (option_map_or (λ c. with_order (caller_of t c) (order_in (command_item (step_items c bytes)))) o [])
  on None = tt
  on (Some c) = keys_ask t c bytes
asks t event = tt

-- the client that gives a command
abbrev giving : EventValue → Option ℕ
giving (Keys client bytes) = Some client
giving event = None

order_client : (k : Caller) (o : Option Order) (client : Option ℕ) → k.client ≡ client
    → AllByRecursion (λ (g : Given). g.caller.client ≡ client) (with_order k o)
order_client k None client is = tt
order_client k (Some c) client is = (is, tt)

gives_client : (t : Tables) (event : EventValue)
    → AllByRecursion (λ (g : Given). g.caller.client ≡ giving event) (commands_of t event)
gives_client t (Command user number bytes) = on (is_known t user) where
  on : (b : Bool)
      → AllByRecursion (λ (g : Given). g.caller.client ≡ None)
      (if b then with_order (line_caller t user number) (ok_of (read_line bytes)) else [])
  on true = order_client (line_caller t user number) (ok_of (read_line bytes)) None refl
  on false = tt
gives_client t (Keys client bytes) = on (client_at t client) refl where
  on : (o : Option Client) → client_at t client ≡ o
      → AllByRecursion (λ (g : Given). g.caller.client ≡ Some client)
      (option_map_or (λ c. with_order (caller_of t c) (order_in (command_item (step_items c bytes)))) o [])
  on None is = tt
  on (Some c) is = order_client (caller_of t c) (order_in (command_item (step_items c bytes))) (Some client)
      (ap Some (row_serial (λ (d : Client). d.serial) t.clients client c is))
gives_client t event = tt

-- ---- what a command did

deed_of : (P : Deed → Type 0) (a : Answer) (d : Deed) → a ≡ Ok d → Either P a → P d
deed_of P (Ok e) d is p = let same : e ≡ d = cc (is) in subst P same p
deed_of P (Err r) d is p = absurd (cc (is))

did_made : (t : Tables) (e : trace.Entry) (g : Given) → AreFit t → IsOf t g.caller → Did t e g
    → AllByRecursion (λ a. makes g.caller.client g.caller.user (name_of g.order) a ≡ true) e.acts
did_made t e g fit of d =
    subst (AllByRecursion Made) (sym (d.acts ∙ ap (λ left. d.deed.acts ++ left)
    (left_read t.clients d.clients d.deed.tables.clients d.same)))
    (deed_of (Fine v g.caller d.by mine g.order) (does v g.caller g.order) d.deed d.does_it
    (fine v g.caller d.by mine g.order)) where
      v : Tables
      v = with_clients t d.clients

      Made : Act → Type 0
      Made a = makes g.caller.client g.caller.user (name_of g.order) a ≡ true

      mine : IsMine (with_clients t d.clients) g.caller
      mine s at =
          let r = of s at in
          own_read t d.clients s g.caller.user d.same
          (subst (λ u. AllByRecursion (Own s u) t.clients) r.2
          (unique t.clients t.next_client s r.0 fit.sound.clients_rise r.1))

some_made : (t : Tables) (e : trace.Entry) (client : Option ℕ) (vs : List Verdict) (gs : List Given) → AreFit t
    → AllByRecursion (λ (g : Given). IsOf t g.caller) gs → AllByRecursion (λ (g : Given). g.caller.client ≡ client) gs
    → AllByRecursion (Asks vs) gs → SomeOf (Did t e) gs → made_by client (from_command vs) e.acts ≡ true
some_made t e client vs [] fit ofs clients asked some = absurd some
some_made t e client vs (g ∷ gs) fit ofs clients asked (inl d) =
    made_from client g.caller.user (name_of g.order) (from_command vs) e.acts asked.0
    (subst (λ n. AllByRecursion (λ a. makes n g.caller.user (name_of g.order) a ≡ true) e.acts) clients.0
    (did_made t e g fit ofs.0 d))
some_made t e client vs (g ∷ gs) fit ofs clients asked (inr later) =
    some_made t e client vs gs fit ofs.1 clients.1 asked.1 later

obeys_made : (t : Tables) (e : trace.Entry) → AreFit t → IsStep t e → Obeys t e
    → made_by (giving e.event) (from_command e.verdicts) e.acts ≡ true
obeys_made t e fit step (inl rests) = ap (made_by (giving e.event) (from_command e.verdicts)) rests.acts
    ∙ made_none (giving e.event) (from_command e.verdicts)
obeys_made t e fit step (inr some) =
    some_made t e (giving e.event) e.verdicts (commands_of t e.event) fit (callers t e.event) (gives_client t e.event)
    (subst (λ vs. AllByRecursion (Asks vs) (commands_of t e.event)) (sym step.verdicts) (asks t e.event)) some

-- ---- the other events

abbrev FitsIn : Tables → Kept → Outcome → Type 0
FitsIn t k o = EntryFits t.acts (entry k o)

attached_one : (client : ℕ) (user : UserId) (o : Option ℕ) (left : List Act) → left ≡ []
    → attaches_one client user ((act.Attached client user ∷ entering user o) ++ left) ≡ true
attached_one client user o left none =
    ap (λ acts. attaches_one client user ((act.Attached client user ∷ entering user o) ++ acts)) none ∙ on o where
      enters : (o : Option ℕ) → enters_once user (entering user o ++ []) ≡ true
      enters None = refl
      enters (Some w) = same_user-refl user

      on : (o : Option ℕ) → attaches_one client user ((act.Attached client user ∷ entering user o) ++ []) ≡ true
      on o = both_true ((client == client) && same_user user user) (enters_once user (entering user o ++ []))
          (both_true (client == client) (same_user user user) (itself client) (same_user-refl user)) (enters o)

attach_fits : (t : Tables) (user : UserId) (rows columns : ℕ)
    → FitsIn t (kept.Attach user rows columns) (outcome t (Attach user rows columns))
attach_fits t user rows columns =
    let c : Client = new_client t user rows columns in
    outcomes.passed (FitsIn t (kept.Attach user rows columns)) t (verdicts t (attach_checks t user rows columns))
    (first_fault t (attach_checks t user rows columns)) (reply_of 0 t.next_client 0 None) (attaches t c)
    (λ r is. refl)
    (λ is. attached_one t.next_client user (focused c) (left_acts t.clients (t.clients ++ c ∷ []))
    (nobody (left_acts t.clients (t.clients ++ c ∷ []))
    (left_where (λ u w. ⊥) t.clients (t.clients ++ c ∷ []) (appended t.clients (c ∷ [])))))

open_fits : (t : Tables) (user : UserId) (rows columns keep : ℕ) (title : List ℕ)
    → FitsIn t (kept.Open user rows columns keep title) (outcome t (Open user rows columns keep title))
open_fits t user rows columns keep title =
    let w : Window = new_window t rows columns keep title in
    outcomes.passed (FitsIn t (kept.Open user rows columns keep title)) t
    (verdicts t (open_checks t user rows columns keep title))
    (first_fault t (open_checks t user rows columns keep title)) (reply_of 0 w.serial w.number None)
    (opens t user w)
    (λ r is. refl)
    (λ is. ap (λ acts. opens_one t.next_window user (act.Opened user t.next_window ∷ acts)) (none_left t.clients)
    ∙ both_true (t.next_window == t.next_window) (same_user user user) (itself t.next_window) (same_user-refl user))

detach_fits : (t : Tables) (client : ℕ) → AreFit t → FitsIn t (kept.Detach client) (outcome t (Detach client))
detach_fits t client fit =
    outcomes.found (FitsIn t (kept.Detach client)) t
    (λ c. finished t [] done (parts (λ d. d.serial == client) reason.Detached t)) (client_at t client) refl
    (λ c at. all_true (detaches (is_client_of t.acts client) client) _
    (all_append Fit (map (λ (d : Client). act.Parted d.serial) (filter (λ (d : Client). d.serial == client) t.clients))
    (left_acts t.clients rest)
    (all_map Fit (λ (d : Client). act.Parted d.serial) (filter (λ (d : Client). d.serial == client) t.clients)
    (all_passed (λ (d : Client). (d.serial == client) ≡ true) (λ (d : Client). d.serial == client) t.clients
    (all_of (λ (d : Client). (d.serial == client) ≡ true → (d.serial == client) ≡ true) t.clients (λ d goes. goes))))
    (all_weaken (LeftBy His) Fit (left_acts t.clients rest) as_fit
    (left_where His t.clients rest (parted His (λ d. d.serial == client) t.clients
    (all_weaken (Own client c.user) (λ (d : Client). (d.serial == client) ≡ true → (w : ℕ) → His d.user w) t.clients
    (λ d own here w. ap (is_client_of t.acts client) (own here) ∙ attached t client c fit.agree at)
    (unique t.clients t.next_client client c fit.sound.clients_rise at))))))) where
      Fit : Act → Type 0
      Fit a = detaches (is_client_of t.acts client) client a ≡ true

      His : UserId → ℕ → Type 0
      His u w = is_client_of t.acts client u ≡ true

      rest : List Client
      rest = filter (λ (d : Client). not (d.serial == client)) t.clients

      as_fit : (a : Act) → LeftBy His a → Fit a
      as_fit (act.Left u w) is = is
      as_fit a is = absurd is

closed_fits : (t : Tables) (window : ℕ) → FitsIn t (kept.Closed window) (outcome t (Closed window))
closed_fits t window =
    outcomes.found (FitsIn t (kept.Closed window)) t
    (λ w. finished t [] done (closes (λ v. v.serial == window) reason.Detached t)) (window_at t window) refl
    (λ w at. all_true (shuts window) _
    (all_append Fit (map (λ (v : Window). act.Closed v.serial) gone)
    (left_acts t.clients (without_windows gone t.clients))
    (all_map Fit (λ (v : Window). act.Closed v.serial) gone
    (all_passed (λ (v : Window). (v.serial == window) ≡ true) (λ (v : Window). v.serial == window) t.windows
    (all_of (λ (v : Window). (v.serial == window) ≡ true → (v.serial == window) ≡ true) t.windows (λ v goes. goes))))
    (all_weaken (LeftBy There) Fit (left_acts t.clients (without_windows gone t.clients)) as_fit
    (left_where There t.clients (without_windows gone t.clients) (shut window gone t.clients
    (all_passed (λ (v : Window). v.serial ≡ window) (λ (v : Window). v.serial == window) t.windows
    (all_of (λ (v : Window). (v.serial == window) ≡ true → v.serial ≡ window) t.windows
    (λ v goes. equal v.serial window goes)))))))) where
      Fit : Act → Type 0
      Fit a = shuts window a ≡ true

      There : UserId → ℕ → Type 0
      There u w = (w == window) ≡ true

      gone : List Window
      gone = filter (λ (v : Window). v.serial == window) t.windows

      as_fit : (a : Act) → LeftBy There a → Fit a
      as_fit (act.Left u w) is = is
      as_fit a is = absurd is

-- ---- every step

as_filed : (t : Tables) (k : Kept) (e : trace.Entry) → IsStep t e → FitsIn t k (outcome t e.event)
    → EntryFits t.acts (record { event = k; verdicts = e.verdicts; acts = e.acts; reply = ending_of e.reply })
as_filed t k e s fits =
    subst (λ (x : Entry). EntryFits t.acts x)
    (λ i. record { event = k; verdicts = sym s.verdicts i; acts = sym s.acts i; reply = ending_of (sym s.reply i) })
    fits

pub filed_fits : (t : Tables) (event : EventValue) (reply : Reply) (acts : List Act) (vs : List Verdict)
    (effects : List Effect) → AreFit t
    → let e : trace.Entry =
    record { event = event; reply = reply; acts = acts; verdicts = vs; effects = effects } in IsStep t e
    → AllByRecursion (EntryFits t.acts) (entry_of (kept_of event) e)
filed_fits t (Attach user rows columns) reply acts vs effects fit step =
    (as_filed t (kept.Attach user rows columns) _ step (attach_fits t user rows columns), tt)
filed_fits t (Detach client) reply acts vs effects fit step =
    (as_filed t (kept.Detach client) _ step (detach_fits t client fit), tt)
filed_fits t (Open user rows columns keep title) reply acts vs effects fit step =
    (as_filed t (kept.Open user rows columns keep title) _ step (open_fits t user rows columns keep title), tt)
filed_fits t (Closed window) reply acts vs effects fit step =
    (as_filed t (kept.Closed window) _ step (closed_fits t window), tt)
filed_fits t (Keys client bytes) (Ok y) acts vs effects fit step =
    let e : trace.Entry =
    record { event = Keys client bytes; reply = Ok y; acts = acts; verdicts = vs; effects = effects } in
    (obeys_made t e fit step (obeys_of below t e step refl), tt)
filed_fits t (Keys client bytes) (Err r) acts vs effects fit step =
    let e : trace.Entry =
    record { event = Keys client bytes; reply = Err r; acts = acts; verdicts = vs; effects = effects } in
    let promise : KeepsPromise t e = below.keep t e step in ((promise.refusals refl).1, tt)
filed_fits t (Command user number bytes) (Ok y) acts vs effects fit step =
    let e : trace.Entry =
    record { event = Command user number bytes; reply = Ok y; acts = acts; verdicts = vs; effects = effects } in
    (obeys_made t e fit step (obeys_of below t e step refl), tt)
filed_fits t (Command user number bytes) (Err r) acts vs effects fit step =
    let e : trace.Entry =
    record { event = Command user number bytes; reply = Err r; acts = acts; verdicts = vs; effects = effects } in
    let promise : KeepsPromise t e = below.keep t e step in ((promise.refusals refl).1, tt)
filed_fits t event reply acts vs effects fit step = tt
