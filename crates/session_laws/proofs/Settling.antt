-- Each event moves windows and clients as `Moves` says, unless it brings new ones.
use Rattle.session_laws.proofs.Vocabulary.{◌≡◌, ℕ, Bool, true, false, not, List, [], ◌∷◌, ◌++◌, Option, Some, None, Ok}
use Rattle.session_laws.proofs.Vocabulary.{Err, Result, refl, ap, sym, ◌∙◌, subst, map, filter, length, take, arith}
use Rattle.session_laws.proofs.Vocabulary.{append_assoc, if◌then◌else◌, ◌==◌, ◌||◌, option_and_then, Act, Order}
use Rattle.session_laws.proofs.Vocabulary.{ParseFault, Item, bound, line, StatusMessage, Text, Refusal, Verdict, Tables}
use Rattle.session_laws.proofs.Vocabulary.{Window, Client, row_of, window_at, client_at, with_client, focused}
use Rattle.session_laws.proofs.Vocabulary.{is_in_focus, with_number, text_of, Caller, caller_of, line_caller, read_line}
use Rattle.session_laws.proofs.Vocabulary.{checks, first_fault, verdicts, Deed, Answer, changing, parts, closes}
use Rattle.session_laws.proofs.Vocabulary.{hearing, does, typed_bytes, command_item, taken, step_items, left_acts_of}
use Rattle.session_laws.proofs.Vocabulary.{left_acts, finished, done, Outcome, reply_of, told, ordered, keyed}
use Rattle.session_laws.proofs.Vocabulary.{with_listed, message_of, reading, keys_outcome, outputs, Reply, unread}
use Rattle.session_laws.proofs.Vocabulary.{reads, Effect, EventValue, Attach, Open, terminal_of, input_of, outcome}
use Rattle.session_laws.proofs.Vocabulary.{AreSound, ◌≤◌, Keys, Command, Draw, drawn, drawn_on, row_serial, itself}
use Rattle.session_laws.proofs.Vocabulary.{equal}
use Rattle.acl.specs.declared.act.Act.TheVariants as act
use Rattle.terminal_model.specs.Writing as written
use Rattle.session_model.specs.declared.event.Reason.TheVariants as reason
use Rattle.session_model.specs.Answering as answering
use Rattle.session_laws.proofs.DifferentNumbers.{serial_of, Differ}
use Rattle.session_laws.proofs.Doing.{Either}
use Rattle.session_laws.proofs.Moving.{AllAside, Moves, DeedMoves, id_of, ids, serials, closed, parted, stays}
use Rattle.session_laws.proofs.Moving.{aside_append}
use Rattle.session_laws.proofs.CommandMoves.{client_ids, moves, only_parts, closes_moves, same_window, input_few}
use Rattle.session_laws.proofs.Unread.{SameClients, typing_clients, row_at}
use Rattle.session_laws.proofs.SoundMoves.{differ}
use Rattle.session_laws.proofs.Outcomes as outcomes

-- ---- leaving a window is an act aside

pub left_aside : (before after : List Client) → AllAside (left_acts before after)
left_aside [] after = tt
left_aside (c ∷ before) after = aside_append (left_acts_of c (focused c) before after) (left_acts before after)
    (one (focused c)) (left_aside before after) where
      one : (o : Option ℕ) → AllAside (left_acts_of c o before after)
      one None = tt
      one (Some w) = on (is_in_focus before c.user w || is_in_focus after c.user w) where
        on : (b : Bool) → AllAside (if b then [] else act.Left c.user w ∷ [])
        on true = tt
        on false = (refl, tt)

-- the outcome moves windows and clients
abbrev pub MovesTo : Tables → Outcome → Type 0
MovesTo t o = Moves t o.tables o.acts 0

pub finished_moves : (t : Tables) (d : Deed) (n : ℕ) (vs : List Verdict) (reply : Reply) → Moves t d.tables d.acts n
    → MovesTo t (finished t vs reply d)
finished_moves t d n vs reply m =
    let left : List Act = left_acts t.clients d.tables.clients in
    let first : List Act = closed (filter m.closing (serials t)) in
    let then_parted : List Act = parted (filter m.parting (ids t)) in record {
      closing = m.closing;
      parting = m.parting;
      others = m.others ++ left;
      aside = aside_append m.others left m.aside (left_aside t.clients d.tables.clients);
      acts_are = ap (λ acts. acts ++ left) m.acts_are ∙ append_assoc first (then_parted ++ m.others) left
          ∙ ap (λ acts. first ++ acts) (append_assoc then_parted m.others left);
      windows = m.windows;
      clients = m.clients;
      next_window = m.next_window;
      next_client = m.next_client;
      few = omega arith;
      numbers = m.numbers;
    }

pub still_moves : (t : Tables) → Moves t t [] 0
still_moves t = stays t t [] 0 tt refl refl refl refl (omega arith) (λ differ numbers. numbers)

-- ---- messages

pub told_same : (P : Tables → Type 0) (w : Tables) (client : ℕ) (m : StatusMessage) → P w
    → ((c : Client) → client_at w client ≡ Some c → P (with_client w (hearing m c))) → P (told w client m)
told_same P w client m here changed = on (client_at w client) refl where
  on : (o : Option Client) → client_at w client ≡ o
      → P (elim o as (λ _. Tables) [ None ↦ w | Some c ↦ with_client w (hearing m c) ])
  on None is = here
  on (Some c) is = changed c is

-- the clients at the end are the same
same_ids : (t u v : Tables) (acts : List Act) (n k : ℕ) → Moves t u acts n → serials v ≡ serials u
    → v.windows ≡ u.windows → ids v ≡ ids u → v.next_window ≡ u.next_window → v.next_client ≡ u.next_client
    → k ≡ 0 → Moves t v acts k
same_ids t u v acts n k m serial windows clients next_window next_client none = record {
  closing = m.closing;
  parting = m.parting;
  others = m.others;
  aside = m.aside;
  acts_are = m.acts_are;
  windows = serial ∙ m.windows;
  clients = clients ∙ m.clients;
  next_window = next_window ∙ m.next_window;
  next_client = next_client ∙ m.next_client;
  few = omega (arith, none);
  numbers = λ differ numbers. subst Rattle.session_model.specs.Sound.NumbersDiffer (sym windows)
      (m.numbers differ numbers);
}

told_moves : (t w : Tables) (acts : List Act) (n : ℕ) (client : ℕ) (m : StatusMessage) → Moves t w acts n
    → Moves t (told w client m) acts 0
told_moves t w acts n client m all =
    told_same (λ u. Moves t u acts 0) w client m (same_ids t w w acts n 0 all refl refl refl refl refl refl)
    (λ c is. same_ids t w (with_client w (hearing m c)) acts n 0 all refl refl
    (client_ids w c (hearing m c) (row_at w client c is) refl) refl refl refl)

-- ---- keys

keyed_moves : (v : Tables) (client : ℕ) (m : List ℕ → StatusMessage) (a : Answer) → Either (DeedMoves v) a
    → let d : Deed = keyed v client m a in Moves v d.tables d.acts 0
keyed_moves v client m (Err r) plain = told_moves v v [] 0 client (Text (text_of r)) (still_moves v)
keyed_moves v client m (Ok d) all = on d.lists where
  on : (o : Option (List ℕ)) → Moves v (with_listed client m o d).tables (with_listed client m o d).acts 0
  on None = same_ids v d.tables d.tables d.acts (length d.effects) 0 all refl refl refl refl refl refl
  on (Some bytes) = told_moves v d.tables d.acts (length d.effects) client (m bytes) all

ruled_moves : (v : Tables) (client : ℕ) (m : List ℕ → StatusMessage) (k : Caller) (c : Order) (o : Option Refusal)
    → ((w : Window) → k.window ≡ Some w → window_at v w.serial ≡ Some w)
    → let d : Deed = keyed v client m (elim o as (λ _. Answer) [ Some r ↦ Err r | None ↦ does v k c ]) in Moves v
    d.tables d.acts 0
ruled_moves v client m k c (Some r) row = told_moves v v [] 0 client (Text (text_of r)) (still_moves v)
ruled_moves v client m k c None row = keyed_moves v client m (does v k c) (moves v k row c)

pub focus_row : (t : Tables) (o : Option ℕ) (w : Window) → option_and_then (window_at t) o ≡ Some w
    → window_at t w.serial ≡ Some w
focus_row t None w is = absurd (cc (is))
focus_row t (Some s) w is = ap (window_at t) (row_serial serial_of t.windows s w is) ∙ is

order_moves : (v : Tables) (d : Client) (order : Order)
    → let e : Deed = (answering.by_line v d (Ok order)).deed in Moves v e.tables e.acts 0
order_moves v d order = ruled_moves v d.serial (message_of order) (caller_of v d) order
    (first_fault v (checks v (caller_of v d) order)) (focus_row v (focused d))

read_moves : (v : Tables) (d : Client) (r : Result Order ParseFault)
    → let e : Deed = (answering.by_line v d r).deed in Moves v e.tables e.acts 0
read_moves v d (Err f) = told_moves v v [] 0 d.serial _ (still_moves v)
read_moves v d (Ok order) = order_moves v d order

item_moves : (v : Tables) (d : Client) (item : Option Item)
    → let e : Deed = (ordered v d item).deed in Moves v e.tables e.acts 0
item_moves v d (Some (bound order)) = order_moves v d order
item_moves v d (Some (line (b ∷ bs))) = read_moves v d (read_line (b ∷ bs))
item_moves v d item = still_moves v

-- the clients at the beginning are the same
ids_unread : (cs : List Client) → map id_of cs ≡ map id_of (map unread cs)
ids_unread [] = refl
ids_unread (c ∷ cs) = ap (λ ps. id_of c ∷ ps) (ids_unread cs)

pub ids_same : (t : Tables) (cs : List Client) → SameClients t cs → map id_of cs ≡ ids t
ids_same t cs same = ids_unread cs ∙ ap (map id_of) same ∙ sym (ids_unread t.clients)

rebased : (t : Tables) (cs : List Client) (u : Tables) (acts : List Act) → map id_of cs ≡ ids t
    → Moves (record t { clients = cs }) u acts 0 → Moves t u acts 0
rebased t cs u acts same m = record {
  closing = m.closing;
  parting = m.parting;
  others = m.others;
  aside = m.aside;
  acts_are = m.acts_are
      ∙ ap (λ ps. closed (filter m.closing (serials t)) ++ (parted (filter m.parting ps) ++ m.others)) same;
  windows = m.windows;
  clients = m.clients ∙ ap (filter (λ p. not (m.parting p))) same;
  next_window = m.next_window;
  next_client = m.next_client;
  few = omega arith;
  numbers = m.numbers;
}

pub keys_moves : (t : Tables) (client : ℕ) (bytes : List ℕ) (c : Client) → client_at t client ≡ Some c
    → MovesTo t (keys_outcome t c (take (taken c.keys bytes) bytes))
keys_moves t client bytes c is =
    let read : List ℕ = take (taken c.keys bytes) bytes in
    let given : List Item = step_items c bytes in
    let d : Client = reading read c in
    typing_clients
    (λ v. MovesTo t (finished t [] done (record (ordered v d (command_item given)).deed { effects = [] }))) t client
    c d (typed_bytes given) is refl refl
    (λ cs same. finished_moves t
    (record (ordered (record t { clients = cs }) d (command_item given)).deed { effects = [] }) 0 [] done
    (rebased t cs (ordered (record t { clients = cs }) d (command_item given)).deed.tables
    (ordered (record t { clients = cs }) d (command_item given)).deed.acts (ids_same t cs same)
    (item_moves (record t { clients = cs }) d (command_item given))))

-- ---- commands by lines

number_row : (ws : List Window) (n : ℕ) (w : Window) → Differ ws → with_number ws n ≡ Some w
    → row_of serial_of ws w.serial ≡ Some w
number_row [] n w all is = absurd (cc (is))
number_row (r ∷ ws) n w all is = on (r.number == n) is (number_row ws n w all.1) where
  self : (m : ℕ) → (if m == m then Some r else row_of serial_of ws m) ≡ Some r
  self m = ap (λ (b : Bool). if b then Some r else row_of serial_of ws m) (itself m)

  later : (b : Bool) → (r.serial == w.serial) ≡ b → row_of serial_of ws w.serial ≡ Some w
      → (if b then Some r else row_of serial_of ws w.serial) ≡ Some w
  later true at found = absurd
      (let f : None ≡ Some w = sym all.0 ∙ ap (row_of serial_of ws) (equal r.serial w.serial at) ∙ found in cc (f))
  later false at found = found

  on : (b : Bool) → (if b then Some r else with_number ws n) ≡ Some w
      → (with_number ws n ≡ Some w → row_of serial_of ws w.serial ≡ Some w)
      → row_of serial_of (r ∷ ws) w.serial ≡ Some w
  on true is more = let e : r ≡ w = cc (is) in subst (λ (x : Window). row_of serial_of (r ∷ ws) x.serial ≡ Some x) e
      (self r.serial)
  on false is more = later (r.serial == w.serial) refl (more is)

pub line_row : (t : Tables) (number : Option ℕ) (w : Window) → Differ t.windows
    → option_and_then (with_number t.windows) number ≡ Some w → window_at t w.serial ≡ Some w
line_row t None w all is = absurd (cc (is))
line_row t (Some n) w all is = number_row t.windows n w all is

-- ---- all events but those that bring a new window or client

abbrev pub is_new : EventValue → Bool
is_new (Attach user rows columns) = true
is_new (Open user rows columns keep title) = true
is_new event = false

moved : (t : Tables) (event : EventValue) (o : Outcome) → outcomes.Happens t event o → AreSound t → is_new event ≡ false
    → MovesTo t o
moved t _ _ (outcomes.failed event vs r why) s other = still_moves t
moved t _ _ (outcomes.changed event x c is f at) s other =
    let u : Tables = with_client t (x.row c) in
    finished_moves t (changing u) 0 [] done
    (stays t u [] 0 tt refl (client_ids t c (x.row c) (row_at t x.client c at) (λ i. (f.serial c i, f.user c i))) refl
    refl (omega arith) (λ differ numbers. numbers))
moved t _ _ (outcomes.detached client c at) s other =
    finished_moves t (parts (λ d. d.serial == client) reason.Detached t) _ [] done
    (only_parts t (λ p. p.0 == client) reason.Detached)
moved t _ _ (outcomes.keyed client bytes c at) s other = keys_moves t client bytes c at
moved t _ _ (outcomes.obeyed user number bytes c d known read passes is) s other =
    let k : Caller = line_caller t user number in
    finished_moves t d _ (verdicts t (checks t k c)) (reply_of 0 0 0 d.lists)
    (subst (Either (DeedMoves t)) is
    (moves t k (λ w at. line_row t number w (differ t.windows t.next_window s.windows_rise) at) c))
moved t _ _ (outcomes.wrote window bytes v is) s other =
    let effects : List Effect = input_of v.serial (reads (terminal_of v) bytes).reports in
    finished_moves t (outputs t v bytes) (length effects) [] done
    (same_window t v (record v { writing = v.writing ++ written.Output bytes ∷ [] }) effects
    (input_few v.serial (reads (terminal_of v) bytes).reports (length (reads (terminal_of v) bytes).reports == 0))
    (ap (window_at t) (row_serial serial_of t.windows window v is) ∙ is) refl refl)
moved t _ _ (outcomes.closed window w at) s other =
    finished_moves t (closes (λ v. v.serial == window) reason.Detached t) _ [] done
    (closes_moves t (λ n. n == window) reason.Detached)
moved t _ _ (outcomes.drew client c at) s other = finished_moves t (changing t) 0 [] done (still_moves t)
moved t _ _ h s other = absurd (cc (other))

pub moving : (t : Tables) (event : EventValue) → AreSound t → is_new event ≡ false → MovesTo t (outcome t event)
moving t event s other = moved t event (outcome t event) (outcomes.happens t event) s other

-- ---- the next serials

-- they don't fall
abbrev pub Grown : Tables → Tables → Type 0
Grown t u = (t.next_window ≤ u.next_window) × (t.next_client ≤ u.next_client)

same_next : (a b : ℕ) → a ≡ b → b ≤ a
same_next a b is = omega (arith, is)

by_moves : (t : Tables) (o : Outcome) → MovesTo t o → Grown t o.tables
by_moves t o m = (same_next _ _ m.next_window, same_next _ _ m.next_client)

grown : (t : Tables) (event : EventValue) (o : Outcome) → outcomes.Happens t event o → AreSound t → Grown t o.tables
grown t _ _ (outcomes.keyed client bytes c at) s = by_moves t (keys_outcome t c (take (taken c.keys bytes) bytes))
    (moved t (Keys client bytes) _ (outcomes.keyed client bytes c at) s refl)
grown t _ _ (outcomes.obeyed user number bytes c d known read passes is) s = by_moves t
    (finished t (verdicts t (checks t (line_caller t user number) c)) (reply_of 0 0 0 d.lists) d)
    (moved t (Command user number bytes) _ (outcomes.obeyed user number bytes c d known read passes is) s refl)
grown t _ _ h s = (omega arith, omega arith)

drawn_grown : (t u : Tables) (o : Option Client) (effects : List Effect) → Grown t u → Grown t (drawn_on o effects u)
drawn_grown t u None effects g = g
drawn_grown t u (Some c) effects g = g

pub after_grows : (t : Tables) (event : EventValue) (effects : List Effect) → AreSound t
    → Grown t (drawn event effects (outcome t event).tables)
after_grows t (Draw client) effects s =
    let u : Tables = (outcome t (Draw client)).tables in
    drawn_grown t u (client_at u client) effects (grown t (Draw client) (outcome t (Draw client))
    (outcomes.happens t (Draw client)) s)
after_grows t event effects s = grown t event (outcome t event) (outcomes.happens t event) s
