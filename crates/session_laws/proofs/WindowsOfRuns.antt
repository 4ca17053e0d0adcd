-- The windows of a run have had exactly those writings that its entries say.
use Rattle.session_laws.proofs.Vocabulary.{◌≡◌, ℕ, ◌≤◌, Bool, true, false, not, List, [], ◌∷◌, ◌++◌, Option, Some, None}
use Rattle.session_laws.proofs.Vocabulary.{Ok, Err, Result, refl, ap, sym, ◌∙◌, subst, take, filter, inr, ⊎_elim, arith}
use Rattle.session_laws.proofs.Vocabulary.{if◌then◌else◌, ◌==◌, MatchOption, length, AllByRecursion, flat_map}
use Rattle.session_laws.proofs.Vocabulary.{option_map_or, Edition, UserId, Order, ParseFault, Item, bound, line, reads}
use Rattle.session_laws.proofs.Vocabulary.{Writing, Effect, Input, Deliver, StatusMessage, Text, Refusal, NoWindow}
use Rattle.session_laws.proofs.Vocabulary.{UnknownUser, Line, Verdict, EventValue, Detach, Keys, Command, Open, Output}
use Rattle.session_laws.proofs.Vocabulary.{Closed, Draw, Reply, Entry, Trace, Tables, Window, Client, fresh, window_at}
use Rattle.session_laws.proofs.Vocabulary.{client_at, with_client, focused, focused_window, is_known, text_of}
use Rattle.session_laws.proofs.Vocabulary.{terminal_of, Caller, caller_of, line_caller, read_line, checks, first_fault}
use Rattle.session_laws.proofs.Vocabulary.{verdicts, typing_checks, Deed, Answer, changing, parts, closes, does, taken}
use Rattle.session_laws.proofs.Vocabulary.{step_items, typed_bytes, command_item, outcome, Outcome, refused, finished}
use Rattle.session_laws.proofs.Vocabulary.{done, reply_of, open_checks, opens, new_window, outputs, reading, types}
use Rattle.session_laws.proofs.Vocabulary.{says, told, ordered, keyed, with_listed, message_of, unsaid, keys_outcome}
use Rattle.session_laws.proofs.Vocabulary.{commanded, line_ruling, answered, by_line, SomeOf, with_order, order_in}
use Rattle.session_laws.proofs.Vocabulary.{ok_of, HasEffects, IsDraw, DrawsWhereNeeded, drawn, drawn_on, after, IsStep}
use Rattle.session_laws.proofs.Vocabulary.{IsRun, IsRunFrom, tables_from, tables_of, AreSound, given_writing, sizes_of}
use Rattle.session_laws.proofs.Vocabulary.{step_writing, all_written, all_weaken, all_append, row_serial, itself}
use Rattle.session_laws.proofs.Vocabulary.{some_row, some_elim}
use Rattle.terminal_model.specs.Writing as written
use Rattle.session_model.specs.declared.event.Reason.TheVariants as reason
use Rattle.session_laws.proofs.Settling.{after_grows, told_same, focus_row, line_row}
use Rattle.session_laws.proofs.Inputs.{append_nil}
use Rattle.session_laws.proofs.DifferentNumbers.{serial_of}
use Rattle.session_laws.proofs.Doing.{Either}
use Rattle.session_laws.proofs.Unread.{typing_clients}
use Rattle.session_laws.proofs.SoundMoves.{differ}
use Rattle.session_laws.proofs.Asking.{keys_given}
use Rattle.session_laws.proofs.Sounding.{run_sound, fresh_sound}
use Rattle.session_laws.proofs.Showing.{some_has}
use Rattle.session_laws.proofs.CommandWritings.{GoesOn, Row, Wrote, alike, kept_same, kept_fewer, kept_wrote, row_wrote}
use Rattle.session_laws.proofs.CommandWritings.{sizes_append, sizes_unsaid, sizes_gone, sizes_closed, sizes_input}
use Rattle.session_laws.proofs.CommandWritings.{row_writing, HasWrote, wrote, refused_writes}
use Rattle.session_laws.proofs.Outcomes as outcomes

-- ---- answers of commands

-- what a command writes, by whether its checks passed
abbrev ruled_writing : Caller → Order → Option Refusal → ℕ → List Writing
ruled_writing k c o n = elim o as (λ _. List Writing) [ Some r ↦ [] | None ↦ row_writing k c n ] ++ []

module _ (t : Tables) (k : Caller) (c : Order) where
  refused_none : (r : Refusal) → does t k c ≡ Err r → (n : ℕ) → row_writing k c n ++ [] ≡ []
  refused_none r is n = append_nil (row_writing k c n) ∙ refused_writes t k c r n is

  line_answer : (vs : List Verdict) (a : Answer) → does t k c ≡ a → Either (HasWrote t k c) a
      → Wrote t (λ n. (row_writing k c n ++ []) ++ sizes_of (answered t vs a).effects n)
      (answered t vs a).tables.windows
  line_answer vs (Ok d) is all = alike t (λ n. row_writing k c n ++ sizes_of d.effects n) _ d.tables.windows
      (λ n. ap (λ ws. ws ++ sizes_of d.effects n) (append_nil (row_writing k c n))) all.all
  line_answer vs (Err r) is plain = kept_wrote t (λ n. (row_writing k c n ++ []) ++ []) t.windows
      (λ n. append_nil (row_writing k c n ++ []) ∙ refused_none r is n) (kept_same t.windows)

  line_ruled : (vs : List Verdict) (o : Option Refusal) → Either (HasWrote t k c) (does t k c)
      → let a : Answer = elim o as (λ _. Answer) [ Some r ↦ Err r | None ↦ does t k c ] in Wrote t
      (λ n. ruled_writing k c o n ++ sizes_of (answered t vs a).effects n) (answered t vs a).tables.windows
  line_ruled vs (Some r) all = kept_wrote t (λ n. []) t.windows (λ n. refl) (kept_same t.windows)
  line_ruled vs None all = line_answer vs (does t k c) refl all

line_wrote : (t : Tables) (user : UserId) (number : Option ℕ) (known : Bool) (r : Result Order ParseFault) → AreSound t
    → let k : Caller = line_caller t user number in let o : Outcome = if known then commanded t (line_ruling t k r) else
    refused t [] UnknownUser in
    Wrote t (λ n. flat_map (given_writing t n) (if known then with_order k (ok_of r) else []) ++ sizes_of o.effects n)
    o.tables.windows
line_wrote t user number false r s = kept_wrote t (λ n. []) t.windows (λ n. refl) (kept_same t.windows)
line_wrote t user number true (Err f) s = kept_wrote t (λ n. []) t.windows (λ n. refl) (kept_same t.windows)
line_wrote t user number true (Ok c) s =
    let k : Caller = line_caller t user number in
    line_ruled t k c (verdicts t (checks t k c)) (first_fault t (checks t k c))
    (wrote t k s.windows_rise (λ w at. line_row t number w (differ t.windows t.next_window s.windows_rise) at) c)

-- ---- keys

told_windows : (w : Tables) (client : ℕ) (m : StatusMessage) → (told w client m).windows ≡ w.windows
told_windows w client m = told_same (λ u. u.windows ≡ w.windows) w client m refl (λ c is. refl)

module _ (t : Tables) (c : Client) (read : List ℕ) (s : AreSound t) (cs : List Client) where
  abbrev v : Tables
  v = record t { clients = cs }

  abbrev InDeed : (ℕ → List Writing) → Deed → Type 0
  InDeed f d = Wrote t (λ n. f n ++ sizes_of d.effects n) d.tables.windows

  said_wrote : (f : ℕ → List Writing) (client : ℕ) (m : StatusMessage) (bytes : List ℕ) → ((n : ℕ) → f n ≡ [])
      → InDeed f (says v client m bytes)
  said_wrote f client m bytes none = subst (λ ws. Wrote t (λ n. f n ++ []) ws) (sym (told_windows v client m))
      (kept_wrote t (λ n. f n ++ []) t.windows (λ n. append_nil (f n) ∙ none n) (kept_same t.windows))

  module _ (k : Caller) (order : Order) where
    listed_wrote : (client : ℕ) (m : List ℕ → StatusMessage) (d : Deed) (o : Option (List ℕ)) → HasWrote v k order d
        → InDeed (λ n. row_writing k order n ++ []) (with_listed client m o d)
    listed_wrote client m d None h = alike t (λ n. row_writing k order n ++ sizes_of d.effects n)
        (λ n. (row_writing k order n ++ []) ++ sizes_of d.effects n) d.tables.windows
        (λ n. ap (λ ws. ws ++ sizes_of d.effects n) (append_nil (row_writing k order n)))
        (record { rows = h.all.rows; above = h.all.above })
    listed_wrote client m d (Some bytes) h =
        subst
        (λ ws. Wrote t
        (λ n. (row_writing k order n ++ []) ++ sizes_of (with_listed client m (Some bytes) d).effects n) ws)
        (sym (told_windows d.tables client (m bytes)))
        (alike t (λ n. row_writing k order n ++ sizes_of d.effects n)
        (λ n. (row_writing k order n ++ []) ++ sizes_of (with_listed client m (Some bytes) d).effects n)
        d.tables.windows
        (λ n. ap (λ ws. ws ++ sizes_of (with_listed client m (Some bytes) d).effects n)
        (append_nil (row_writing k order n))
        ∙ ap (λ ws. row_writing k order n ++ ws) (sizes_append d.effects _ n ∙ append_nil (sizes_of d.effects n)))
        (record { rows = h.all.rows; above = h.all.above }))

    keyed_wrote : (client : ℕ) (m : List ℕ → StatusMessage) (a : Answer) → does v k order ≡ a
        → Either (HasWrote v k order) a
        → InDeed (λ n. row_writing k order n ++ []) (keyed v client m a)
    keyed_wrote client m (Ok d) is h = listed_wrote client m d d.lists h
    keyed_wrote client m (Err r) is h = said_wrote (λ n. row_writing k order n ++ []) client (Text (text_of r))
        (text_of r) (λ n. refused_none v k order r is n)

    ruled_wrote : (client : ℕ) (m : List ℕ → StatusMessage) (o : Option Refusal)
        → Either (HasWrote v k order) (does v k order)
        → InDeed (ruled_writing k order o)
        (keyed v client m (elim o as (λ _. Answer) [ Some r ↦ Err r | None ↦ does v k order ]))
    ruled_wrote client m (Some r) h = said_wrote (λ n. []) client (Text (text_of r)) (text_of r) (λ n. refl)
    ruled_wrote client m None h = keyed_wrote client m (does v k order) refl h

  abbrev given : Option Order → ℕ → List Writing
  given o n = flat_map (given_writing t n) (with_order (caller_of t c) o)

  order_wrote : (order : Order) → InDeed (given (Some order)) (by_line v (reading read c) (Ok order)).deed
  order_wrote order = ruled_wrote (caller_of t c) order c.serial (message_of order)
      (first_fault t (checks t (caller_of t c) order))
      (wrote v (caller_of t c) s.windows_rise (focus_row t (focused c)) order)

  read_wrote : (r : Result Order ParseFault) → InDeed (given (ok_of r)) (by_line v (reading read c) r).deed
  read_wrote (Err f) = said_wrote (λ n. []) c.serial (Text (text_of (Line f))) (text_of (Line f)) (λ n. refl)
  read_wrote (Ok order) = order_wrote order

  item_wrote : (item : Option Item) → InDeed (given (order_in item)) (ordered v (reading read c) item).deed
  item_wrote (Some (bound order)) = order_wrote order
  item_wrote (Some (line (b ∷ bs))) = read_wrote (read_line (b ∷ bs))
  item_wrote item = kept_wrote t (λ n. []) t.windows (λ n. refl) (kept_same t.windows)

types_sizes : (u : Tables) (d : Client) (bs : List ℕ) (n : ℕ) → sizes_of (types u d bs).effects n ≡ []
types_sizes u d [] n = refl
types_sizes u d (b ∷ bs) n = on (first_fault u (typing_checks d.user (focused_window u d))) (focused_window u d) where
  on : (o : Option Refusal) (f : Option Window) → sizes_of (elim o as (λ _. Deed) [
    | Some r ↦ says u d.serial (Text (text_of r)) (text_of r)
    | None ↦ record (changing u) { effects = option_map_or (λ (w : Window). Input w.serial (b ∷ bs) ∷ []) f [] }
  ]).effects n ≡ []
  on (Some r) f = refl
  on None None = refl
  on None (Some w) = refl

keys_wrote : (t : Tables) (client : ℕ) (bytes : List ℕ) (c : Client) → client_at t client ≡ Some c → AreSound t
    → let o : Outcome = keys_outcome t c (take (taken c.keys bytes) bytes) in
    Wrote t
    (λ n. flat_map (given_writing t n) (with_order (caller_of t c) (order_in (command_item (step_items c bytes))))
    ++ sizes_of o.effects n) o.tables.windows
keys_wrote t client bytes c is s =
    let read : List ℕ = take (taken c.keys bytes) bytes in
    let d : Client = reading read c in
    let item : Option Item = command_item (step_items c bytes) in
    let before : Deed = types (with_client t d) d (typed_bytes (step_items c bytes)) in
    let given : ℕ → List Writing = λ n. flat_map (given_writing t n) (with_order (caller_of t c) (order_in item)) in
    let order : Deed = (ordered before.tables d item).deed in
    alike t (λ n. given n ++ sizes_of order.effects n)
    (λ n. given n ++ sizes_of (before.effects ++ unsaid before.effects order.effects) n) order.tables.windows
    (λ n. ap (λ ws. given n ++ ws)
    (sizes_append before.effects (unsaid before.effects order.effects) n
    ∙ ap (λ ws. ws ++ sizes_of (unsaid before.effects order.effects) n)
    (types_sizes (with_client t d) d (typed_bytes (step_items c bytes)) n)
    ∙ sizes_unsaid before.effects order.effects n))
    (typing_clients
    (λ v. Wrote t (λ n. given n ++ sizes_of (ordered v d item).deed.effects n)
    (ordered v d item).deed.tables.windows) t client c d (typed_bytes (step_items c bytes)) is refl refl
    (λ cs same. item_wrote t c read s cs item))

-- ---- the events

abbrev InOutcome : Tables → EventValue → Outcome → Type 0
InOutcome t event o = Wrote t (λ n. step_writing t event o.reply o.effects n) o.tables.windows

still : (t : Tables) → Wrote t (λ n. []) t.windows
still t = kept_wrote t (λ n. []) t.windows (λ n. refl) (kept_same t.windows)

unwritten : (t : Tables) (o : Outcome) → o.effects ≡ [] → o.tables.windows ≡ t.windows
    → Wrote t (λ n. sizes_of o.effects n) o.tables.windows
unwritten t o none same = subst (λ ws. Wrote t (λ n. sizes_of o.effects n) ws) (sym same)
    (subst (λ (es : List Effect). Wrote t (λ n. sizes_of es n) t.windows) (sym none) (still t))

outcome_wrote : (t : Tables) (event : EventValue) → AreSound t → InOutcome t event (outcome t event)
outcome_wrote t (Detach client) s =
    outcomes.found (InOutcome t (Detach client)) t
    (λ c. finished t [] done (parts (λ d. d.serial == client) reason.Detached t)) (client_at t client) (still t)
    (λ c is. kept_wrote t _ t.windows
    (sizes_gone reason.Detached (filter (λ (d : Client). d.serial == client) t.clients)) (kept_same t.windows))
outcome_wrote t (Keys client bytes) s = on (client_at t client) refl where
  on : (o : Option Client) → client_at t client ≡ o
      → InOutcome t (Keys client bytes)
      (elim o as (λ _. Outcome)
      [ None ↦ refused t [] NoWindow | Some c ↦ keys_outcome t c (take (taken c.keys bytes) bytes) ])
  on None is = kept_wrote t _ t.windows
      (λ n. ap
      (λ o. flat_map (given_writing t n)
      (option_map_or (λ c. with_order (caller_of t c) (order_in (command_item (step_items c bytes)))) o []) ++ []) is)
      (kept_same t.windows)
  on (Some c) is =
      let o : Outcome = keys_outcome t c (take (taken c.keys bytes) bytes) in
      alike t
      (λ n. flat_map (given_writing t n) (with_order (caller_of t c) (order_in (command_item (step_items c bytes))))
      ++ sizes_of o.effects n) _ o.tables.windows
      (λ n. ap (λ gs. flat_map (given_writing t n) gs ++ sizes_of o.effects n) (keys_given t client bytes c is))
      (keys_wrote t client bytes c is s)
outcome_wrote t (Command user number bytes) s = line_wrote t user number (is_known t user) (read_line bytes) s
outcome_wrote t (Open user rows columns keep title) s =
    let v : Window = new_window t rows columns keep title in
    outcomes.passed (InOutcome t (Open user rows columns keep title)) t
    (verdicts t (open_checks t user rows columns keep title))
    (first_fault t (open_checks t user rows columns keep title)) (reply_of 0 v.serial v.number None)
    (opens t user v)
    (λ r is. still t)
    (λ is. record {
      rows = all_append (Row t (λ n. [])) t.windows (v ∷ []) (still t).rows (inr (refl, refl), tt);
      above = λ n le.
          refl;
    })
outcome_wrote t (Output window bytes) s =
    outcomes.found (InOutcome t (Output window bytes)) t (λ v. finished t [] done (outputs t v bytes))
    (window_at t window) (still t)
    (λ v is. let serial : v.serial ≡ window = row_serial serial_of t.windows window v is in
    let reports : List ℕ = (reads (terminal_of v) bytes).reports in
    row_wrote t (λ n. step_writing t (Output window bytes) done (outputs t v bytes).effects n) v (written.Output bytes)
    s.windows_rise (ap (window_at t) serial ∙ is)
    (ap (λ ws. (if window == v.serial then written.Output bytes ∷ [] else []) ++ ws)
    (sizes_input v.serial reports (length reports == 0) v.serial)
    ∙ ap (λ (b : Bool). (if b then written.Output bytes ∷ [] else []) ++ [])
    (ap (λ n. window == n) serial ∙ itself window))
    (λ n off. ap (λ ws. (if window == n then written.Output bytes ∷ [] else []) ++ ws)
    (sizes_input v.serial reports (length reports == 0) n)
    ∙ ap (λ (b : Bool). (if b then written.Output bytes ∷ [] else []) ++ []) (ap (λ m. m == n) (sym serial) ∙ off)))
outcome_wrote t (Closed window) s =
    outcomes.found (InOutcome t (Closed window)) t
    (λ v. finished t [] done (closes (λ x. x.serial == window) reason.Detached t)) (window_at t window) (still t)
    (λ v is. kept_wrote t _ _ (sizes_closed reason.Detached (filter (λ (x : Window). x.serial == window) t.windows))
    (kept_fewer (λ (x : Window). not (x.serial == window)) t.windows))
outcome_wrote t event s = unwritten t (outcome t event) (outcomes.quiet t event refl)
    (outcomes.same_windows t event refl)

-- ---- steps

drawn_windows : (o : Option Client) (effects : List Effect) (u : Tables) → (drawn_on o effects u).windows ≡ u.windows
drawn_windows None effects u = refl
drawn_windows (Some c) effects u = refl

draw_sizes : (t : Tables) (effects : List Effect) (o : Option Client) → MatchOption o (effects ≡ []) (IsDraw t effects)
    → (n : ℕ) → sizes_of effects n ≡ []
draw_sizes t effects None is n = ap (λ es. sizes_of es n) is
draw_sizes t effects (Some c) is n = on effects is.drawn where
  on : (es : List Effect) → DrawsWhereNeeded t c es → sizes_of es n ≡ []
  on [] none = refl
  on (Deliver to bytes ∷ []) one = refl
  on (f ∷ es) other = absurd other

by_effects : (t : Tables) (event : EventValue) (effects : List Effect) (ws : List Window)
    → effects ≡ (outcome t event).effects → (outcome t event).tables.windows ≡ ws → InOutcome t event (outcome t event)
    → Wrote t (λ n. step_writing t event (outcome t event).reply effects n) ws
by_effects t event effects ws same windows all = subst
    (λ es. Wrote t (λ n. step_writing t event (outcome t event).reply es n) ws) (sym same)
    (subst (Wrote t (λ n. step_writing t event (outcome t event).reply (outcome t event).effects n)) windows all)

quiet_draw : (t : Tables) (client : ℕ) → (outcome t (Draw client)).tables.windows ≡ t.windows
quiet_draw t client = outcomes.found (λ o. o.tables.windows ≡ t.windows) t (λ c. finished t [] done (changing t))
    (client_at t client) refl (λ c is. refl)

step_wrote : (t : Tables) (event : EventValue) (effects : List Effect) → AreSound t → HasEffects t event effects
    → Wrote t (λ n. step_writing t event (outcome t event).reply effects n)
    (drawn event effects (outcome t event).tables).windows
step_wrote t (Draw client) effects s is =
    let u : Tables = (outcome t (Draw client)).tables in
    subst (λ ws. Wrote t (λ n. sizes_of effects n) ws)
    (sym (drawn_windows (client_at u client) effects u ∙ quiet_draw t client))
    (kept_wrote t (λ n. sizes_of effects n) t.windows (draw_sizes t effects (client_at t client) is)
    (kept_same t.windows))
step_wrote t event effects s is = by_effects t event effects (outcome t event).tables.windows is refl
    (outcome_wrote t event s)

-- ---- runs

record Recalls (t : Tables) (all : ℕ → List Writing) : Type 0 where
  rows : AllByRecursion (λ (w : Window). w.writing ≡ all w.serial) t.windows
  later : (n : ℕ) → t.next_window ≤ n → all n ≡ []

recalls : (t : Tables) (all : ℕ → List Writing) (e : Entry) → AreSound t → IsStep t e → Recalls t all
    → Recalls (after t e) (λ n. all n ++ step_writing t e.event e.reply e.effects n)
recalls t all e s step m = record {
  rows = all_weaken (Row t f) (λ (v : Window). v.writing ≡ all v.serial ++ f v.serial) (after t e).windows one
      wrote_all.rows;
  later = λ n le.
      let above : t.next_window ≤ n =
      (let grows : t.next_window ≤ (after t e).next_window = (after_grows t e.event e.effects s).0 in omega
      (arith, grows, le)) in
      ap (λ ws. ws ++ f n) (m.later n above) ∙ wrote_all.above n above;
} where
  f : ℕ → List Writing
  f n = step_writing t e.event e.reply e.effects n

  wrote_all : Wrote t f (after t e).windows
  wrote_all = alike t (λ n. step_writing t e.event (outcome t e.event).reply e.effects n) f (after t e).windows
      (λ n. ap (λ (r : Reply). step_writing t e.event r e.effects n) step.reply)
      (step_wrote t e.event e.effects s step.effects)

  le : t.next_window ≤ t.next_window
  le = omega arith

  one : (v : Window) → Row t f v → v.writing ≡ all v.serial ++ f v.serial
  one v row = ⊎_elim
      (λ (old : SomeOf (λ w. GoesOn f w v) t.windows). some_elim (λ w. GoesOn f w v)
      (λ (w : Window). w.writing ≡ all w.serial) (v.writing ≡ all v.serial ++ f v.serial) t.windows
      (λ w go was. go.1 ∙ ap (λ ws. ws ++ f w.serial) was ∙ ap (λ n. all n ++ f n) (sym go.0)) old m.rows)
      (λ new. new.1
      ∙ sym (ap (λ ws. ws ++ f t.next_window) (m.later t.next_window le) ∙ wrote_all.above t.next_window le)
      ∙ ap (λ n. all n ++ f n) (sym new.0)) row

run_recalls : (edition : Edition) (owner : UserId) (entries : List Entry) → IsRunFrom (fresh edition owner) entries
    → Recalls (tables_from (fresh edition owner) entries) (all_written (fresh edition owner) entries)
run_recalls edition owner [] run = record { rows = tt; later = λ n le. refl }
run_recalls edition owner (e ∷ past) run =
    recalls (tables_from (fresh edition owner) past) (all_written (fresh edition owner) past) e
    (run_sound (fresh edition owner) past (fresh_sound edition owner)) run.1 (run_recalls edition owner past run.0)

pub recalled : (h : Trace) → IsRun h → (n : ℕ) (w : Window) → window_at (tables_of h) n ≡ Some w
    → w.writing ≡ all_written (fresh h.edition h.owner) h.entries n
recalled h run n w is =
    some_has (λ (v : Window). v.writing ≡ all_written (fresh h.edition h.owner) h.entries v.serial) w
    (tables_of h).windows (some_row serial_of (tables_of h).windows n w is)
    (run_recalls h.edition h.owner h.entries run).rows
    ∙ ap (all_written (fresh h.edition h.owner) h.entries) (row_serial serial_of (tables_of h).windows n w is)
