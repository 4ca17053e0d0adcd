-- A step has at most 256 effects.
use Rattle.session_laws.proofs.Vocabulary.{StatusMessage, ◌≡◌, ℕ, ◌+◌, ◌≤◌, List, [], ◌∷◌, ◌++◌, Option, Some, None, Ok}
use Rattle.session_laws.proofs.Vocabulary.{Err, Result, refl, ap, sym, subst, length, take, arith, ◌==◌, MatchOption}
use Rattle.session_laws.proofs.Vocabulary.{Order, ParseFault, Item, bound, line, reads, Effect, Deliver, Refusal}
use Rattle.session_laws.proofs.Vocabulary.{EventValue, Draw, Entry, Tables, Window, Client, window_at, client_at}
use Rattle.session_laws.proofs.Vocabulary.{with_client, focused, focused_window, terminal_of, Caller, caller_of}
use Rattle.session_laws.proofs.Vocabulary.{line_caller, read_line, checks, first_fault, typing_checks, Deed, Answer}
use Rattle.session_laws.proofs.Vocabulary.{changing, parts, closes, does, typed_bytes, command_item, taken, step_items}
use Rattle.session_laws.proofs.Vocabulary.{types, says_why, input_in, ordered, keyed, with_listed, message_of, reading}
use Rattle.session_laws.proofs.Vocabulary.{unsaid, keys_outcome, outcome, Outcome, outputs, IsStep, HasEffects, IsDraw}
use Rattle.session_laws.proofs.Vocabulary.{DrawsWhereNeeded, AreSound}
use Rattle.session_model.specs.declared.event.Reason.TheVariants as reason
use Rattle.session_model.specs.Answering as answering
use Rattle.session_laws.proofs.Doing.{Either}
use Rattle.session_laws.proofs.Moving.{DeedMoves}
use Rattle.session_laws.proofs.CommandMoves.{moves, only_parts, closes_moves, input_few, length_append, length_filter}
use Rattle.session_laws.proofs.CommandMoves.{length_ids}
use Rattle.session_laws.proofs.SoundMoves.{differ}
use Rattle.session_laws.proofs.Settling.{focus_row, line_row, ids_same}
use Rattle.session_laws.proofs.Unread.{typing_clients}
use Rattle.session_laws.proofs.Outcomes as outcomes

-- at most one effect for each window and one for each client, and three more
abbrev pub IsFew : Tables → ℕ → Type 0
IsFew t n = n ≤ length t.windows + length t.clients + 3

abbrev Few : Tables → Outcome → Type 0
Few t o = IsFew t (length o.effects)

none_few : (t : Tables) → IsFew t 0
none_few t = omega arith

deed_few : (t : Tables) (d : Deed) → DeedMoves t d → IsFew t (length d.effects)
deed_few t d m = let le : length d.effects ≤ length t.windows + length t.clients + 1 = m.few in omega (arith, le)

-- ---- keys

types_few : (u : Tables) (d : Client) (bytes : List ℕ) → length (types u d bytes).effects ≤ 1
types_few u d [] = omega arith
types_few u d (b ∷ bytes) = on (first_fault u (typing_checks d.user (focused_window u d))) (focused_window u d) where
  on : (o : Option Refusal) (f : Option Window) → length (elim o as (λ _. Deed) [
    | Some r ↦ says_why u d.serial r
    | None ↦ record (changing u) { effects = input_in f (b ∷ bytes) }
  ]).effects ≤ 1
  on (Some r) f = omega arith
  on None None = omega arith
  on None (Some w) = omega arith

keyed_few : (v : Tables) (client : ℕ) (m : List ℕ → StatusMessage)
    (a : Answer) → Either (DeedMoves v) a
    → length (keyed v client m a).effects ≤ length v.windows + length v.clients + 2
keyed_few v client m (Err r) plain = omega arith
keyed_few v client m (Ok d) all = on d.lists where
  le : length d.effects ≤ length v.windows + length v.clients + 1
  le = all.few

  on : (o : Option (List ℕ)) → length (with_listed client m o d).effects ≤ length v.windows + length v.clients + 2
  on None = omega (arith, le)
  on (Some bytes) = let sum : length
      (d.effects ++ Rattle.session_model.specs.declared.event.Effect.TheVariants.Say client bytes ∷ []) ≡ length
      d.effects + 1 = length_append d.effects _ in omega (arith, le, sum)

ruled_few : (v : Tables) (client : ℕ) (m : List ℕ → StatusMessage)
    (k : Caller) (c : Order) (o : Option Refusal) → ((w : Window) → k.window ≡ Some w → window_at v w.serial ≡ Some w)
    → length (keyed v client m (elim o as (λ _. Answer) [ Some r ↦ Err r | None ↦ does v k c ])).effects ≤ length
    v.windows + length v.clients + 2
ruled_few v client m k c (Some r) row = omega arith
ruled_few v client m k c None row = keyed_few v client m (does v k c) (moves v k row c)

order_few : (v : Tables) (d : Client) (order : Order)
    → length (answering.by_line v d (Ok order)).deed.effects ≤ length v.windows + length v.clients + 2
order_few v d order = ruled_few v d.serial (message_of order) (caller_of v d) order
    (first_fault v (checks v (caller_of v d) order)) (focus_row v (focused d))

read_few : (v : Tables) (d : Client) (r : Result Order ParseFault)
    → length (answering.by_line v d r).deed.effects ≤ length v.windows + length v.clients + 2
read_few v d (Err f) = omega arith
read_few v d (Ok order) = order_few v d order

item_few : (v : Tables) (d : Client) (item : Option Item)
    → length (ordered v d item).deed.effects ≤ length v.windows + length v.clients + 2
item_few v d (Some (bound order)) = order_few v d order
item_few v d (Some (line (b ∷ bs))) = read_few v d (read_line (b ∷ bs))
item_few v d item = omega arith

keys_few : (t : Tables) (client : ℕ) (bytes : List ℕ) (c : Client) → client_at t client ≡ Some c
    → Few t (keys_outcome t c (take (taken c.keys bytes) bytes))
keys_few t client bytes c is =
    let read : List ℕ = take (taken c.keys bytes) bytes in
    let given : List Item = step_items c bytes in
    let d : Client = reading read c in
    let before : List Effect = (types (with_client t d) d (typed_bytes given)).effects in
    let one : length before ≤ 1 = types_few (with_client t d) d (typed_bytes given) in
    typing_clients (λ v. IsFew t (length (before ++ unsaid before (ordered v d (command_item given)).deed.effects))) t
    client c d (typed_bytes given) is refl refl
    (λ cs same.
    let v : Tables = record t { clients = cs } in
    let es : List Effect = (ordered v d (command_item given)).deed.effects in
    let more : length es ≤ length t.windows + length cs + 2 = item_few v d (command_item given) in
    let ones : length cs ≡ length t.clients = length_ids cs t.clients (ids_same t cs same) in
    let less : length (unsaid before es) ≤ length es = length_filter _ es in
    let sum : length (before ++ unsaid before es) ≡ length before + length (unsaid before es) = length_append before
    (unsaid before es) in
    omega (arith, one, more, ones, less, sum))

-- ---- events

happened : (t : Tables) (event : EventValue) (o : Outcome) → outcomes.Happens t event o → AreSound t → Few t o
happened t _ _ (outcomes.detached client c at) s = deed_few t (parts (λ d. d.serial == client) reason.Detached t)
    (only_parts t (λ p. p.0 == client) reason.Detached)
happened t _ _ (outcomes.keyed client bytes c at) s = keys_few t client bytes c at
happened t _ _ (outcomes.obeyed user number bytes c d known read passes is) s =
    deed_few t d (subst (Either (DeedMoves t)) is
    (moves t (line_caller t user number)
    (λ w at. line_row t number w (differ t.windows t.next_window s.windows_rise) at) c))
happened t _ _ (outcomes.wrote window bytes v at) s =
    let le : length (outputs t v bytes).effects ≤ 1 = input_few v.serial (reads (terminal_of v) bytes).reports
    (length (reads (terminal_of v) bytes).reports == 0) in omega (arith, le)
happened t _ _ (outcomes.closed window v at) s = deed_few t (closes (λ x. x.serial == window) reason.Detached t)
    (closes_moves t (λ n. n == window) reason.Detached)
happened t _ _ h s = none_few t

few : (t : Tables) (event : EventValue) → AreSound t → Few t (outcome t event)
few t event s = happened t event (outcome t event) (outcomes.happens t event) s

drawn_few : (t : Tables) (effects : List Effect) (o : Option Client) → MatchOption o (effects ≡ []) (IsDraw t effects)
    → length effects ≤ 1
drawn_few t effects None is = let e : length effects ≡ 0 = ap length is in omega (arith, e)
drawn_few t effects (Some c) is = on effects is.drawn where
  on : (es : List Effect) → DrawsWhereNeeded t c es → length es ≤ 1
  on [] none = omega arith
  on (Deliver to bytes ∷ []) one = omega arith
  on (f ∷ es) other = absurd other

pub step_few : (t : Tables) (e : Entry) → AreSound t → IsStep t e → length e.effects ≤ 256
step_few t e s step = on e.event step.effects where
  bound : (n : ℕ) → IsFew t n → n ≤ 256
  bound n le = let windows : length t.windows ≤ 40 = s.few_windows in let clients : length t.clients ≤ 64 =
      s.few_clients in omega (arith, le, windows, clients)

  on : (event : EventValue) → HasEffects t event e.effects → length e.effects ≤ 256
  on (Draw client) is = let le : length e.effects ≤ 1 = drawn_few t e.effects (client_at t client) is in omega
      (arith, le)
  on event is = subst (λ (es : List Effect). length es ≤ 256) (sym is)
      (bound (length (outcome t event).effects) (few t event s))
