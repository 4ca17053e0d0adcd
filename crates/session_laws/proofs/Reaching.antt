-- Typed bytes reach a window exactly by rights and locks.
use Rattle.session_laws.proofs.Vocabulary.{◌≡◌, ℕ, Bool, true, false, not, List, [], ◌∷◌, ◌++◌, Option, Some, None, Ok}
use Rattle.session_laws.proofs.Vocabulary.{Err, Result, refl, ap, sym, ◌∙◌, filter, arith, length, if◌then◌else◌, ◌==◌}
use Rattle.session_laws.proofs.Vocabulary.{◌&&◌, ◌||◌, take, MatchOption, flat_map, option_map_or, nat_tests, UserId}
use Rattle.session_laws.proofs.Vocabulary.{Write, Execute, stops_nobody_but, Order, ParseFault, Item, typed, bound}
use Rattle.session_laws.proofs.Vocabulary.{line, reads, Effect, Input, Deliver, Refusal, NoWindow, UnknownUser}
use Rattle.session_laws.proofs.Vocabulary.{StatusMessage, Text, checks, first_fault, verdicts, typing_checks, does}
use Rattle.session_laws.proofs.Vocabulary.{ruling, Deed, Answer, given, changing, input_of, hearing, parts, closes}
use Rattle.session_laws.proofs.Vocabulary.{entry_denial, types, says, told, ordered, by_line, line_ruling, reading}
use Rattle.session_laws.proofs.Vocabulary.{message_of, commanded, keys_outcome, refused, Outcome, unsaid, finished}
use Rattle.session_laws.proofs.Vocabulary.{done, outputs, all_typed, stuffed, with_order, order_in, ok_of, Typed}
use Rattle.session_laws.proofs.Vocabulary.{typed_by_client, typed_bytes, command_item, taken, step_items, Caller}
use Rattle.session_laws.proofs.Vocabulary.{caller_of, line_caller, read_line, inputs, reaching, reporting, may_in}
use Rattle.session_laws.proofs.Vocabulary.{holder_in, HasEffects, IsDraw, DrawsWhereNeeded, is_known, Tables, Window}
use Rattle.session_laws.proofs.Vocabulary.{Client, row_of, window_at, client_at, with_client, focused_window}
use Rattle.session_laws.proofs.Vocabulary.{terminal_of, text_of, EventValue, Detach, Keys, Command, Output, Closed}
use Rattle.session_laws.proofs.Vocabulary.{Draw}
use Rattle.acl.specs.declared.act.Object.TheVariants as object
use Rattle.acl.specs.declared.command_name.CommandName.TheVariants as names
use Rattle.command_lang.specs.declared.command.Command.TheVariants as command
use Rattle.session_model.specs.declared.event.Reason.TheVariants as reason
use Rattle.session_laws.proofs.Quiet as quiet
use Rattle.session_laws.proofs.Inputs.{append_nil, inputs_append, inputs_unsaid, answer_inputs, answered_inputs}
use Rattle.session_laws.proofs.Inputs.{keyed_inputs}
use Rattle.session_laws.proofs.Outcomes as outcomes

-- ---- typed bytes of a client

none_either : (y : Bool) → [] ≡ (if y then (let none : List ℕ = [] in none) else [])
none_either true = refl
none_either false = refl

typing_in : (t : Tables) (c : Client) (v : Window) (w b : ℕ) (bytes : List ℕ) (may_write free : Bool) (r s : Refusal)
    → inputs (elim (if may_write then (if free then None else Some s) else Some r) as (λ _. Deed) [
      | Some f ↦ says t c.serial (Text (text_of f)) (text_of f)
      | None ↦ record (changing t) { effects = Input v.serial (b ∷ bytes) ∷ [] }
    ]).effects w
    ≡ (if v.serial == w then (if may_write && free then b ∷ bytes else []) else [])
typing_in t c v w b bytes true true r s = append_nil (if v.serial == w then b ∷ bytes else [])
typing_in t c v w b bytes true false r s = none_either (v.serial == w)
typing_in t c v w b bytes false free r s = none_either (v.serial == w)

if_same : (a y : Bool) → [] ≡ (if y then (if a then (let none : List ℕ = [] in none) else []) else [])
if_same true y = none_either y
if_same false y = none_either y

typing : (t : Tables) (c : Client) (bytes : List ℕ) (w : ℕ)
    → inputs (types t c bytes).effects w ≡ reaching t w
    (record { user = c.user; window = focused_window t c; bytes = bytes })
typing t c [] w = on (focused_window t c) where
  on : (o : Option Window) → [] ≡ reaching t w (record { user = c.user; window = o; bytes = [] })
  on None = refl
  on (Some v) = if_same
      (may_in t c.user Write (object.Window v.serial) && stops_nobody_but c.user (holder_in t v.serial)) (v.serial == w)
typing t c (b ∷ bytes) w = on (focused_window t c) where
  on : (o : Option Window) → inputs (elim (first_fault t (typing_checks c.user o)) as (λ _. Deed) [
    | Some f ↦ says t c.serial (Text (text_of f)) (text_of f)
    | None ↦ record (changing t) { effects = option_map_or (λ (v : Window). Input v.serial (b ∷ bytes) ∷ []) o [] }
  ]).effects w ≡ reaching t w (record { user = c.user; window = o; bytes = b ∷ bytes })
  on None = refl
  on (Some v) = typing_in t c v w b bytes (may_in t c.user Write (object.Window v.serial))
      (stops_nobody_but c.user (holder_in t v.serial)) _ _

-- typing leaves the tables unchanged, or with one client's row changed
pub typing_leaves : (P : Tables → Type 0) (t : Tables) (c : Client) (bytes : List ℕ) → P t
    → ((d : Client) → P (with_client t d)) → P (types t c bytes).tables
typing_leaves P t c [] here changed = here
typing_leaves P t c (b ∷ bytes) here changed = on (first_fault t (typing_checks c.user (focused_window t c)))
    (focused_window t c) where
      on_row : (client : ℕ) (m : StatusMessage) → P (told t client m)
      on_row client m = elim (client_at t client) as
          (λ (o : Option Client). P (elim o as (λ _. Tables) [ None ↦ t | Some d ↦ with_client t (hearing m d) ]))
          [ None ↦ here | Some d ↦ changed (hearing m d) ]

      on : (o : Option Refusal) (f : Option Window) → P (elim o as (λ _. Deed) [
        | Some r ↦ says t c.serial (Text (text_of r)) (text_of r)
        | None ↦ record (changing t) { effects = option_map_or (λ (w : Window). Input w.serial (b ∷ bytes) ∷ []) f [] }
      ]).tables
      on None f = here
      on (Some r) f = on_row c.serial (Text (text_of r))

-- ---- stuff

abbrev ruled : Option Refusal → Answer → Answer
ruled o answer = elim o as (λ _. Answer) [ Some r ↦ Err r | None ↦ answer ]

none_more : (y : Bool) → [] ≡ (if y then (let none : List ℕ = [] in none) else []) ++ []
none_more true = refl
none_more false = refl

input_in : (at w : ℕ) (bytes : List ℕ) → inputs (input_of at bytes) w ≡ (if at == w then bytes else []) ++ []
input_in at w [] = none_more (at == w)
input_in at w (b ∷ bytes) = on (length (b ∷ bytes) == 0)
    (let e : (length (b ∷ bytes) == 0) ≡ false = grind (arith, nat_tests) in e) where
      on : (y : Bool) → y ≡ false
          → inputs (if y then [] else Input at (b ∷ bytes) ∷ []) w ≡ (if at == w then b ∷ bytes else []) ++ []
      on true is = absurd (cc (is))
      on false is = refl

stuff_some : (u : Tables) (v : Window) (w : ℕ) (bytes : List ℕ) (F : Typed → List ℕ) (T : Typed) (r1 r2 r3 r4 : Refusal)
    (a b c d : Bool)
    → F T ≡ (if v.serial == w then (if c && d then bytes else []) else [])
    → answer_inputs
    (ruled (if a then (if b then (if c then (if d then None else Some r4) else Some r3) else Some r2) else Some r1)
    (Ok (record (changing u) { effects = input_of v.serial bytes }))) w
    ≡ flat_map F (if a && (not true || b) then T ∷ [] else [])
stuff_some u v w bytes F T r1 r2 r3 r4 false b c d is = refl
stuff_some u v w bytes F T r1 r2 r3 r4 true false c d is = refl
stuff_some u v w bytes F T r1 r2 r3 r4 true true false d is = none_either (v.serial == w) ∙ sym (append_nil (F T) ∙ is)
stuff_some u v w bytes F T r1 r2 r3 r4 true true true false is = none_either (v.serial == w)
    ∙ sym (append_nil (F T) ∙ is)
stuff_some u v w bytes F T r1 r2 r3 r4 true true true true is = input_in v.serial w bytes
    ∙ append_nil (if v.serial == w then bytes else []) ∙ sym (append_nil (F T) ∙ is)

stuffing : (u : Tables) (user : UserId) (client : Option ℕ) (o : Option Window) (bytes : List ℕ) (w : ℕ)
    → let k : Caller = record { user = user; client = client; window = o } in
    answer_inputs (ruling u k (command.Stuff bytes)).answer w ≡ flat_map (reaching u w)
    (stuffed u (record { caller = k; order = command.Stuff bytes }) (command.Stuff bytes))
unfolding given
stuffing u user client None bytes w = on (may_in u user Execute (object.Command names.Stuff)) where
  on : (a : Bool)
      → answer_inputs
      (ruled (if a then Some NoWindow else Some (entry_denial u user Execute (object.Command names.Stuff)))
      (Err NoWindow)) w
      ≡ flat_map (reaching u w)
      (if a && (not true || false) then record { user = user; window = None; bytes = bytes } ∷ [] else [])
  on true = refl
  on false = refl
stuffing u user client (Some v) bytes w = stuff_some u v w bytes (reaching u w)
    (record { user = user; window = Some v; bytes = bytes }) _ _ _ _
    (may_in u user Execute (object.Command names.Stuff)) (may_in u user Execute (object.Window v.serial))
    (may_in u user Write (object.Window v.serial)) (stops_nobody_but user (holder_in u v.serial)) refl

-- ---- commands

silent : (o : Option Refusal) (a : Answer) (w : ℕ) → quiet.Of quiet.IsQuiet a → answer_inputs (ruled o a) w ≡ []
silent (Some r) a w is = refl
silent None (Ok d) w is = is w
silent None (Err r) w is = refl

ruled_inputs : (u : Tables) (k : Caller) (c : Order) (w : ℕ)
    → answer_inputs (ruling u k c).answer w ≡ flat_map (reaching u w) (stuffed u (record { caller = k; order = c }) c)
ruled_inputs u k (command.Stuff bytes) w = stuffing u k.user k.client k.window bytes w
ruled_inputs u k c w = silent (first_fault u (checks u k c)) (does u k c) w (quiet.quiet u k c refl)

ruled_all : (u : Tables) (k : Caller) (c : Order) (w : ℕ)
    → answer_inputs (ruling u k c).answer w ≡ flat_map (reaching u w)
    (flat_map (λ g. stuffed u g g.order) (with_order k (Some c)))
ruled_all u k c w = let all : List Typed = stuffed u (record { caller = k; order = c }) c in ruled_inputs u k c w
    ∙ ap (flat_map (reaching u w)) (sym (append_nil all))

ordering : (u : Tables) (c : Client) (item : Option Item) (w : ℕ)
    → inputs (ordered u c item).deed.effects w ≡ flat_map (reaching u w)
    (flat_map (λ g. stuffed u g g.order) (with_order (caller_of u c) (order_in item)))
ordering u c None w = refl
ordering u c (Some (typed b)) w = refl
ordering u c (Some (bound order)) w = keyed_inputs u c.serial (message_of order) (ruling u (caller_of u c) order).answer
    w ∙ ruled_all u (caller_of u c) order w
ordering u c (Some (line [])) w = refl
ordering u c (Some (line (b ∷ bytes))) w = read (read_line (b ∷ bytes)) where
  read : (r : Result Order ParseFault)
      → inputs (by_line u c r).deed.effects w ≡ flat_map (reaching u w)
      (flat_map (λ g. stuffed u g g.order) (with_order (caller_of u c) (ok_of r)))
  read (Err f) = refl
  read (Ok order) = keyed_inputs u c.serial (message_of order) (ruling u (caller_of u c) order).answer w
      ∙ ruled_all u (caller_of u c) order w

-- ---- the events

keys_reach : (t : Tables) (c : Client) (client : ℕ) (bytes : List ℕ) (w : ℕ)
    → inputs (keys_outcome t c (take (taken c.keys bytes) bytes)).effects w
    ≡ flat_map (reaching t w)
    (typed_by_client t c bytes ∷ flat_map (λ g. stuffed t g g.order)
    (with_order (caller_of t c) (order_in (command_item (step_items c bytes)))))
keys_reach t c client bytes w =
    let given : List Item = step_items c bytes in
    let d : Client = reading (take (taken c.keys bytes) bytes) c in
    let u : Tables = with_client t d in
    let before : Deed = types u d (typed_bytes given) in
    let order : Tables → List Effect = λ v. (ordered v d (command_item given)).deed.effects in
    inputs_append before.effects (unsaid before.effects (order before.tables)) w
    ∙ ap (λ bs. inputs before.effects w ++ bs) (inputs_unsaid before.effects (order before.tables) w)
    ∙ ap (λ bs. bs ++ inputs (order before.tables) w) (typing u d (typed_bytes given) w)
    ∙ ap (λ bs. reaching u w (record { user = d.user; window = focused_window u d; bytes = typed_bytes given }) ++ bs)
    (typing_leaves
    (λ v. inputs (order v) w ≡ flat_map (reaching t w)
    (flat_map (λ g. stuffed t g g.order) (with_order (caller_of t c) (order_in (command_item given)))))
    u d (typed_bytes given) (ordering u d (command_item given) w)
    (λ e. ordering (with_client u e) d (command_item given) w))

pub row_serial : {A : Type 0} (f : A → ℕ) (rows : List A) (s : ℕ) (x : A) → row_of f rows s ≡ Some x → f x ≡ s
row_serial f [] s x is = absurd (cc (is))
row_serial f (r ∷ rows) s x is = on (f r == s) refl is (row_serial f rows s x) where
  on : (b : Bool) → (f r == s) ≡ b → (if b then Some r else row_of f rows s) ≡ Some x
      → (row_of f rows s ≡ Some x → f x ≡ s) → f x ≡ s
  on true same is more = (let e : r ≡ x = cc (is) in ap f (sym e))
      ∙ (let e : f r ≡ s = grind (arith, nat_tests, same) in e)
  on false same is more = more is

command_reach : (t : Tables) (k : Caller) (r : Result Order ParseFault) (w : ℕ)
    → inputs (commanded t (line_ruling t k r)).effects w ≡ flat_map (reaching t w)
    (flat_map (λ g. stuffed t g g.order) (with_order k (ok_of r)))
command_reach t k (Err f) w = refl
command_reach t k (Ok c) w = answered_inputs t (verdicts t (checks t k c)) (ruling t k c).answer w ∙ ruled_all t k c w

drawn_inputs : (t : Tables) (effects : List Effect) (c : Client) (w : ℕ) → IsDraw t effects c → inputs effects w ≡ []
drawn_inputs t effects c w is = on effects is.drawn where
  on : (es : List Effect) → DrawsWhereNeeded t c es → inputs es w ≡ []
  on [] none = refl
  on (Deliver to bytes ∷ []) one = refl
  on (f ∷ es) other = absurd other

output_reach : (t : Tables) (at : ℕ) (bytes : List ℕ) (w : ℕ) (o : Option Window) → window_at t at ≡ o
    → inputs
    (elim o as (λ _. Outcome)
    [ None ↦ refused t [] NoWindow | Some v ↦ finished t [] done (outputs t v bytes) ]).effects w
    ≡ (if at == w then option_map_or (λ v. (reads (terminal_of v) bytes).reports) o [] else [])
output_reach t at bytes w None is = none_either (at == w)
output_reach t at bytes w (Some v) is =
    input_in v.serial w (reads (terminal_of v) bytes).reports
    ∙ append_nil (if v.serial == w then (reads (terminal_of v) bytes).reports else [])
    ∙ ap (λ n. if n == w then (reads (terminal_of v) bytes).reports else [])
    (row_serial (λ (x : Window). x.serial) t.windows at v is)

pub reach : (t : Tables) (event : EventValue) (effects : List Effect) → HasEffects t event effects → (w : ℕ)
    → inputs effects w ≡ flat_map (reaching t w) (all_typed t event) ++ reporting t event w
reach t (Detach client) effects is w = ap (λ es. inputs es w) is ∙ on (client_at t client) where
  on : (o : Option Client)
      → inputs
      (elim o as (λ _. Outcome) [
        | None ↦ refused t [] NoWindow
        | Some c ↦ finished t [] done (parts (λ d. d.serial == client) reason.Detached t)
      ]).effects w ≡ []
  on None = refl
  on (Some c) = quiet.gone_clients reason.Detached (filter (λ (d : Client). d.serial == client) t.clients) w
reach t (Keys client bytes) effects is w = ap (λ es. inputs es w) is ∙ on (client_at t client) where
  on : (o : Option Client)
      → inputs
      (elim o as (λ _. Outcome)
      [ None ↦ refused t [] NoWindow | Some c ↦ keys_outcome t c (take (taken c.keys bytes) bytes) ]).effects w
      ≡ flat_map (reaching t w)
      (option_map_or (λ c. typed_by_client t c bytes ∷ []) o [] ++ flat_map (λ g. stuffed t g g.order)
      (option_map_or (λ c. with_order (caller_of t c) (order_in (command_item (step_items c bytes)))) o [])) ++ []
  on None = refl
  on (Some c) = keys_reach t c client bytes w ∙ sym (append_nil _)
reach t (Command user number bytes) effects is w = ap (λ es. inputs es w) is ∙ on (is_known t user) where
  on : (b : Bool)
      → inputs
      (if b then commanded t (line_ruling t (line_caller t user number) (read_line bytes)) else refused t []
      UnknownUser).effects w
      ≡ flat_map (reaching t w)
      (flat_map (λ g. stuffed t g g.order)
      (if b then with_order (line_caller t user number) (ok_of (read_line bytes)) else [])) ++ []
  on true = command_reach t (line_caller t user number) (read_line bytes) w ∙ sym (append_nil _)
  on false = refl
reach t (Output at bytes) effects is w = ap (λ es. inputs es w) is ∙ output_reach t at bytes w (window_at t at) refl
reach t (Closed window) effects is w = ap (λ es. inputs es w) is ∙ on (window_at t window) where
  on : (o : Option Window)
      → inputs
      (elim o as (λ _. Outcome) [
        | None ↦ refused t [] NoWindow
        | Some v ↦ finished t [] done (closes (λ x. x.serial == window) reason.Detached t)
      ]).effects w ≡ []
  on None = refl
  on (Some v) = quiet.gone_windows reason.Detached (filter (λ (x : Window). x.serial == window) t.windows) w
reach t (Draw client) effects is w = on (client_at t client) is where
  on : (o : Option Client) → MatchOption o (effects ≡ []) (IsDraw t effects) → inputs effects w ≡ []
  on None is = ap (λ es. inputs es w) is
  on (Some c) is = drawn_inputs t effects c w is
reach t event effects is w = ap (λ es. inputs es w) (is ∙ outcomes.quiet t event refl)
