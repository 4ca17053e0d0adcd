-- The window in a client's focus is the one that its user entered last by the client's own steps.
use Rattle.session_laws.proofs.Vocabulary.{◌≡◌, ℕ, ◌<◌, Bool, true, false, not, List, [], ◌∷◌, ◌++◌, Option, Some, None}
use Rattle.session_laws.proofs.Vocabulary.{Ok, Err, Result, refl, ap, sym, ◌∙◌, subst, take, filter, inl, inr, ⊎_elim}
use Rattle.session_laws.proofs.Vocabulary.{arith, ◌⊎◌, if◌then◌else◌, ◌==◌, ◌||◌, AllByRecursion, option_or, nat_tests}
use Rattle.session_laws.proofs.Vocabulary.{Edition, UserId, Act, Order, ParseFault, Item, bound, line, View, Effect}
use Rattle.session_laws.proofs.Vocabulary.{StatusMessage, Text, Refusal, Line, EventValue, Attach, Keys, Draw, Reply}
use Rattle.session_laws.proofs.Vocabulary.{Entry, Trace, Tables, Window, Client, fresh, row_of, with_row, client_at}
use Rattle.session_laws.proofs.Vocabulary.{with_client, focused, is_in_focus, text_of, caller_of, line_caller}
use Rattle.session_laws.proofs.Vocabulary.{read_line, checks, first_fault, Deed, Answer, changing, entering, hearing}
use Rattle.session_laws.proofs.Vocabulary.{does, taken, step_items, typed_bytes, command_item, outcome, Outcome}
use Rattle.session_laws.proofs.Vocabulary.{finished, done, left_acts_of, left_acts, new_client, reading, types, told}
use Rattle.session_laws.proofs.Vocabulary.{ordered, keyed, with_listed, message_of, keys_outcome, by_line, granted_view}
use Rattle.session_laws.proofs.Vocabulary.{SomeOf, unread, drawn, drawn_on, with_drawn, after, IsStep, IsRun, IsRunFrom}
use Rattle.session_laws.proofs.Vocabulary.{tables_from, tables_of, Rises, AreSound, client_serials, entered_by}
use Rattle.session_laws.proofs.Vocabulary.{is_own_step, entered_in, last_entered, all_weaken, all_append, some_map}
use Rattle.session_laws.proofs.Vocabulary.{some_mapped, some_row, row_serial, itself, some_elim}
use Rattle.acl.specs.declared.act.Act.TheVariants as act
use Rattle.session_laws.proofs.Doing.{Either}
use Rattle.session_laws.proofs.Unread.{SameClients, typing_clients, row_at}
use Rattle.session_laws.proofs.Settling.{told_same, ids_same}
use Rattle.session_laws.proofs.SoundMoves.{client_firsts, firsts}
use Rattle.session_laws.proofs.Sounding.{run_sound, fresh_sound}
use Rattle.session_laws.proofs.Showing.{some_has, all_row}
use Rattle.session_laws.proofs.CommandFocus.{GoesOn, AllGoOn, alike, Same, Kept, kept_same, kept_fewer, kept_go}
use Rattle.session_laws.proofs.CommandFocus.{without_kept, row_goes, entered_of, HasGone, none_if, gone}
use Rattle.session_laws.proofs.Outcomes as outcomes

-- ---- a user who leaves a window enters none

enter_front : (xs ys : List Act) → entered_by ys ≡ None → entered_by (xs ++ ys) ≡ entered_by xs
enter_front [] ys none = none
enter_front (act.Entered user window ∷ xs) ys none = refl
enter_front (x ∷ xs) ys none = enter_front xs ys none

left_enter : (before after : List Client) → entered_by (left_acts before after) ≡ None
left_enter [] after = refl
left_enter (c ∷ before) after = one (focused c) (left_enter before after) where
  on : (b : Bool) (w : ℕ)
      → entered_by
      ((if b then (let none : List Act = [] in none) else act.Left c.user w ∷ []) ++ left_acts before after) ≡
      entered_by (left_acts before after)
  on true w = refl
  on false w = refl

  one : (o : Option ℕ) → entered_by (left_acts before after) ≡ None
      → entered_by (left_acts_of c o before after ++ left_acts before after) ≡ None
  one None rest = rest
  one (Some w) rest = on (is_in_focus before c.user w || is_in_focus after c.user w) w ∙ rest

-- ---- messages

told_go : (cs : List Client) (f : ℕ → Option (UserId × ℕ)) (u : Tables) (client : ℕ) (m : StatusMessage)
    → AllGoOn cs f u.clients → AllGoOn cs f (told u client m).clients
told_go cs f u client m all = told_same (λ v. AllGoOn cs f v.clients) u client m all
    (λ c is. all_row (λ d. SomeOf (λ q. GoesOn f q d) cs) (λ (d : Client). d.serial) u.clients c.serial (hearing m c)
    (some_has (λ d. SomeOf (λ q. GoesOn f q d) cs) c u.clients
    (some_row (λ (d : Client). d.serial) u.clients client c is) all) all)

-- ---- keys

module _ (t : Tables) (c : Client) (read : List ℕ) (s : AreSound t) (cs : List Client) (same : SameClients t cs) where
  abbrev v : Tables
  v = record t { clients = cs }

  -- each window that a deed enters is entered by the client of the keys
  abbrev InDeed : Deed → Type 0
  InDeed d = AllGoOn cs (entered_of (caller_of t c) d.acts) d.tables.clients

  rises : Rises (client_serials cs) t.next_client
  rises = subst (λ ns. Rises ns t.next_client)
      (client_firsts t.clients ∙ sym (ap firsts (ids_same t cs same)) ∙ sym (client_firsts cs)) s.clients_rise

  none : (n : ℕ) → entered_of (caller_of t c) [] n ≡ None
  none n = none_if (c.serial == n)

  nothing_gone : InDeed (changing v)
  nothing_gone = kept_go cs cs (entered_of (caller_of t c) []) none (kept_same cs)

  keyed_gone : (client : ℕ) (m : List ℕ → StatusMessage) (a : Answer) → Either (HasGone v (caller_of t c)) a
      → InDeed (keyed v client m a)
  keyed_gone client m (Err r) plain = told_go cs (entered_of (caller_of t c) []) v client (Text (text_of r))
      nothing_gone
  keyed_gone client m (Ok d) h = on d.lists where
    on : (o : Option (List ℕ)) → InDeed (with_listed client m o d)
    on None = h.all
    on (Some bytes) = told_go cs (entered_of (caller_of t c) d.acts) d.tables client (m bytes) h.all

  order_gone : (order : Order) → InDeed (by_line v (reading read c) (Ok order)).deed
  order_gone order = on (first_fault t (checks t (caller_of t c) order)) where
    on : (o : Option Refusal)
        → InDeed
        (keyed v c.serial (message_of order)
        (elim o as (λ _. Answer) [ Some r ↦ Err r | None ↦ does v (caller_of t c) order ]))
    on (Some r) = told_go cs (entered_of (caller_of t c) []) v c.serial (Text (text_of r)) nothing_gone
    on None = keyed_gone c.serial (message_of order) (does v (caller_of t c) order) (gone v (caller_of t c) rises order)

  read_gone : (r : Result Order ParseFault) → InDeed (by_line v (reading read c) r).deed
  read_gone (Err f) = told_go cs (entered_of (caller_of t c) []) v c.serial (Text (text_of (Line f))) nothing_gone
  read_gone (Ok order) = order_gone order

  item_gone : (item : Option Item) → InDeed (ordered v (reading read c) item).deed
  item_gone (Some (bound order)) = order_gone order
  item_gone (Some (line (b ∷ bs))) = read_gone (read_line (b ∷ bs))
  item_gone item = nothing_gone

  -- the clients before keys were read have the same windows in focus
  before_read : (f : ℕ → Option (UserId × ℕ)) (ds : List Client) → AllGoOn cs f ds → AllGoOn t.clients f ds
  before_read f ds all = all_weaken (λ d. SomeOf (λ q. GoesOn f q d) cs) (λ d. SomeOf (λ q. GoesOn f q d) t.clients) ds
      (λ d some. some_mapped (λ q. GoesOn f q d) unread t.clients
      (subst (SomeOf (λ q. GoesOn f q d)) same (some_map (λ q. GoesOn f q d) unread cs some))) all

keys_gone : (t : Tables) (client : ℕ) (bytes : List ℕ) (c : Client) → client_at t client ≡ Some c → AreSound t
    → let o : Outcome = keys_outcome t c (take (taken c.keys bytes) bytes) in AllGoOn t.clients
    (λ n. if client == n then entered_by o.acts else None) o.tables.clients
keys_gone t client bytes c is s =
    let read : List ℕ = take (taken c.keys bytes) bytes in
    let d : Client = reading read c in
    let item : Option Item = command_item (step_items c bytes) in
    let before : Deed = types (with_client t d) d (typed_bytes (step_items c bytes)) in
    let order : Deed = (ordered before.tables d item).deed in
    let left : List Act = left_acts t.clients order.tables.clients in
    alike t.clients (λ n. entered_of (caller_of t c) order.acts n)
    (λ n. if client == n then entered_by (order.acts ++ left) else None) order.tables.clients
    (λ n. ap (λ o. if client == n then o else None)
    (enter_front order.acts left (left_enter t.clients order.tables.clients))
    ∙ ap (λ m. if m == n then entered_by order.acts else None)
    (sym (row_serial (λ (x : Client). x.serial) t.clients client c is)))
    (typing_clients
    (λ v. let e : Deed = (ordered v d item).deed in AllGoOn t.clients (λ n. entered_of (caller_of t c) e.acts n)
    e.tables.clients) t client c d (typed_bytes (step_items c bytes)) is refl refl
    (λ cs same. let e : Deed = (ordered (record t { clients = cs }) d item).deed in before_read t c read s cs same
    (λ n. entered_of (caller_of t c) e.acts n) e.tables.clients (item_gone t c read s cs same item)))

-- ---- the events

-- a client that has just attached
abbrev IsNew : Tables → (ℕ → Option (UserId × ℕ)) → Client → Type 0
IsNew t f d = (d.serial ≡ t.next_client) × ((w : ℕ) → focused d ≡ Some w → f t.next_client ≡ Some (d.user, w))

abbrev Rows : Tables → (ℕ → Option (UserId × ℕ)) → List Client → Type 0
Rows t f ds = AllByRecursion (λ d. SomeOf (λ c. GoesOn f c d) t.clients ⊎ IsNew t f d) ds

old_rows : (t : Tables) (f : ℕ → Option (UserId × ℕ)) (ds : List Client) → AllGoOn t.clients f ds → Rows t f ds
old_rows t f ds all = all_weaken (λ d. SomeOf (λ c. GoesOn f c d) t.clients)
    (λ d. SomeOf (λ c. GoesOn f c d) t.clients ⊎ IsNew t f d) ds (λ d some. inl some) all

kept_rows : (t : Tables) (ds : List Client) → Kept t.clients ds → Rows t (λ n. None) ds
kept_rows t ds kept = old_rows t (λ n. None) ds (kept_go t.clients ds (λ n. None) (λ n. refl) kept)

still : (t : Tables) → Rows t (λ n. None) t.clients
still t = kept_rows t t.clients (kept_same t.clients)

-- if the window was entered by a client whose serial wasn't given yet
below_rows : (f : ℕ → Option (UserId × ℕ)) (cs : List Client) (next : ℕ) → Rises (client_serials cs) next
    → ((n : ℕ) → n < next → f n ≡ None) → AllGoOn cs f cs
below_rows f [] next rise none = tt
below_rows f (c ∷ cs) next rise none = (
  inl (refl, refl, λ w is. inr (none c.serial rise.0, is)),
  all_weaken (λ d. SomeOf (λ q. GoesOn f q d) cs) (λ d. SomeOf (λ q. GoesOn f q d) (c ∷ cs)) cs (λ d some. inr some)
      (below_rows f cs next rise.2 none),
)

abbrev InOutcome : Tables → EventValue → Outcome → Type 0
InOutcome t event o = Rows t (entered_in event o.reply o.acts) o.tables.clients

attached : (t : Tables) (user : UserId) (rows columns : ℕ) → AreSound t
    → let c : Client = new_client t user rows columns in let left : List Act = left_acts t.clients (t.clients ++ c ∷ [])
    in
    Rows t (λ n. if t.next_client == n then entered_by (entering user (focused c) ++ left) else None)
    (t.clients ++ c ∷ [])
attached t user rows columns s =
    let c : Client = new_client t user rows columns in
    let left : List Act = left_acts t.clients (t.clients ++ c ∷ []) in
    let f : ℕ
    → Option (UserId × ℕ) = λ n. if t.next_client == n then entered_by (entering user (focused c) ++ left) else None
    in
    all_append (λ d. SomeOf (λ q. GoesOn f q d) t.clients ⊎ IsNew t f d) t.clients (c ∷ [])
    (old_rows t f t.clients
    (below_rows f t.clients t.next_client s.clients_rise
    (λ n lt. ap (λ (b : Bool). if b then entered_by (entering user (focused c) ++ left) else None)
    (off n t.next_client lt)))) (
      inr (
        refl,
        λ w is. ap (λ (b : Bool). if b then entered_by (entering user (focused c) ++ left) else None)
            (itself t.next_client) ∙ ap (λ o. entered_by (entering user o ++ left)) is,
      ),
      tt,
    ) where
      off : (n next : ℕ) → n < next → (next == n) ≡ false
      off n next lt = grind (arith, nat_tests, lt)

-- the rows after one client's row is changed
row_changed : (t : Tables) (c d : Client) → client_at t c.serial ≡ Some c → Same c d → AreSound t
    → Rows t (λ n. None) (with_client t d).clients
row_changed t c d at same s =
    subst (λ n. Rows t (λ n. None) (with_row (λ (r : Client). r.serial) t.clients n d)) (sym same.0)
    (old_rows t (λ n. None) (with_row (λ (r : Client). r.serial) t.clients c.serial d)
    (row_goes (λ n. None) c d (same.0, same.1, λ w is. inr (refl, same.2 w is)) (λ n off. refl) t.clients t.next_client
    s.clients_rise at))

-- a step that isn't a client's own enters no window
not_own : (t : Tables) (event : EventValue) (x : outcomes.Change) → outcomes.change_of event ≡ Some x
    → (acts : List Act) (ds : List Client) → Rows t (λ n. None) ds → Rows t (entered_in event done acts) ds
not_own t (Attach user rows columns) x is acts ds all = absurd (cc (is))
not_own t (Keys client bytes) x is acts ds all = absurd (cc (is))
not_own t event x is acts ds all = all

happened : (t : Tables) (event : EventValue) (o : Outcome) → AreSound t → outcomes.Happens t event o
    → InOutcome t event o
happened t _ _ s (outcomes.failed event vs r why) = old_rows t _ t.clients
    (kept_go t.clients t.clients _ (λ n. none_if (is_own_step event (Err r) n)) (kept_same t.clients))
happened t _ _ s (outcomes.changed event x c is f at) =
    let u : Tables = with_client t (x.row c) in
    not_own t event x is (left_acts t.clients u.clients) u.clients
    (row_changed t c (x.row c) (row_at t x.client c at) (f.serial c, f.user c, λ w shown. sym (f.focus c) ∙ shown)
    s)
happened t _ _ s (outcomes.attached user rows columns passes) = attached t user rows columns s
happened t _ _ s (outcomes.detached client c at) = kept_rows t _
    (kept_fewer (λ d. not (d.serial == client)) t.clients t.clients (kept_same t.clients))
happened t _ _ s (outcomes.keyed client bytes c at) = old_rows t _ _ (keys_gone t client bytes c at s)
happened t _ _ s (outcomes.obeyed user number bytes c d known read passes is) =
    old_rows t (λ n. None) d.tables.clients
    (subst (Either (HasGone t (line_caller t user number))) is
    (gone t (line_caller t user number) s.clients_rise c)).all
happened t _ _ s (outcomes.closed window w at) = kept_rows t _
    (without_kept t.clients (filter (λ (v : Window). v.serial == window) t.windows) t.clients (kept_same t.clients))
happened t _ _ s kind = still t

outcome_gone : (t : Tables) (event : EventValue) → AreSound t → InOutcome t event (outcome t event)
outcome_gone t event s = happened t event (outcome t event) s (outcomes.happens t event)

-- ---- steps

drawn_row : (effects : List Effect) (v : View) (c : Client) → Same c (with_drawn effects v c)
drawn_row [] v c = (refl, refl, λ w is. is)
drawn_row (f ∷ effects) v c = (refl, refl, λ w is. is)

quiet_draw : (t : Tables) (client : ℕ) → (outcome t (Draw client)).tables.clients ≡ t.clients
quiet_draw t client = outcomes.found (λ o. o.tables.clients ≡ t.clients) t (λ c. finished t [] done (changing t))
    (client_at t client) refl (λ c is. refl)

drawn_rows : (t u : Tables) (client : ℕ) (effects : List Effect) (o : Option Client) → u.clients ≡ t.clients
    → client_at u client ≡ o → AreSound t → Rows t (λ n. None) (drawn_on o effects u).clients
drawn_rows t u client effects None same at s = subst (Rows t (λ n. None)) (sym same) (still t)
drawn_rows t u client effects (Some c) same at s =
    let x : Client = with_drawn effects (granted_view u c) c in
    let there : client_at t client ≡ Some c = ap (λ cs. row_of (λ (r : Client). r.serial) cs client) (sym same) ∙ at in
    subst (λ cs. Rows t (λ n. None) (with_row (λ (r : Client). r.serial) cs x.serial x)) (sym same)
    (row_changed t c x (row_at t client c there) (drawn_row effects (granted_view u c) c) s)

step_gone : (t : Tables) (event : EventValue) (reply : Reply) (acts : List Act) (effects : List Effect) → AreSound t
    → reply ≡ (outcome t event).reply → acts ≡ (outcome t event).acts
    → Rows t (entered_in event reply acts) (drawn event effects (outcome t event).tables).clients
step_gone t (Draw client) reply acts effects s r a =
    let u : Tables = (outcome t (Draw client)).tables in
    drawn_rows t u client effects (client_at u client) (quiet_draw t client) refl s
step_gone t event reply acts effects s r a =
    subst (λ x. Rows t (entered_in event x acts) (outcome t event).tables.clients) (sym r)
    (subst (λ x. Rows t (entered_in event (outcome t event).reply x) (outcome t event).tables.clients) (sym a)
    (outcome_gone t event s))

-- ---- runs

abbrev Recalls : Tables → (ℕ → Option (UserId × ℕ)) → Type 0
Recalls t last = AllByRecursion (λ (c : Client). (w : ℕ) → focused c ≡ Some w → last c.serial ≡ Some (c.user, w))
    t.clients

recalls : (t : Tables) (last : ℕ → Option (UserId × ℕ)) (e : Entry) → AreSound t → IsStep t e → Recalls t last
    → Recalls (after t e) (λ n. option_or (entered_in e.event e.reply e.acts n) (last n))
recalls t last e s step m = all_weaken (λ d. SomeOf (λ c. GoesOn f c d) t.clients ⊎ IsNew t f d)
    (λ (d : Client). (w : ℕ) → focused d ≡ Some w → option_or (f d.serial) (last d.serial) ≡ Some (d.user, w))
    (after t e).clients one
    (step_gone t e.event e.reply e.acts e.effects s step.reply step.acts) where
      f : ℕ → Option (UserId × ℕ)
      f n = entered_in e.event e.reply e.acts n

      one : (d : Client) → SomeOf (λ c. GoesOn f c d) t.clients ⊎ IsNew t f d → (w : ℕ) → focused d ≡ Some w
          → option_or (f d.serial) (last d.serial) ≡ Some (d.user, w)
      one d row w is = ⊎_elim
          (λ (old : SomeOf (λ c. GoesOn f c d) t.clients). some_elim (λ c. GoesOn f c d)
          (λ (c : Client). (w : ℕ) → focused c ≡ Some w → last c.serial ≡ Some (c.user, w))
          (option_or (f d.serial) (last d.serial) ≡ Some (d.user, w)) t.clients
          (λ c go was. ap (λ n. option_or (f n) (last n)) go.0 ∙ ⊎_elim
          (λ (here : f c.serial ≡ Some (c.user, w)). ap (λ o. option_or o (last c.serial)) here)
          (λ before. ap (λ o. option_or o (last c.serial)) before.0 ∙ was w before.1) (go.2 w is)
          ∙ ap (λ (u : UserId). Some (u, w)) (sym go.1)) old m)
          (λ (new : IsNew t f d). ap (λ n. option_or (f n) (last n)) new.0
          ∙ ap (λ o. option_or o (last t.next_client)) (new.1 w is)) row

run_recalls : (edition : Edition) (owner : UserId) (entries : List Entry) → IsRunFrom (fresh edition owner) entries
    → Recalls (tables_from (fresh edition owner) entries) (last_entered entries)
run_recalls edition owner [] run = tt
run_recalls edition owner (e ∷ past) run =
    recalls (tables_from (fresh edition owner) past) (last_entered past) e
    (run_sound (fresh edition owner) past (fresh_sound edition owner)) run.1 (run_recalls edition owner past run.0)

pub recalled : (h : Trace) → IsRun h → (n : ℕ) (c : Client) → client_at (tables_of h) n ≡ Some c → (w : ℕ)
    → focused c ≡ Some w → last_entered h.entries n ≡ Some (c.user, w)
recalled h run n c is w at =
    ap (last_entered h.entries) (sym (row_serial (λ (r : Client). r.serial) (tables_of h).clients n c is))
    ∙ some_has (λ (c : Client). (w : ℕ) → focused c ≡ Some w → last_entered h.entries c.serial ≡ Some (c.user, w)) c
    (tables_of h).clients (some_row (λ (r : Client). r.serial) (tables_of h).clients n c is)
    (run_recalls h.edition h.owner h.entries run) w at
