-- Each client of a run has exactly the keys and the deliveries that the run's entries say.
use Rattle.session_laws.proofs.Vocabulary.{◌≡◌, ℕ, ◌<◌, ◌≤◌, Bool, true, false, List, [], ◌∷◌, ◌++◌, Option, Some, None}
use Rattle.session_laws.proofs.Vocabulary.{refl, ap, sym, ◌∙◌, subst, take, length, ⊎_elim, arith, if◌then◌else◌, ◌==◌}
use Rattle.session_laws.proofs.Vocabulary.{MatchOption, AllByRecursion, nat_tests, UserId, Effect, Deliver, EventValue}
use Rattle.session_laws.proofs.Vocabulary.{Keys, Draw, Reply, Entry, Trace, Tables, Client, row_of, client_at, fresh}
use Rattle.session_laws.proofs.Vocabulary.{taken, outcome, keys_outcome, HasEffects, IsDraw, DrawsWhereNeeded}
use Rattle.session_laws.proofs.Vocabulary.{deliveries, drawn, after, IsStep, IsRun, IsRunFrom, tables_from, tables_of}
use Rattle.session_laws.proofs.Vocabulary.{SomeOf, Rises, AreSound, client_serials, some_elim, keys_read, is_resize}
use Rattle.session_laws.proofs.Vocabulary.{delivered_by, all_keys, all_delivered, all_weaken, equal, row_serial}
use Rattle.session_laws.proofs.Vocabulary.{Edition}
use Rattle.session_laws.proofs.Settling.{after_grows}
use Rattle.session_laws.proofs.Past.{GoesOn}
use Rattle.session_laws.proofs.Sounding.{run_sound, fresh_sound}
use Rattle.session_laws.proofs.Outcomes as outcomes
use Rattle.session_laws.proofs.ClientsOfSteps.{Row, step_rows, none_of}

-- ---- serials that weren't given yet

row_below : (cs : List Client) (next n : ℕ) (c : Client) → Rises (client_serials cs) next
    → row_of (λ (r : Client). r.serial) cs n ≡ Some c → c.serial < next
row_below [] next n c rise is = absurd (cc (is))
row_below (r ∷ cs) next n c rise is = on (r.serial == n) is (row_below cs next n c rise.2) where
  on : (b : Bool) → (if b then Some r else row_of (λ (q : Client). q.serial) cs n) ≡ Some c
      → (row_of (λ (q : Client). q.serial) cs n ≡ Some c → c.serial < next) → c.serial < next
  on true is more = let e : r ≡ c = cc (is) in subst (λ (q : Client). q.serial < next) e rise.0
  on false is more = more is

below_off : (client n next : ℕ) → client < next → next ≤ n → (client == n) ≡ false
below_off client n next lt le = grind (arith, nat_tests, lt, le)

-- a client that isn't there has read no keys, and nothing was delivered to it
above_unread : (t : Tables) (event : EventValue) (n : ℕ) → AreSound t → t.next_client ≤ n
    → keys_read event (outcome t event).reply n ≡ []
above_unread t (Keys client bytes) n s le =
    outcomes.found (λ o. keys_read (Keys client bytes) o.reply n ≡ []) t
    (λ c. keys_outcome t c (take (taken c.keys bytes) bytes)) (client_at t client) refl
    (λ c is. let lt : client < t.next_client = subst (λ m. m < t.next_client)
    (row_serial (λ (r : Client). r.serial) t.clients client c is)
    (row_below t.clients t.next_client client c s.clients_rise is) in
    ap (λ (b : Bool). if b then take (length (take (taken c.keys bytes) bytes)) bytes else [])
    (below_off client n t.next_client lt le))
above_unread t event n s le = refl

drawn_above : (t : Tables) (client n : ℕ) (effects : List Effect) (o : Option Client) → client_at t client ≡ o
    → AreSound t → t.next_client ≤ n → MatchOption o (effects ≡ []) (IsDraw t effects) → deliveries effects n ≡ []
drawn_above t client n effects None at s le is = ap (λ es. deliveries es n) is
drawn_above t client n effects (Some c) at s le is = on effects is.drawn where
  lt : c.serial < t.next_client
  lt = row_below t.clients t.next_client client c s.clients_rise at

  on : (es : List Effect) → DrawsWhereNeeded t c es → deliveries es n ≡ []
  on [] none = refl
  on (Deliver to bytes ∷ []) one = ap (λ (b : Bool). (if b then bytes else []) ++ [])
      (below_off to n t.next_client (subst (λ m. m < t.next_client) (sym one.0) lt) le)
  on (f ∷ es) other = absurd other

above_none : (t : Tables) (event : EventValue) (effects : List Effect) (n : ℕ) → AreSound t → t.next_client ≤ n
    → HasEffects t event effects → deliveries effects n ≡ []
above_none t (Draw client) effects n s le is = drawn_above t client n effects (client_at t client) refl s le is
above_none t event effects n s le is = none_of t event effects refl is n

-- ---- runs

pub record Remembers (t : Tables) (past : List Entry) : Type 0 where
  pub rows : AllByRecursion
      (λ (c : Client). (c.keys ≡ all_keys past c.serial) × (c.delivered ≡ all_delivered past c.serial)) t.clients
  pub later : (n : ℕ) → t.next_client ≤ n → (all_keys past n ≡ []) × (all_delivered past n ≡ [])

none_by : (event : EventValue) (reply : Reply) (effects : List Effect) (n : ℕ) (before : List ℕ) → before ≡ []
    → deliveries effects n ≡ [] → delivered_by event reply effects n before ≡ []
none_by event reply effects n before is none = ap
    (λ bs. (if is_resize event reply n then [] else bs) ++ deliveries effects n) is
    ∙ ap (λ bs. (if is_resize event reply n then [] else []) ++ bs) none ∙ on (is_resize event reply n) where
      on : (b : Bool) → (if b then (let empty : List ℕ = [] in empty) else []) ++ [] ≡ []
      on true = refl
      on false = refl

pub remembers : (t : Tables) (past : List Entry) (e : Entry) → AreSound t → IsStep t e → Remembers t past
    → Remembers (after t e) (e ∷ past)
remembers t past e s step m = record {
  rows = subst
      (λ (reply : Reply). AllByRecursion
      (λ (d : Client). (d.keys ≡ all_keys past d.serial ++ keys_read e.event reply d.serial)
      × (d.delivered ≡ delivered_by e.event reply e.effects d.serial (all_delivered past d.serial)))
      (after t e).clients) (sym step.reply)
      (all_weaken (Row t e.event (outcome t e.event).reply e.effects)
      (λ (d : Client). (d.keys ≡ all_keys past d.serial ++ keys_read e.event (outcome t e.event).reply d.serial)
      ×
      (d.delivered ≡ delivered_by e.event (outcome t e.event).reply e.effects d.serial
      (all_delivered past d.serial))) (after t e).clients one
      (step_rows t e.event e.effects s step.effects));
  later = λ n le.
      let above : t.next_client ≤ n =
      (let grows : t.next_client ≤ (after t e).next_client = (after_grows t e.event e.effects s).1 in omega
      (arith, grows, le)) in
      let old = m.later n above in (
        ap (λ ks. ks ++ keys_read e.event e.reply n) old.0 ∙ ap (λ (r : Reply). keys_read e.event r n) step.reply
            ∙ above_unread t e.event n s above,
        none_by e.event e.reply e.effects n (all_delivered past n) old.1
            (above_none t e.event e.effects n s above step.effects),
      );
} where
  le : t.next_client ≤ t.next_client
  le = omega arith

  one : (d : Client) → Row t e.event (outcome t e.event).reply e.effects d
      → (d.keys ≡ all_keys past d.serial ++ keys_read e.event (outcome t e.event).reply d.serial)
      ×
      (d.delivered ≡ delivered_by e.event (outcome t e.event).reply e.effects d.serial
      (all_delivered past d.serial))
  one d row =
      let reply : Reply = (outcome t e.event).reply in
      let keys_at : ℕ → List ℕ = λ n. all_keys past n ++ keys_read e.event reply n in
      let delivered_at : ℕ → List ℕ = λ n. delivered_by e.event reply e.effects n (all_delivered past n) in
      ⊎_elim
      (λ (old : SomeOf (λ c. GoesOn e.event reply e.effects c d) t.clients).
      some_elim (λ c. GoesOn e.event reply e.effects c d)
      (λ (c : Client). (c.keys ≡ all_keys past c.serial) × (c.delivered ≡ all_delivered past c.serial))
      ((d.keys ≡ keys_at d.serial) × (d.delivered ≡ delivered_at d.serial)) t.clients
      (λ c go was. (
        go.1 ∙ ap (λ ks. ks ++ keys_read e.event reply c.serial) was.0 ∙ ap keys_at (sym go.0),
        go.2 ∙ ap (delivered_by e.event reply e.effects c.serial) was.1 ∙ ap delivered_at (sym go.0),
      )) old m.rows)
      (λ new.
      let was = m.later t.next_client le in (
        new.1
            ∙ sym
            (ap (λ ks. ks ++ keys_read e.event reply t.next_client) was.0 ∙ above_unread t e.event t.next_client s le)
            ∙ ap keys_at (sym new.0),
        new.2
            ∙ sym
            (none_by e.event reply e.effects t.next_client (all_delivered past t.next_client) was.1
            (above_none t e.event e.effects t.next_client s le step.effects)) ∙ ap delivered_at (sym new.0),
      ))
      row

pub run_remembers : (edition : Edition) (owner : UserId) (entries : List Entry)
    → IsRunFrom (fresh edition owner) entries → Remembers (tables_from (fresh edition owner) entries) entries
run_remembers edition owner [] run = record { rows = tt; later = λ n le. (refl, refl) }
run_remembers edition owner (e ∷ past) run =
    remembers (tables_from (fresh edition owner) past) past e
    (run_sound (fresh edition owner) past (fresh_sound edition owner)) run.1
    (run_remembers edition owner past run.0)

found_row : (past : List Entry) (cs : List Client) (n : ℕ) (c : Client)
    → row_of (λ (r : Client). r.serial) cs n ≡ Some c
    → AllByRecursion (λ (r : Client). (r.keys ≡ all_keys past r.serial) × (r.delivered ≡ all_delivered past r.serial))
    cs → (c.keys ≡ all_keys past n) × (c.delivered ≡ all_delivered past n)
found_row past [] n c is all = absurd (cc (is))
found_row past (r ∷ cs) n c is all = on (r.serial == n) refl is (found_row past cs n c) where
  on : (b : Bool) → (r.serial == n) ≡ b → (if b then Some r else row_of (λ (q : Client). q.serial) cs n) ≡ Some c
      → (row_of (λ (q : Client). q.serial) cs n ≡ Some c
      → AllByRecursion
      (λ (q : Client). (q.keys ≡ all_keys past q.serial) × (q.delivered ≡ all_delivered past q.serial)) cs
      → (c.keys ≡ all_keys past n) × (c.delivered ≡ all_delivered past n))
      → (c.keys ≡ all_keys past n) × (c.delivered ≡ all_delivered past n)
  on true at is more =
      let e : r ≡ c = cc (is) in
      let same : r.serial ≡ n = equal r.serial n at in
      subst (λ (q : Client). (q.keys ≡ all_keys past n) × (q.delivered ≡ all_delivered past n)) e
      (all.0.0 ∙ ap (all_keys past) same, all.0.1 ∙ ap (all_delivered past) same)
  on false at is more = more is all.1

pub remembered : (h : Trace) → IsRun h → (n : ℕ) (c : Client) → client_at (tables_of h) n ≡ Some c
    → (c.keys ≡ all_keys h.entries n) × (c.delivered ≡ all_delivered h.entries n)
remembered h run n c is = found_row h.entries (tables_of h).clients n c is
    (run_remembers h.edition h.owner h.entries run).rows
