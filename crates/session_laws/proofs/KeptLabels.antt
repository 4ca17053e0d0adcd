-- Windows keep their numbers and titles, except by granted commands on them.
use Rattle.session_laws.proofs.Vocabulary.{◌≡◌, ℕ, Bool, true, false, List, [], ◌∷◌, ◌++◌, Option, Some, None, refl, ap}
use Rattle.session_laws.proofs.Vocabulary.{◌∙◌, subst, inl, inr, if◌then◌else◌, ◌==◌, ◌⊎◌, AllByRecursion}
use Rattle.session_laws.proofs.Vocabulary.{option_map_or, Act, Execute, Order, Effect, Verdict, verdicts, outcome}
use Rattle.session_laws.proofs.Vocabulary.{Outcome, new_window, Given, commands_of, with_order, order_in, ok_of}
use Rattle.session_laws.proofs.Vocabulary.{step_items, command_item, Caller, caller_of, line_caller, read_line, SomeOf}
use Rattle.session_laws.proofs.Vocabulary.{may_in, IsStep, after, drawn_on, AreFit, Tables, Window, Client, window_at}
use Rattle.session_laws.proofs.Vocabulary.{client_at, focused, is_known, EventValue, Keys, Command, Open, Output}
use Rattle.session_laws.proofs.Vocabulary.{Closed, Draw, Reply, Entry, not, filter, some_or, some_both, equal}
use Rattle.session_laws.proofs.Vocabulary.{row_serial, MayName, IsNamed, WindowsStayIn}
use Rattle.acl.specs.declared.act.Object.TheVariants as object
use Rattle.acl.specs.declared.command_name.CommandName.TheVariants as name
use Rattle.terminal_model.specs.Writing as written
use Rattle.session_laws.proofs.Events.{gives_commands}
use Rattle.session_laws.proofs.Doing.{Either}
use Rattle.session_laws.proofs.SoundMoves.{differ}
use Rattle.session_laws.proofs.Outcomes as outcomes
use Rattle.session_laws.proofs.Settling.{focus_row, line_row}
use Rattle.session_laws.proofs.Steps.{Did, Obeys, with_clients}
use Rattle.session_laws.proofs.Gating.{Below, obeys_of, first_passed, then_passed}
use Rattle.session_laws.proofs.CommandLabels.{serial, label_in, closed, opened, written_label, labels_kept, KeepsLabel}
use Rattle.session_laws.proofs.Parting.{did_x}

-- ---- commands act on open windows

abbrev IsRowOf : Tables → Caller → Type 0
IsRowOf t k = (w : Window) → k.window ≡ Some w → window_at t w.serial ≡ Some w

row_given : (t : Tables) (k : Caller) (o : Option Order) → IsRowOf t k
    → AllByRecursion (λ (g : Given). IsRowOf t g.caller) (with_order k o)
row_given t k None row = tt
row_given t k (Some c) row = (row, tt)

rows_given : (t : Tables) (event : EventValue) → AreFit t
    → AllByRecursion (λ (g : Given). IsRowOf t g.caller) (commands_of t event)
rows_given t (Command user number bytes) fit = on (is_known t user) where
  on : (b : Bool)
      → AllByRecursion (λ (g : Given). IsRowOf t g.caller)
      (if b then with_order (line_caller t user number) (ok_of (read_line bytes)) else [])
  on true = row_given t (line_caller t user number) (ok_of (read_line bytes))
      (λ w is. line_row t number w (differ t.windows t.next_window fit.sound.windows_rise) is)
  on false = tt
rows_given t (Keys client bytes) fit = on (client_at t client) where
  on : (o : Option Client)
      → AllByRecursion (λ (g : Given). IsRowOf t g.caller)
      (option_map_or (λ c. with_order (caller_of t c) (order_in (command_item (step_items c bytes)))) o [])
  on None = tt
  on (Some c) = row_given t (caller_of t c) (order_in (command_item (step_items c bytes))) (focus_row t (focused c))
rows_given t event fit = tt

-- ---- what commands leave

module _ (t : Tables) (w : ℕ) where
  abbrev Same : Tables → Type 0
  Same u = label_in u.windows w ≡ label_in t.windows w

  did_named : (e : Entry) (g : Given) → IsRowOf t g.caller → Did t e g → Same (after t e) ⊎ MayName t w g
  did_named e g row d =
      on (subst (Either (KeepsLabel (with_clients t d.clients) g.caller row w g.order)) d.does_it
      (labels_kept (with_clients t d.clients) g.caller row w g.order)) where
        on : KeepsLabel (with_clients t d.clients) g.caller row w g.order d.deed → Same (after t e) ⊎ MayName t w g
        on (inl same) = inl (ap (λ ws. label_in ws w) d.tables.windows ∙ same)
        on (inr names) = inr (record { granted = did_x t e g d; acts = names })

  obeys_named : (e : Entry) → AreFit t → Obeys t e → Same (after t e) ⊎ SomeOf (MayName t w) (commands_of t e.event)
  obeys_named e fit (inl rests) = inl (ap (λ ws. label_in ws w) rests.tables.windows)
  obeys_named e fit (inr some) = some_or (λ g. IsRowOf t g.caller × Did t e g) (MayName t w) (Same (after t e))
      (commands_of t e.event) (λ g both. did_named e g both.0 both.1)
      (some_both (λ g. IsRowOf t g.caller) (Did t e) (commands_of t e.event) (rows_given t e.event fit) some)

  -- ---- other events

  -- why such an event changes the label
  abbrev Why : EventValue → Type 0
  Why (Open user rows columns keep title) =
      (t.next_window ≡ w) × (may_in t user Execute (object.Command name.Screen) ≡ true)
  Why (Closed window) = window ≡ w
  Why event = ⊥

  event_named : (event : EventValue) (o : Outcome) → outcomes.Happens t event o → gives_commands event ≡ false
      → Same o.tables ⊎ Why event
  event_named _ _ (outcomes.keyed client bytes c at) other = absurd (cc (other))
  event_named _ _ (outcomes.obeyed user number bytes c d known read passes is) other = absurd (cc (other))
  event_named _ _ (outcomes.wrote window bytes v at) other = inl
      (written_label t v (record v { writing = v.writing ++ written.Output bytes ∷ [] }) w
      (ap (window_at t) (row_serial serial t.windows window v at) ∙ at) refl refl)
  event_named _ _ (outcomes.closed window v at) other = on (window == w) refl where
    on : (b : Bool) → (window == w) ≡ b
        → (label_in (filter (λ (x : Window). not (x.serial == window)) t.windows) w ≡ label_in t.windows w)
        ⊎ (window ≡ w)
    on true here = inr (equal window w here)
    on false here = inl (closed t.windows window w here)
  event_named _ _ (outcomes.opened user rows columns keep title passes) other =
      on (t.next_window == w) refl
      (first_passed (may_in t user Execute (object.Command name.Screen)) _ _
      (then_passed (is_known t user) _ _ passes)) where
        on : (b : Bool) → (t.next_window == w) ≡ b → may_in t user Execute (object.Command name.Screen) ≡ true
            → (label_in (t.windows ++ new_window t rows columns keep title ∷ []) w ≡ label_in t.windows w) ⊎
            ((t.next_window ≡ w) × (may_in t user Execute (object.Command name.Screen) ≡ true))
        on true here x = inr (equal t.next_window w here, x)
        on false here x = inl (opened t.windows (new_window t rows columns keep title) w here)
  event_named _ _ h other = inl refl

  drawn_same : (o : Option Client) (effects : List Effect) (u : Tables) → Same u → Same (drawn_on o effects u)
  drawn_same None effects u same = same
  drawn_same (Some c) effects u same = same

  -- ---- each step

  stay_by : Below → AreFit t
      → (event : EventValue) (reply : Reply) (acts : List Act) (vs : List Verdict) (effects : List Effect)
      → let e : Entry = record { event = event; reply = reply; acts = acts; verdicts = vs; effects = effects } in IsStep
      t e → Same (after t e) ⊎ IsNamed t e event w
  stay_by laws fit (Keys client bytes) reply acts vs effects step =
      let e : Entry = record { event = Keys client bytes; reply = reply; acts = acts; verdicts = vs; effects = effects }
      in obeys_named e fit (obeys_of laws t e step refl)
  stay_by laws fit (Command user number bytes) reply acts vs effects step =
      let e : Entry = record
      { event = Command user number bytes; reply = reply; acts = acts; verdicts = vs; effects = effects } in
      obeys_named e fit (obeys_of laws t e step refl)
  stay_by laws fit (Draw client) reply acts vs effects step = inl
      (drawn_same (client_at (outcome t (Draw client)).tables client) effects (outcome t (Draw client)).tables
      (ap (λ ws. label_in ws w) (outcomes.same_windows t (Draw client) refl)))
  stay_by laws fit event reply acts vs effects step =
      event_named event (outcome t event) (outcomes.happens t event) refl

pub windows_stay : Below → (t : Tables) (e : Entry) → AreFit t → IsStep t e → WindowsStayIn t e
windows_stay laws t e fit step w = stay_by t w laws fit e.event e.reply e.acts e.verdicts e.effects step
