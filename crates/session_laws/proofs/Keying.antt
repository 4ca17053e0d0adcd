-- Keys do to cut tables what they do to these; and so does each event, but for output that is cut.
use Rattle.session_laws.proofs.Vocabulary.{◌≡◌, ℕ, Bool, true, false, not, List, [], ◌∷◌, ◌++◌, Option, Some, None, Ok}
use Rattle.session_laws.proofs.Vocabulary.{Err, Result, refl, ap, sym, ◌∙◌, length, take, ◌==◌, option_map, UserId}
use Rattle.session_laws.proofs.Vocabulary.{Order, ParseFault, Item, bound, line, reads, Writing, Say, StatusMessage}
use Rattle.session_laws.proofs.Vocabulary.{Refusal, Line, Verdict, EventValue, Attach, Detach, Keys, Command, Open}
use Rattle.session_laws.proofs.Vocabulary.{Output, Closed, Draw, Tables, Window, Client, client_at, with_client}
use Rattle.session_laws.proofs.Vocabulary.{with_window, focused_window, terminal_of, text_of, read_line, Caller}
use Rattle.session_laws.proofs.Vocabulary.{caller_of, verdicts, first_fault, typing_checks, Deed, Answer, changing}
use Rattle.session_laws.proofs.Vocabulary.{hearing, input_of, ruling, items_behind, taken, typed_bytes, command_item}
use Rattle.session_laws.proofs.Vocabulary.{Outcome, reply_of, done, finished, where_passed, open_checks, new_window}
use Rattle.session_laws.proofs.Vocabulary.{opens, outputs, told, says, says_why, input_in, types, typing_verdicts}
use Rattle.session_laws.proofs.Vocabulary.{message_of, with_listed, keyed, Ordered, by_ruling, by_line, ordered, unsaid}
use Rattle.session_laws.proofs.Vocabulary.{reading, keys_outcome, outcome, row_serial, is_hidden}
use Rattle.terminal_model.specs.Writing as written
use Rattle.session_model.specs.declared.event.Reason.TheVariants as reason
use Rattle.session_model.specs.declared.event.StatusMessage.TheVariants as message
use Rattle.session_laws.proofs.Outcomes.{undrawn, Change, Changes, changes}
use Rattle.session_laws.proofs.Cutting.{cut_window, cut_client, cut, cut_deed, cut_caller, cut_writing, client_cut}
use Rattle.session_laws.proofs.Cutting.{with_client_cut, with_window_cut}
use Rattle.session_laws.proofs.Finding.{focus_cut}
use Rattle.session_laws.proofs.Checking.{fault_cut, verdicts_cut, typing_checks_cut}
use Rattle.session_laws.proofs.Rows.{cut_answer, parts_cut, closes_cut}
use Rattle.session_laws.proofs.GuestsOutcomes.{cut_outcome, finished_cut, done_cut, passed_cut, by_client, by_window}
use Rattle.session_laws.proofs.GuestsOutcomes.{command_cut, ruled_cut, verdicts_ruled, attached_cut, attach_checks_cut}
use Rattle.session_laws.proofs.GuestsOutcomes.{open_checks_cut, opens_cut, opened_cut, new_cut}

module _ (shown : ℕ → Bool) (seeing : UserId → Bool) where
  abbrev f : Window → Window
  f = cut_window shown seeing

  abbrev g : Client → Client
  g = cut_client shown seeing

  abbrev less : Tables → Tables
  less = cut shown seeing

  -- ---- what is told

  told_cut : (t : Tables) (client : ℕ) (m : StatusMessage) → told (less t) client m ≡ less (told t client m)
  told_cut t client m =
      ap (λ o. elim o as (λ _. Tables) [ None ↦ less t | Some c ↦ with_client (less t) (hearing m c) ])
      (client_cut shown seeing t client) ∙ on (client_at t client) where
        on : (o : Option Client)
            → elim (option_map g o) as (λ _. Tables) [ None ↦ less t | Some c ↦ with_client (less t) (hearing m c) ] ≡
            less (elim o as (λ _. Tables) [ None ↦ t | Some c ↦ with_client t (hearing m c) ])
        on None = refl
        on (Some c) = with_client_cut shown seeing t (hearing m c)

  says_cut : (t : Tables) (client : ℕ) (m : StatusMessage) (bytes : List ℕ)
      → says (less t) client m bytes ≡ cut_deed shown seeing (says t client m bytes)
  says_cut t client m bytes = ap (λ u. record (changing u) { effects = Say client bytes ∷ [] }) (told_cut t client m)

  listed_cut : (client : ℕ) (m : List ℕ → StatusMessage) (o : Option (List ℕ)) (d : Deed)
      → with_listed client m o (cut_deed shown seeing d) ≡ cut_deed shown seeing (with_listed client m o d)
  listed_cut client m None d = refl
  listed_cut client m (Some bytes) d = ap (λ (e : Deed). record e { acts = d.acts; effects = d.effects ++ e.effects })
      (says_cut d.tables client (m bytes) bytes)

  keyed_cut : (t : Tables) (client : ℕ) (m : List ℕ → StatusMessage) (a b : Answer) → a ≡ cut_answer shown seeing b
      → keyed (less t) client m a ≡ cut_deed shown seeing (keyed t client m b)
  keyed_cut t client m a b same = ap (keyed (less t) client m) same ∙ on b where
    on : (b : Answer) → keyed (less t) client m (cut_answer shown seeing b) ≡ cut_deed shown seeing (keyed t client m b)
    on (Ok d) = listed_cut client m d.lists d
    on (Err r) = says_cut t client (message.Text (text_of r)) (text_of r)

  -- ---- what is typed

  input_cut : (o : Option Window) (bytes : List ℕ) → input_in (option_map f o) bytes ≡ input_in o bytes
  input_cut None bytes = refl
  input_cut (Some w) bytes = refl

  types_cut : (t : Tables) (c : Client) (bytes : List ℕ)
      → types (less t) (g c) bytes ≡ cut_deed shown seeing (types t c bytes)
  types_cut t c [] = refl
  types_cut t c (b ∷ bytes) =
      ap (λ o. elim (first_fault (less t) (typing_checks c.user o)) as (λ _. Deed) [
        | Some r ↦ says_why (less t) c.serial r
        | None ↦ record (changing (less t))
            { effects = input_in o (b ∷ bytes) }
      ]) (focus_cut shown seeing t c)
      ∙ ap (λ cs. elim (first_fault (less t) cs) as (λ _. Deed) [
        | Some r ↦ says_why (less t) c.serial r
        | None ↦ record (changing (less t))
            { effects = input_in (option_map f (focused_window t c)) (b ∷ bytes) }
      ])
      (typing_checks_cut shown seeing c.user (focused_window t c))
      ∙ ap (λ o. elim o as (λ _. Deed) [
        | Some r ↦ says_why (less t) c.serial r
        | None ↦ record (changing (less t))
            { effects = input_in (option_map f (focused_window t c)) (b ∷ bytes) }
      ])
      (fault_cut shown seeing t (typing_checks c.user (focused_window t c)))
      ∙ ap (λ es. elim (first_fault t (typing_checks c.user (focused_window t c))) as (λ _. Deed)
      [ Some r ↦ says_why (less t) c.serial r | None ↦ record (changing (less t)) { effects = es } ])
      (input_cut (focused_window t c) (b ∷ bytes))
      ∙ on (first_fault t (typing_checks c.user (focused_window t c))) where
        on : (o : Option Refusal)
            → elim o as (λ _. Deed) [
              | Some r ↦ says_why (less t) c.serial r
              | None ↦ record (changing (less t))
                  { effects = input_in (focused_window t c) (b ∷ bytes) }
            ]
            ≡ cut_deed shown seeing
            (elim o as (λ _. Deed) [
              | Some r ↦ says_why t c.serial r
              | None ↦ record (changing t)
                  { effects = input_in (focused_window t c) (b ∷ bytes) }
            ])
        on (Some r) = says_cut t c.serial (message.Text (text_of r)) (text_of r)
        on None = refl

  verdicts_typed : (t : Tables) (c : Client) (bytes : List ℕ)
      → typing_verdicts (less t) (g c) bytes ≡ typing_verdicts t c bytes
  verdicts_typed t c [] = refl
  verdicts_typed t c (b ∷ bytes) =
      ap (λ o. verdicts (less t) (typing_checks c.user o)) (focus_cut shown seeing t c)
      ∙ ap (verdicts (less t)) (typing_checks_cut shown seeing c.user (focused_window t c))
      ∙ verdicts_cut shown seeing t (typing_checks c.user (focused_window t c))

  -- ---- what is ordered

  abbrev cut_ordered : Ordered → Ordered
  cut_ordered o = record o { deed = cut_deed shown seeing o.deed }

  called_cut : (t : Tables) (c : Client) → caller_of (less t) (g c) ≡ cut_caller shown seeing (caller_of t c)
  called_cut t c = ap (λ o. record (caller_of t c) { window = o }) (focus_cut shown seeing t c)

  ruling_cut : (t : Tables) (c : Client) (m : List ℕ → StatusMessage) (k : Caller) (order : Order)
      → by_ruling (less t) (g c) m (ruling (less t) (cut_caller shown seeing k) order) ≡ cut_ordered
      (by_ruling t c m (ruling t k order))
  ruling_cut t c m k order =
      ap (λ vs. record {
        verdicts = vs;
        deed = keyed (less t) c.serial m (ruling (less t) (cut_caller shown seeing k) order).answer;
      }) (verdicts_ruled shown seeing t k order)
      ∙ ap (λ d. record { verdicts = (ruling t k order).verdicts; deed = d })
      (keyed_cut t c.serial m _ (ruling t k order).answer (ruled_cut shown seeing t k order))

  line_cut : (t : Tables) (c : Client) (r : Result Order ParseFault)
      → by_line (less t) (g c) r ≡ cut_ordered (by_line t c r)
  line_cut t c (Err x) = ap (λ d. record { verdicts = []; deed = d })
      (says_cut t c.serial (message.Text (text_of (Line x))) (text_of (Line x)))
  line_cut t c (Ok order) =
      ap (λ k. by_ruling (less t) (g c) (message_of order) (ruling (less t) k order)) (called_cut t c)
      ∙ ruling_cut t c (message_of order) (caller_of t c) order

  ordered_cut : (t : Tables) (c : Client) (item : Option Item)
      → ordered (less t) (g c) item ≡ cut_ordered (ordered t c item)
  ordered_cut t c (Some (bound order)) = line_cut t c (Ok order)
  ordered_cut t c (Some (line (b ∷ bytes))) = line_cut t c (read_line (b ∷ bytes))
  ordered_cut t c item = refl

  -- ---- a step of keys

  keys_cut : (t : Tables) (c : Client) (bytes : List ℕ)
      → keys_outcome (less t) (g c) bytes ≡ cut_outcome shown seeing (keys_outcome t c bytes)
  keys_cut t c bytes =
      let given : List Item = items_behind c.keys bytes in
      let d : Client = reading bytes c in
      let u : Tables = with_client t d in
      let made : Deed → Ordered → List Verdict → Outcome =
      λ typing order vs. finished (less t) (vs ++ order.verdicts) (reply_of (length bytes) 0 0 None)
      (record order.deed { effects = typing.effects ++ unsaid typing.effects order.deed.effects }) in
      let typed_so : types (with_client (less t) (g d)) (g d) (typed_bytes given) ≡ cut_deed shown seeing
      (types u d (typed_bytes given)) =
      ap (λ v. types v (g d) (typed_bytes given)) (with_client_cut shown seeing t d)
      ∙ types_cut u d (typed_bytes given) in
      ap (λ typing. made typing (ordered typing.tables (g d) (command_item given))
      (typing_verdicts (less t) (g c) (typed_bytes given))) typed_so
      ∙ ap (λ order. made (types u d (typed_bytes given)) order (typing_verdicts (less t) (g c) (typed_bytes given)))
      (ordered_cut (types u d (typed_bytes given)).tables d (command_item given))
      ∙ ap (λ vs. made (types u d (typed_bytes given))
      (cut_ordered (ordered (types u d (typed_bytes given)).tables d (command_item given))) vs)
      (verdicts_typed t c (typed_bytes given))
      ∙ finished_cut shown seeing t
      (typing_verdicts t c (typed_bytes given) ++
      (ordered (types u d (typed_bytes given)).tables d (command_item given)).verdicts)
      (reply_of (length bytes) 0 0 None)
      (record (ordered (types u d (typed_bytes given)).tables d (command_item given)).deed {
        effects = (types u d (typed_bytes given)).effects ++ unsaid (types u d (typed_bytes given)).effects
            (ordered (types u d (typed_bytes given)).tables d (command_item given)).deed.effects;
      })

  -- ---- a change of a client's own row

  module _ (event : EventValue) (x : Change) (f : Changes event x) where
    changed_cut : (c : Client) → x.row (g c) ≡ g (x.row c)
    changed_cut c = f.drawn (seeing c.user) c ∙ ap (λ v. undrawn (seeing v) (x.row c)) (sym (f.user c))

    change_cut : (t : Tables) → outcome (less t) event ≡ cut_outcome shown seeing (outcome t event)
    change_cut t =
        f.happens (less t)
        ∙ by_client shown seeing t x.client _ _
        (λ c is. passed_cut shown seeing t x.checks _ done _ _ refl
        (ap changing (ap (with_client (less t)) (changed_cut c) ∙ with_client_cut shown seeing t (x.row c))))
        ∙ sym (ap (cut_outcome shown seeing) (f.happens t))

  -- ---- output of a window that isn't cut

  whole : (b : Bool) (ws : List Writing) → b ≡ true → cut_writing shown seeing b ws ≡ ws
  whole true ws is = refl
  whole false ws is = absurd (cc (is))

  whole_window : (w : Window) → shown w.serial ≡ true → f w ≡ w
  whole_window w is = ap (λ ws. record w { writing = ws }) (whole (shown w.serial) w.writing is)

  outputs_cut : (t : Tables) (w : Window) (bytes : List ℕ) → shown w.serial ≡ true
      → outputs (less t) (f w) bytes ≡ cut_deed shown seeing (outputs t w bytes)
  outputs_cut t w bytes is =
      let v : Window = record w { writing = w.writing ++ written.Output bytes ∷ [] } in
      ap (λ w. outputs (less t) w bytes) (whole_window w is)
      ∙ ap (λ x. record (changing (with_window (less t) x))
      { effects = input_of w.serial (reads (terminal_of w) bytes).reports }) (sym (whole_window v is))
      ∙ ap (λ u. record (changing u) { effects = input_of w.serial (reads (terminal_of w) bytes).reports })
      (with_window_cut shown seeing t v)

  not_hidden : (b : Bool) → not b ≡ false → b ≡ true
  not_hidden true is = refl
  not_hidden false is = absurd (cc (is))

  -- ---- the events

  pub outcome_cut : (t : Tables) (event : EventValue) → is_hidden shown event ≡ false
      → outcome (less t) event ≡ cut_outcome shown seeing (outcome t event)
  outcome_cut t (Attach user rows columns) stands =
      passed_cut shown seeing t _ _ (reply_of 0 t.next_client 0 None) _ _
      (attach_checks_cut shown seeing t user rows columns) (attached_cut shown seeing t user rows columns)
  outcome_cut t (Detach client) stands = by_client shown seeing t client _ _
      (λ c is. done_cut shown seeing t [] done _ _
      (parts_cut shown seeing (λ (d : Client). d.serial == client) reason.Detached t (λ d. refl)))
  outcome_cut t (Keys client bytes) stands = by_client shown seeing t client _ _
      (λ c is. keys_cut t c (take (taken c.keys bytes) bytes))
  outcome_cut t (Command user number bytes) stands = command_cut shown seeing t user number bytes
  outcome_cut t (Open user rows columns keep title) stands =
      let w : Window = new_window t rows columns keep title in
      ap (λ v. where_passed (less t) (open_checks (less t) user rows columns keep title)
      (reply_of 0 v.serial v.number None) (opens (less t) user v))
      (opened_cut shown seeing t rows columns keep title)
      ∙ passed_cut shown seeing t _ _ (reply_of 0 w.serial w.number None) _ _
      (open_checks_cut shown seeing t user rows columns keep title)
      (opens_cut shown seeing t user w (new_cut shown seeing t rows columns keep title))
  outcome_cut t (Output window bytes) stands = by_window shown seeing t window _ _
      (λ w is. done_cut shown seeing t [] done _ _
      (outputs_cut t w bytes
      (ap shown (row_serial (λ (v : Window). v.serial) t.windows window w is) ∙ not_hidden (shown window) stands)))
  outcome_cut t (Closed window) stands = by_window shown seeing t window _ _
      (λ w is. done_cut shown seeing t [] done _ _
      (closes_cut shown seeing (λ (v : Window). v.serial == window) reason.Detached t (λ v. refl)))
  outcome_cut t (Draw client) stands = by_client shown seeing t client _ _
      (λ c is. done_cut shown seeing t [] done (changing (less t)) (changing t) refl)
  outcome_cut t event stands = change_cut event _ (changes event _ refl) t
