-- Each event does the same in sessions that are alike.
use Rattle.session_alike.proofs.Vocabulary.{◌≡◌, ℕ, ◌+◌, ◌<◌, true, List, [], ◌∷◌, Option, Some, None, Ok, Err, Result}
use Rattle.session_alike.proofs.Vocabulary.{refl, ap, sym, ◌∙◌, subst, map, arith, if◌then◌else◌, ◌==◌, nat_lt}
use Rattle.session_alike.proofs.Vocabulary.{unwrap_or, option_map, nat_tests, UserId, Order, ParseFault, Arrangement}
use Rattle.session_alike.proofs.Vocabulary.{kept_alone, one_region, reads, writes_all, BothOrNone, Matched, must}
use Rattle.session_alike.proofs.Vocabulary.{BadSize, Line, NoWindow, UnknownUser, Verdict, answered, commanded}
use Rattle.session_alike.proofs.Vocabulary.{line_ruling, ruling, Answer, changing, input_of, outcome, with_client_of}
use Rattle.session_alike.proofs.Vocabulary.{with_window_of, Caller, line_caller, read_line, lowest, Outcome, said_done}
use Rattle.session_alike.proofs.Vocabulary.{reply_of, Client, Tables, Window, client_at, focused, is_known, window_at}
use Rattle.session_alike.proofs.Vocabulary.{with_client, terminal_of, Attach, Closed, Command, Detach, Draw, EventValue}
use Rattle.session_alike.proofs.Vocabulary.{Keys, Open, Output, Resize, Renaming, event_as, layout_as, ClientsAlike}
use Rattle.session_alike.proofs.Vocabulary.{TablesAlike, TextsAlike, WindowsAlike, EffectsAlike, HasSerials}
use Rattle.session_alike.proofs.Vocabulary.{RepliesAlike, made_as, append_match, cases_both, if_as, length_match, pick}
use Rattle.acl.specs.declared.act.Act.TheVariants as act
use Rattle.terminal_model.specs.Writing as written
use Rattle.session_model.specs.declared.event.Reason.TheVariants as reason
use Rattle.session_model.specs.declared.event.StatusMessage.TheVariants as message
use Rattle.session_alike.proofs.Arranging.{alone_as}
use Rattle.session_alike.proofs.Changing.{AnswersAlike, DeedsAlike, arranged_alike, clients_as, closes_alike, declined}
use Rattle.session_alike.proofs.Changing.{deed_as, done, entering_as, input_as, parts_alike, put_client_alike}
use Rattle.session_alike.proofs.Changing.{tables_as, writes_alike}
use Rattle.session_alike.proofs.Checking.{CallersAlike, check_as, serial_as}
use Rattle.session_alike.proofs.Finding.{client_alike, client_serials, focused_as, known_alike, window_alike}
use Rattle.session_alike.proofs.Finding.{window_serials}
use Rattle.session_alike.proofs.Naming.{free_both, given_number_both, lowest_both}
use Rattle.session_alike.proofs.Outcomes.{OutcomesAlike, finished_alike, passed_alike, refused_alike}
use Rattle.session_alike.proofs.Rows.{ListedBy}
use Rattle.session_alike.proofs.Typing.{keys_alike, listed_text, ruling_alike}
use Rattle.regions.specs.Pages.{has_room}
use Rattle.session_model.specs.declared.event.TheConstants.{SERIALS}
use Rattle.session_model.specs.Comings.{attach_checks, attached, attaches, has_place, is_client_size, is_let_in}
use Rattle.session_model.specs.Comings.{new_client, new_window, open_checks, opens, outputs, resized}

no_more : (m : ℕ) → m + 0 ≡ m
no_more m = omega arith

one_more : (m i : ℕ) → (m + 1) + i ≡ m + (1 + i)
one_more m i = omega arith

is_below : (m k : ℕ) → m < k → nat_lt m k ≡ true
is_below m k below = grind (arith, nat_tests, below)

module _ (n : Renaming) (t u : Tables) (a : TablesAlike n t u) where
  done_alike : (event : EventValue) → made_as n event 0 ≡ 0 → RepliesAlike n event said_done said_done
  done_alike event made = record { taken = refl; made = sym made; number = refl; text = tt }

  by_client : (event : EventValue) (client : ℕ) (F G : Client → Outcome)
      → ((c d : Client) → ClientsAlike n c d → OutcomesAlike n event (F c) (G d))
      → OutcomesAlike n event (with_client_of t client F) (with_client_of u (n.client client) G)
  by_client event client F G same =
      cases_both (OutcomesAlike n event) (client_at t client) (client_at u (n.client client))
      (client_alike n t u a client) (refused_alike n t u a event [] [] NoWindow NoWindow refl refl) same

  by_window : (event : EventValue) (window : ℕ) (F G : Window → Outcome)
      → ((w v : Window) → WindowsAlike n w v → OutcomesAlike n event (F w) (G v))
      → OutcomesAlike n event (with_window_of t window F) (with_window_of u (n.window window) G)
  by_window event window F G same =
      cases_both (OutcomesAlike n event) (window_at t window) (window_at u (n.window window))
      (window_alike n t u a window) (refused_alike n t u a event [] [] NoWindow NoWindow refl refl) same

  let_in_alike : (user : UserId) → is_let_in u user ≡ is_let_in t user
  let_in_alike user = cc (a.owner, a.is_multiuser)

  -- ---- attaching

  next_client_as : u.next_client ≡ n.client t.next_client
  next_client_as = sym (ap n.client (sym (no_more t.next_client)) ∙ a.next_clients 0 ∙ no_more u.next_client)

  next_window_as : u.next_window ≡ n.window t.next_window
  next_window_as = sym (ap n.window (sym (no_more t.next_window)) ∙ a.next_windows 0 ∙ no_more u.next_window)

  serials_left : (m k : ℕ) → m < SERIALS → k < SERIALS → nat_lt k SERIALS ≡ nat_lt m SERIALS
  serials_left m k below also = is_below k SERIALS also ∙ sym (is_below m SERIALS below)

  attach_checks_as : (user : UserId) (rows columns : ℕ) → t.next_client < SERIALS → u.next_client < SERIALS
      → attach_checks u user rows columns ≡ map (check_as n) (attach_checks t user rows columns)
  attach_checks_as user rows columns below also =
      let as_many = length_match (ClientsAlike n) t.clients u.clients a.clients in
      let left = serials_left t.next_client u.next_client below also in
      cc (known_alike n t u a user, let_in_alike user, as_many, left)

  -- a client before its page
  abbrev coming : ℕ → UserId → ℕ → ℕ → Option ℕ → Client
  coming serial user rows columns window = record {
    serial = serial;
    user = user;
    rows = rows;
    columns = columns;
    keys = [];
    delivered = [];
    drawn = None;
    layout = one_region (record { window = window; back = 0 });
    last = None;
    former = None;
    message = message.Silence;
  }

  attached_as : (s k : ℕ) (user : UserId) (rows columns : ℕ) (o p : Option ℕ) → k ≡ n.client s
      → p ≡ option_map n.window o
      → ClientsAlike n (attached s user rows columns o) (attached k user rows columns p)
  attached_as s k user rows columns o p serial window =
      let same = ap (λ x. one_region (record { window = x; back = 0 })) window in
      arranged_alike n (coming s user rows columns o) (coming k user rows columns p)
      (clients_as serial refl refl refl refl same refl refl refl) (one_region (record { window = o; back = 0 }))
      (one_region (record { window = p; back = 0 })) same

  new_client_alike : (user : UserId) (rows columns : ℕ)
      → ClientsAlike n (new_client t user rows columns) (new_client u user rows columns)
  new_client_alike user rows columns =
      attached_as t.next_client u.next_client user rows columns _ _ next_client_as
      (serial_as n (lowest t.windows) (lowest u.windows) (lowest_both n t.windows u.windows a.windows))

  attaches_alike : (c d : Client) → ClientsAlike n c d → DeedsAlike n t.acts u.acts (attaches t c) (attaches u d)
  attaches_alike c d r = deed_as
      (cc (r.serial, r.user, focused_as n c d r.layout, entering_as n c.user (focused c)))
      (tables_as a.owner a.edition a.is_multiuser a.acts a.windows
      (append_match (ClientsAlike n) t.clients (c ∷ []) u.clients (d ∷ []) a.clients (r, tt)) a.next_windows
      (λ i. ap n.client (one_more t.next_client i) ∙ a.next_clients (1 + i) ∙ sym (one_more u.next_client i))) tt

  -- ---- opening

  place_alike : has_place u.windows ≡ has_place t.windows
  place_alike =
      let as_many = length_match (WindowsAlike n) t.windows u.windows a.windows in
      cc (as_many, free_both n t.windows u.windows a.windows)

  open_checks_as : (user : UserId) (rows columns keep : ℕ) (title : List ℕ) → t.next_window < SERIALS
      → u.next_window < SERIALS
      → open_checks u user rows columns keep title ≡ map (check_as n) (open_checks t user rows columns keep title)
  open_checks_as user rows columns keep title below also =
      let left = serials_left t.next_window u.next_window below also in
      cc (known_alike n t u a user, let_in_alike user, place_alike, left)

  new_window_alike : (rows columns keep : ℕ) (title : List ℕ)
      → WindowsAlike n (new_window t rows columns keep title) (new_window u rows columns keep title)
  new_window_alike rows columns keep title = record {
    serial = next_window_as;
    number = ap (λ o. unwrap_or o 0) (free_both n t.windows u.windows a.windows);
    title = refl;
    terminal = record { screens = λ later. refl; reports = λ later bytes. refl };
  }

  opens_alike : (user : UserId) (w v : Window) → WindowsAlike n w v
      → DeedsAlike n t.acts u.acts (opens t user w) (opens u user v)
  opens_alike user w v r = deed_as (ap (λ s. act.Opened user s ∷ []) r.serial)
      (tables_as a.owner a.edition a.is_multiuser a.acts
      (append_match (WindowsAlike n) t.windows (w ∷ []) u.windows (v ∷ []) a.windows (r, tt)) a.clients
      (λ i. ap n.window (one_more t.next_window i) ∙ a.next_windows (1 + i) ∙ sym (one_more u.next_window i))
      a.next_clients) tt

  -- ---- sizes and output

  room_as : (rows columns : ℕ) (l : Arrangement)
      → (if has_room l.shape rows columns then layout_as n l else kept_alone (layout_as n l))
      ≡ layout_as n (if has_room l.shape rows columns then l else kept_alone l)
  room_as rows columns l = cc (alone_as n l, if_as (layout_as n) (has_room l.shape rows columns) l (kept_alone l))

  resized_alike : (rows columns : ℕ) (c d : Client) → ClientsAlike n c d
      → ClientsAlike n (resized rows columns c) (resized rows columns d)
  resized_alike rows columns c d r = clients_as r.serial r.user refl refl r.keys
      (ap (λ (l : Arrangement). if has_room l.shape rows columns then l else kept_alone l) r.layout
      ∙ room_as rows columns c.layout) r.last r.former r.message

  reports_alike : (w v : Window) → WindowsAlike n w v → (bytes : List ℕ)
      → (reads (terminal_of v) bytes).reports ≡ (reads (terminal_of w) bytes).reports
  unfolding writes_all
  reports_alike w v r bytes = r.terminal.reports [] bytes

  outputs_alike : (w v : Window) → WindowsAlike n w v → (bytes : List ℕ)
      → DeedsAlike n t.acts u.acts (outputs t w bytes) (outputs u v bytes)
  outputs_alike w v r bytes = deed_as refl (writes_alike n t u a w v r (written.Output bytes)).tables
      (subst (λ s. Matched (EffectsAlike n) (input_of w.serial (reads (terminal_of w) bytes).reports)
      (input_of s (reads (terminal_of v) bytes).reports)) (sym r.serial)
      (subst (λ x. Matched (EffectsAlike n) (input_of w.serial (reads (terminal_of w) bytes).reports)
      (input_of (n.window w.serial) x)) (sym (reports_alike w v r bytes))
      (input_as n w.serial (reads (terminal_of w) bytes).reports)))

  -- ---- commands

  texts_one : (T : List ℕ → List ℕ → Type 0) → ((x y : List ℕ) → T x y → TextsAlike n x y) → (o p : Option (List ℕ))
      → BothOrNone T o p → BothOrNone (TextsAlike n) o p
  texts_one T texts None None m = tt
  texts_one T texts (Some x) (Some y) m = texts x y m
  texts_one T texts o p m = absurd m

  answered_alike : (event : EventValue) → made_as n event 0 ≡ 0 → (T : List ℕ → List ℕ → Type 0)
      → ((x y : List ℕ) → T x y → TextsAlike n x y) → (vs ws : List Verdict)
      → ws ≡ map (Rattle.session_alike.specs.Renaming.verdict_as n) vs → (x y : Answer)
      → AnswersAlike n T t.acts u.acts x y → OutcomesAlike n event (answered t vs x) (answered u ws y)
  answered_alike event made T texts vs ws verdicts _ _ (done {d = d} {e = e} alike ls) =
      finished_alike n t u a event vs ws (reply_of 0 0 0 d.lists) (reply_of 0 0 0 e.lists) d e verdicts
      (record { taken = refl; made = sym made; number = refl; text = texts_one T texts d.lists e.lists ls }) alike
  answered_alike event made T texts vs ws verdicts _ _ (declined {r = r} {s = s} same) =
      refused_alike n t u a event vs ws r s verdicts same

  line_alike : (event : EventValue) → made_as n event 0 ≡ 0 → (k l : Caller) → CallersAlike n k l
      → (x : Result Order ParseFault)
      → OutcomesAlike n event (commanded t (line_ruling t k x)) (commanded u (line_ruling u l x))
  line_alike event made k l r (Err f) = refused_alike n t u a event [] [] (Line f) (Line f) refl refl
  line_alike event made k l r (Ok c) =
      answered_alike event made (ListedBy n c) (listed_text n c) (ruling t k c).verdicts (ruling u l c).verdicts
      (ruling_alike n t u a k l r c).verdicts (ruling t k c).answer (ruling u l c).answer
      (ruling_alike n t u a k l r c).answer

  command_alike : (event : EventValue) → made_as n event 0 ≡ 0 → (user : UserId) (number : Option ℕ) (bytes : List ℕ)
      → OutcomesAlike n event (outcome t (Command user number bytes)) (outcome u (Command user number bytes))
  command_alike event made user number bytes =
      pick (OutcomesAlike n event) (is_known t user) (is_known u user) (known_alike n t u a user)
      (line_alike event made (line_caller t user number) (line_caller u user number) (record {
        user = refl;
        client = refl;
        window = given_number_both n t.windows u.windows a.windows number;
      }) (read_line bytes)) (refused_alike n t u a event [] [] UnknownUser UnknownUser refl refl)

  -- ---- events

  pub outcome_alike : (e : EventValue) → HasSerials t → HasSerials u
      → OutcomesAlike n e (outcome t e) (outcome u (event_as n e))
  outcome_alike (Attach user rows columns) left also =
      let c : Client = new_client t user rows columns in
      let d : Client = new_client u user rows columns in
      passed_alike n t u a (Attach user rows columns) (attach_checks t user rows columns)
      (attach_checks u user rows columns) (reply_of 0 t.next_client 0 None) (reply_of 0 u.next_client 0 None)
      (attaches t c) (attaches u d) (attach_checks_as user rows columns left.1 also.1)
      (record { taken = refl; made = next_client_as; number = refl; text = tt })
      (attaches_alike c d (new_client_alike user rows columns))
  outcome_alike (Detach client) left also =
      by_client (Detach client) client _ _ (λ c d r. finished_alike n t u a (Detach client) [] [] said_done said_done _
      _ refl (done_alike (Detach client) refl)
      (parts_alike n t u a (λ x. x.serial == client) (λ y. y.serial == n.client client) reason.Detached
      (λ x y q. client_serials n x y q client)))
  outcome_alike (Keys client bytes) left also =
      by_client (Keys client bytes) client _ _ (λ c d r. keys_alike n t u a c d r (Keys client bytes) refl bytes)
  outcome_alike (Command user number bytes) left also =
      command_alike (Command user number bytes) refl user number bytes
  outcome_alike (Resize client rows columns) left also =
      by_client (Resize client rows columns) client _ _ (λ c d r. passed_alike n t u a (Resize client rows columns)
      (must (is_client_size rows columns) BadSize ∷ []) (must (is_client_size rows columns) BadSize ∷ []) said_done
      said_done (changing (with_client t (resized rows columns c))) (changing (with_client u (resized rows columns d)))
      refl (done_alike (Resize client rows columns) refl) (deed_as refl (put_client_alike n t u a
      (resized rows columns c) (resized rows columns d) (resized_alike rows columns c d r)) tt))
  outcome_alike (Open user rows columns keep title) left also =
      let w : Window = new_window t rows columns keep title in
      let v : Window = new_window u rows columns keep title in
      passed_alike n t u a (Open user rows columns keep title) (open_checks t user rows columns keep title)
      (open_checks u user rows columns keep title) (reply_of 0 w.serial w.number None)
      (reply_of 0 v.serial v.number None) (opens t user w) (opens u user v)
      (open_checks_as user rows columns keep title left.0 also.0)
      (record {
        taken = refl;
        made = next_window_as;
        number = (new_window_alike rows columns keep title).number;
        text = tt;
      })
      (opens_alike user w v (new_window_alike rows columns keep title))
  outcome_alike (Output window bytes) left also =
      by_window (Output window bytes) window _ _ (λ w v r. finished_alike n t u a (Output window bytes) [] [] said_done
      said_done _ _ refl (done_alike (Output window bytes) refl) (outputs_alike w v r bytes))
  outcome_alike (Closed window) left also =
      by_window (Closed window) window _ _ (λ w v r. finished_alike n t u a (Closed window) [] [] said_done said_done _
      _ refl (done_alike (Closed window) refl)
      (closes_alike n t u a (λ x. x.serial == window) (λ y. y.serial == n.window window) reason.Detached
      (λ x y q. window_serials n x y q window)))
  outcome_alike (Draw client) left also =
      by_client (Draw client) client _ _ (λ c d r. finished_alike n t u a (Draw client) [] [] said_done said_done
      (changing t) (changing u) refl (done_alike (Draw client) refl)
      (deed_as refl a tt))
