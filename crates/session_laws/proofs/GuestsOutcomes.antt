-- Each event does to cut tables what it does to these, but for output that is cut.
use Rattle.session_laws.proofs.Vocabulary.{◌≡◌, ℕ, ◌+◌, Bool, true, false, List, [], ◌∷◌, ◌++◌, Option, Some, None, Ok}
use Rattle.session_laws.proofs.Vocabulary.{Err, Result, refl, ap, sym, ◌∙◌, map, length, if◌then◌else◌, ◌&&◌, ◌||◌, ◌^◌}
use Rattle.session_laws.proofs.Vocabulary.{nat_lt, unwrap_or, option_map, UserId, Act, Execute, Screen, followed_by}
use Rattle.session_laws.proofs.Vocabulary.{Order, ParseFault, one_region, View, Check, right, must, Refusal, NoWindow}
use Rattle.session_laws.proofs.Vocabulary.{UnknownUser, BadSize, NotMultiuser, TooManyClients, Windows, Full, BadTitle}
use Rattle.session_laws.proofs.Vocabulary.{Verdict, Command, Reply, Tables, Window, Client, window_at, client_at}
use Rattle.session_laws.proofs.Vocabulary.{focused, is_in_focus, is_known, lowest, free_number, is_title, read_line}
use Rattle.session_laws.proofs.Vocabulary.{Caller, line_caller, verdicts, first_fault, checks, Deed, Answer, acting}
use Rattle.session_laws.proofs.Vocabulary.{entering, does, ruling, left_acts_of, left_acts, Outcome, reply_of, finished}
use Rattle.session_laws.proofs.Vocabulary.{refused, where_passed, attach_checks, new_client, attaches, has_place}
use Rattle.session_laws.proofs.Vocabulary.{open_checks, new_window, opens, is_client_size, is_window_size, is_let_in}
use Rattle.session_laws.proofs.Vocabulary.{line_ruling, answered, commanded, with_client_of, with_window_of, outcome}
use Rattle.std.specs.Option.{is_some}
use Rattle.acl.specs.declared.act.Object.TheVariants as object
use Rattle.acl.specs.declared.act.Act.TheVariants as act
use Rattle.session_model.specs.declared.event.StatusMessage.TheVariants as message
use Rattle.session_laws.proofs.Cutting.{length_cut, append_cut, cut_window, cut_client, cut}
use Rattle.session_laws.proofs.Cutting.{cut_deed, cut_caller, client_cut, window_cut}
use Rattle.session_laws.proofs.Finding.{lowest_cut, free_cut, in_focus_cut, given_number_cut}
use Rattle.session_laws.proofs.Checking.{fault_cut, verdicts_cut, checks_cut}
use Rattle.session_laws.proofs.Rows.{row_cut, cut_answer}

module _ (shown : ℕ → Bool) (seeing : UserId → Bool) where
  abbrev f : Window → Window
  f = cut_window shown seeing

  abbrev g : Client → Client
  g = cut_client shown seeing

  abbrev less : Tables → Tables
  less = cut shown seeing

  abbrev pub cut_outcome : Outcome → Outcome
  cut_outcome o = record o { tables = less o.tables }

  -- ---- leaving

  leaver_cut : (c : Client) (o : Option ℕ) (before after : List Client)
      → left_acts_of (g c) o (map g before) (map g after) ≡ left_acts_of c o before after
  leaver_cut c None before after = refl
  leaver_cut c (Some w) before after =
      ap (λ b. if b || is_in_focus (map g after) c.user w then [] else act.Left c.user w ∷ [])
      (in_focus_cut shown seeing before c.user w)
      ∙ ap (λ b. if is_in_focus before c.user w || b then [] else act.Left c.user w ∷ [])
      (in_focus_cut shown seeing after c.user w)

  left_cut : (before after : List Client) → left_acts (map g before) (map g after) ≡ left_acts before after
  left_cut [] after = refl
  left_cut (c ∷ before) after =
      ap (λ acts. acts ++ left_acts (map g before) (map g after)) (leaver_cut c (focused c) before after)
      ∙ ap (λ acts. left_acts_of c (focused c) before after ++ acts) (left_cut before after)

  -- ---- outcomes

  pub finished_cut : (t : Tables) (vs : List Verdict) (reply : Reply) (d : Deed)
      → finished (less t) vs reply (cut_deed shown seeing d) ≡ cut_outcome (finished t vs reply d)
  finished_cut t vs reply d =
      ap (λ left. let acts : List Act = d.acts ++ left in record {
        reply = reply;
        acts = acts;
        verdicts = vs;
        effects = d.effects;
        tables = record (less d.tables)
            { acts = followed_by t.acts acts };
      })
      (left_cut t.clients d.tables.clients)

  pub done_cut : (t : Tables) (vs : List Verdict) (reply : Reply) (d e : Deed) → d ≡ cut_deed shown seeing e
      → finished (less t) vs reply d ≡ cut_outcome (finished t vs reply e)
  done_cut t vs reply d e same = ap (finished (less t) vs reply) same ∙ finished_cut t vs reply e

  passed_by : (t : Tables) (vs : List Verdict) (o : Option Refusal) (reply : Reply) (d e : Deed)
      → d ≡ cut_deed shown seeing e
      → elim o as (λ _. Outcome) [ Some r ↦ refused (less t) vs r | None ↦ finished (less t) vs reply d ] ≡ cut_outcome
      (elim o as (λ _. Outcome) [ Some r ↦ refused t vs r | None ↦ finished t vs reply e ])
  passed_by t vs (Some r) reply d e same = refl
  passed_by t vs None reply d e same = done_cut t vs reply d e same

  pub passed_cut : (t : Tables) (cs ds : List Check) (reply : Reply) (d e : Deed) → cs ≡ ds
      → d ≡ cut_deed shown seeing e → where_passed (less t) cs reply d ≡ cut_outcome (where_passed t ds reply e)
  passed_cut t cs ds reply d e is same =
      ap (λ cs. where_passed (less t) cs reply d) is
      ∙ ap (λ vs. elim (first_fault (less t) ds) as (λ _. Outcome)
      [ Some r ↦ refused (less t) vs r | None ↦ finished (less t) vs reply d ]) (verdicts_cut shown seeing t ds)
      ∙ ap (λ o. elim o as (λ _. Outcome)
      [ Some r ↦ refused (less t) (verdicts t ds) r | None ↦ finished (less t) (verdicts t ds) reply d ])
      (fault_cut shown seeing t ds)
      ∙ passed_by t (verdicts t ds) (first_fault t ds) reply d e same

  pub by_client : (t : Tables) (client : ℕ) (F G : Client → Outcome)
      → ((c : Client) → client_at t client ≡ Some c → F (g c) ≡ cut_outcome (G c))
      → with_client_of (less t) client F ≡ cut_outcome (with_client_of t client G)
  by_client t client F G same =
      ap (λ o. elim o as (λ _. Outcome) [ None ↦ refused (less t) [] NoWindow | Some c ↦ F c ])
      (client_cut shown seeing t client) ∙ on (client_at t client) same where
        on : (o : Option Client) → ((c : Client) → o ≡ Some c → F (g c) ≡ cut_outcome (G c))
            → elim (option_map g o) as (λ _. Outcome) [ None ↦ refused (less t) [] NoWindow | Some c ↦ F c ] ≡
            cut_outcome (elim o as (λ _. Outcome) [ None ↦ refused t [] NoWindow | Some c ↦ G c ])
        on None same = refl
        on (Some c) same = same c refl

  pub by_window : (t : Tables) (window : ℕ) (F G : Window → Outcome)
      → ((w : Window) → window_at t window ≡ Some w → F (f w) ≡ cut_outcome (G w))
      → with_window_of (less t) window F ≡ cut_outcome (with_window_of t window G)
  by_window t window F G same =
      ap (λ o. elim o as (λ _. Outcome) [ None ↦ refused (less t) [] NoWindow | Some c ↦ F c ])
      (window_cut shown seeing t window) ∙ on (window_at t window) same where
        on : (o : Option Window) → ((w : Window) → o ≡ Some w → F (f w) ≡ cut_outcome (G w))
            → elim (option_map f o) as (λ _. Outcome) [ None ↦ refused (less t) [] NoWindow | Some w ↦ F w ] ≡
            cut_outcome (elim o as (λ _. Outcome) [ None ↦ refused t [] NoWindow | Some w ↦ G w ])
        on None same = refl
        on (Some w) same = same w refl

  -- ---- attaching and opening

  first_cut : (o : Option Window)
      → option_map (λ (w : Window). w.serial) (option_map f o) ≡ option_map (λ (w : Window). w.serial) o
  first_cut None = refl
  first_cut (Some w) = refl

  undrawn : (b : Bool) → (if b then (let none : Option View = None in none) else None) ≡ None
  undrawn true = refl
  undrawn false = refl

  abbrev coming : Tables → UserId → ℕ → ℕ → Option ℕ → Client
  coming t user rows columns first =
      let c : Client = record {
        serial = t.next_client;
        user = user;
        rows = rows;
        columns = columns;
        keys = [];
        delivered = [];
        drawn = None;
        layout = one_region (record { window = first; back = 0 });
        last = None;
        former = None;
        message = message.Silence;
      } in Rattle.session_model.specs.Tables.seeing (focused c) c

  came_cut : (t : Tables) (c : Client) → g c ≡ c → attaches (less t) c ≡ cut_deed shown seeing (attaches t c)
  came_cut t c same =
      ap (λ cs. acting (record (less t) { clients = cs; next_client = t.next_client + 1 })
      (act.Attached c.serial c.user ∷ entering c.user (focused c)))
      (ap (λ d. map g t.clients ++ d ∷ []) (sym same) ∙ append_cut g t.clients (c ∷ []))

  pub attached_cut : (t : Tables) (user : UserId) (rows columns : ℕ)
      → attaches (less t) (new_client (less t) user rows columns) ≡ cut_deed shown seeing
      (attaches t (new_client t user rows columns))
  attached_cut t user rows columns =
      ap (λ o. attaches (less t) (coming t user rows columns o))
      (ap (option_map (λ (w : Window). w.serial)) (lowest_cut shown seeing t.windows)
      ∙ first_cut (lowest t.windows))
      ∙ came_cut t (new_client t user rows columns)
      (ap (λ v. record (new_client t user rows columns) { drawn = v }) (undrawn (seeing user)))

  pub attach_checks_cut : (t : Tables) (user : UserId) (rows columns : ℕ)
      → attach_checks (less t) user rows columns ≡ attach_checks t user rows columns
  attach_checks_cut t user rows columns =
      ap (λ n. must (is_known t user) UnknownUser ∷ must (is_let_in t user) NotMultiuser ∷ must
      (is_client_size rows columns) BadSize
      ∷ must (nat_lt n 64 && nat_lt t.next_client (2 ^ 32)) TooManyClients ∷ []) (length_cut g t.clients)

  place_cut : (ws : List Window) → has_place (map f ws) ≡ has_place ws
  place_cut ws = ap (λ n. nat_lt n 40 && is_some (free_number (map f ws))) (length_cut f ws)
      ∙ ap (λ o. nat_lt (length ws) 40 && is_some o) (free_cut shown seeing ws)

  pub open_checks_cut : (t : Tables) (user : UserId) (rows columns keep : ℕ) (title : List ℕ)
      → open_checks (less t) user rows columns keep title ≡ open_checks t user rows columns keep title
  open_checks_cut t user rows columns keep title =
      ap (λ b. must (is_known t user) UnknownUser ∷ right user Execute (object.Command Screen) ∷ must (is_let_in t user)
      NotMultiuser ∷ must (is_window_size rows columns keep) BadSize
      ∷ must (b && nat_lt t.next_window (2 ^ 32)) (Windows Full) ∷ must (is_title title) (Windows BadTitle) ∷ [])
      (place_cut t.windows)

  unwritten : (b : Bool) → Rattle.session_laws.proofs.Cutting.cut_writing shown seeing b [] ≡ []
  unwritten true = refl
  unwritten false = refl

  pub opens_cut : (t : Tables) (user : UserId) (w : Window) → f w ≡ w
      → opens (less t) user w ≡ cut_deed shown seeing (opens t user w)
  opens_cut t user w same =
      ap (λ ws. acting (record (less t) { windows = ws; next_window = t.next_window + 1 })
      (act.Opened user w.serial ∷ []))
      (ap (λ v. map f t.windows ++ v ∷ []) (sym same) ∙ append_cut f t.windows (w ∷ []))

  pub opened_cut : (t : Tables) (rows columns keep : ℕ) (title : List ℕ)
      → new_window (less t) rows columns keep title ≡ new_window t rows columns keep title
  opened_cut t rows columns keep title = ap
      (λ o. record (new_window t rows columns keep title) { number = unwrap_or o 0 }) (free_cut shown seeing t.windows)

  pub new_cut : (t : Tables) (rows columns keep : ℕ) (title : List ℕ)
      → f (new_window t rows columns keep title) ≡ new_window t rows columns keep title
  new_cut t rows columns keep title = ap (λ ws. record (new_window t rows columns keep title) { writing = ws })
      (unwritten (shown t.next_window))

  -- ---- commands

  answered_cut : (t : Tables) (vs : List Verdict) (a b : Answer) → a ≡ cut_answer shown seeing b
      → answered (less t) vs a ≡ cut_outcome (answered t vs b)
  answered_cut t vs a b same = ap (answered (less t) vs) same ∙ on b where
    on : (b : Answer) → answered (less t) vs (cut_answer shown seeing b) ≡ cut_outcome (answered t vs b)
    on (Ok d) = finished_cut t vs (reply_of 0 0 0 d.lists) d
    on (Err r) = refl

  pub ruled_cut : (t : Tables) (k : Caller) (c : Order)
      → (ruling (less t) (cut_caller shown seeing k) c).answer ≡ cut_answer shown seeing (ruling t k c).answer
  ruled_cut t k c =
      ap (λ cs. elim (first_fault (less t) cs) as (λ _. Answer)
      [ Some r ↦ Err r | None ↦ does (less t) (cut_caller shown seeing k) c ]) (checks_cut shown seeing t k c)
      ∙ ap (λ o. elim o as (λ _. Answer) [ Some r ↦ Err r | None ↦ does (less t) (cut_caller shown seeing k) c ])
      (fault_cut shown seeing t (checks t k c))
      ∙ on (first_fault t (checks t k c)) where
        on : (o : Option Refusal)
            → elim o as (λ _. Answer) [ Some r ↦ Err r | None ↦ does (less t) (cut_caller shown seeing k) c ] ≡
            cut_answer shown seeing (elim o as (λ _. Answer) [ Some r ↦ Err r | None ↦ does t k c ])
        on (Some r) = refl
        on None = row_cut shown seeing t k c

  pub verdicts_ruled : (t : Tables) (k : Caller) (c : Order)
      → (ruling (less t) (cut_caller shown seeing k) c).verdicts ≡ (ruling t k c).verdicts
  verdicts_ruled t k c = ap (verdicts (less t)) (checks_cut shown seeing t k c)
      ∙ verdicts_cut shown seeing t (checks t k c)

  line_cut : (t : Tables) (k : Caller) (r : Result Order ParseFault)
      → commanded (less t) (line_ruling (less t) (cut_caller shown seeing k) r) ≡ cut_outcome
      (commanded t (line_ruling t k r))
  line_cut t k (Err x) = refl
  line_cut t k (Ok c) =
      ap (λ vs. answered (less t) vs (ruling (less t) (cut_caller shown seeing k) c).answer) (verdicts_ruled t k c)
      ∙ answered_cut t (ruling t k c).verdicts _ (ruling t k c).answer (ruled_cut t k c)

  pub command_cut : (t : Tables) (user : UserId) (number : Option ℕ) (bytes : List ℕ)
      → outcome (less t) (Command user number bytes) ≡ cut_outcome (outcome t (Command user number bytes))
  command_cut t user number bytes =
      ap (λ o. if is_known t user then commanded (less t)
      (line_ruling (less t) (record { user = user; client = None; window = o }) (read_line bytes)) else refused
      (less t) [] UnknownUser) (given_number_cut shown seeing t.windows number)
      ∙ on (is_known t user) where
        on : (b : Bool)
            →
            (if b then commanded (less t)
            (line_ruling (less t) (cut_caller shown seeing (line_caller t user number)) (read_line bytes)) else refused
            (less t) [] UnknownUser)
            ≡ cut_outcome
            (if b then commanded t (line_ruling t (line_caller t user number) (read_line bytes)) else refused t []
            UnknownUser)
        on true = line_cut t (line_caller t user number) (read_line bytes)
        on false = refl
