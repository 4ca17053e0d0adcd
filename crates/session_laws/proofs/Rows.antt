-- Each command does to cut tables what it does to these. A command that lists or changes a page, without
-- looking a window up, needs no row here: the last one finds its proof.
use Rattle.session_laws.proofs.Vocabulary.{◌≡◌, ℕ, ◌-◌, Bool, true, false, not, List, [], ◌∷◌, ◌++◌, Option, Some, None}
use Rattle.session_laws.proofs.Vocabulary.{Ok, Err, refl, ap, sym, ◌∙◌, map, filter, if◌then◌else◌, ◌==◌, option_map}
use Rattle.session_laws.proofs.Vocabulary.{option_map_or, option_and_then, UserId, Act, Object, AclFault, named_by}
use Rattle.session_laws.proofs.Vocabulary.{change_fault, Order, Rect, Arrangement, Writing, Effect, Gone, Say, Size}
use Rattle.session_laws.proofs.Vocabulary.{Reason, Refusal, Acl, Windows, NoWindow, NoSuchWindow, Tables, Window}
use Rattle.session_laws.proofs.Vocabulary.{Client, window_at, client_at, with_window, with_layout, focused, known_users}
use Rattle.session_laws.proofs.Vocabulary.{names_of, window_named, window_after, window_before, with_number}
use Rattle.session_laws.proofs.Vocabulary.{windows_text, Caller, Deed, Answer, changes, given, unless, refused_if}
use Rattle.session_laws.proofs.Vocabulary.{parts, closes, removes, without_window, without_windows, enters, arranges}
use Rattle.session_laws.proofs.Vocabulary.{selects, former_of, writes, fits, tells, hearing, does, caller_client}
use Rattle.session_laws.proofs.Vocabulary.{on_client, focus_of, is_taken, coding_of}
use Rattle.acl.specs.declared.act.Act.TheVariants as act
use Rattle.command_lang.specs.declared.command.Command.TheVariants as command
use Rattle.terminal_model.specs.Writing as written
use Rattle.session_model.specs.declared.event.Peer.TheVariants as peer
use Rattle.session_model.specs.declared.event.Reason.TheVariants as reason
use Rattle.session_model.specs.rows.WindowsFault.TheVariants as fault
use Rattle.session_model.specs.declared.event.StatusMessage.TheVariants as message
use Rattle.session_model.specs.Deeds as deeds
use Rattle.session_laws.proofs.Cutting.{read_all, change_all, filter_cut, cut_window, cut_client, cut, cut_deed}
use Rattle.session_laws.proofs.Cutting.{cut_caller, cut_writing, is_no_output, client_cut, with_window_cut}
use Rattle.session_laws.proofs.Cutting.{with_client_cut}
use Rattle.session_laws.proofs.Finding.{named_cut, after_cut, before_cut, every_cut, objects_cut, windows_text_cut}
use Rattle.session_laws.proofs.Finding.{clients_text_cut, given_window_cut, numbered_cut}
use Rattle.session_laws.proofs.Checking.{given_serial_cut}

module _ (shown : ℕ → Bool) (seeing : UserId → Bool) where
  abbrev f : Window → Window
  f = cut_window shown seeing

  abbrev g : Client → Client
  g = cut_client shown seeing

  abbrev less : Tables → Tables
  less = cut shown seeing

  abbrev pub cut_answer : Answer → Answer
  cut_answer (Ok d) = Ok (cut_deed shown seeing d)
  cut_answer (Err r) = Err r

  -- ---- answers

  given_by : {X : Type 0} (o : Option X) (h : X → X) (r : Refusal) (F G : X → Answer)
      → ((x : X) → F (h x) ≡ cut_answer (G x)) → given (option_map h o) r F ≡ cut_answer (given o r G)
  unfolding given
  given_by None h r F G same = refl
  given_by (Some x) h r F G same = same x

  given_cut : {X : Type 0} (o p : Option X) (h : X → X) (r : Refusal) (F G : X → Answer) → o ≡ option_map h p
      → ((x : X) → F (h x) ≡ cut_answer (G x)) → given o r F ≡ cut_answer (given p r G)
  given_cut o p h r F G is same = ap (λ q. given q r F) is ∙ given_by p h r F G same

  unless_cut : {F : Type 0} (of : F → Refusal) (o : Option F) (d e : Deed) → d ≡ cut_deed shown seeing e
      → unless of o d ≡ cut_answer (unless of o e)
  unfolding unless
  unless_cut of None d e same = ap (λ x. Ok x) same
  unless_cut of (Some x) d e same = refl

  refused_cut : (b : Bool) (r : Refusal) (d e : Deed) → d ≡ cut_deed shown seeing e
      → refused_if b r d ≡ cut_answer (refused_if b r e)
  unfolding refused_if
  refused_cut true r d e same = refl
  refused_cut false r d e same = ap (λ x. Ok x) same

  ok_cut : (d e : Deed) → d ≡ cut_deed shown seeing e → Ok d ≡ cut_answer (Ok e)
  ok_cut d e same = ap (λ x. Ok x) same

  caller_cut : (t : Tables) (o : Option ℕ)
      → option_and_then (client_at (less t)) o ≡ option_map g (option_and_then (client_at t) o)
  caller_cut t None = refl
  caller_cut t (Some s) = client_cut shown seeing t s

  client_cut_by : (t : Tables) (k : Caller) (F G : Client → Answer) → ((c : Client) → F (g c) ≡ cut_answer (G c))
      → on_client (less t) (cut_caller shown seeing k) F ≡ cut_answer (on_client t k G)
  client_cut_by t k F G same = given_cut (caller_client (less t) (cut_caller shown seeing k)) (caller_client t k) g
      NoWindow F G (caller_cut t k.client) same

  window_cut_by : (t : Tables) (k : Caller) (F G : Window → Answer) → ((w : Window) → F (f w) ≡ cut_answer (G w))
      → Rattle.session_model.specs.Commands.on_window (less t) (cut_caller shown seeing k) F ≡ cut_answer
      (Rattle.session_model.specs.Commands.on_window t k G)
  window_cut_by t k F G same = given_cut (option_map f k.window) k.window f NoWindow F G refl same

  as_is : {X : Type 0} (o : Option X) → o ≡ option_map (λ x. x) o
  as_is None = refl
  as_is (Some x) = refl

  -- ---- lists

  change_cut : (t : Tables) (x : Option AclFault) (os : Option (List Object)) (acts : List Object → List Act)
      → elim x as (λ _. Answer) [
        | Some y ↦ Err (Acl y)
        | None ↦ given os (Windows NoSuchWindow) (λ all. Ok (deeds.acting (less t) (acts all)))
      ]
      ≡ cut_answer
      (elim x as (λ _. Answer)
      [ Some y ↦ Err (Acl y) | None ↦ given os (Windows NoSuchWindow) (λ all. Ok (deeds.acting t (acts all))) ])
  change_cut t (Some y) os acts = refl
  change_cut t None os acts = given_cut os os (λ o. o) (Windows NoSuchWindow) _ _ (as_is os) (λ all. refl)

  changes_cut : (t : Tables) (names : List (Option UserId)) (os ps : Option (List Object))
      (acts : List Object → List Act) → os ≡ ps → changes (less t) names os acts ≡ cut_answer (changes t names ps acts)
  changes_cut t names os ps acts same = ap (λ o. changes (less t) names o acts) same
      ∙ change_cut t (change_fault t.owner (known_users t) names) ps acts

  listed_cut : (t : Tables) (bytes text : List ℕ) → bytes ≡ text
      → deeds.listing (less t) bytes ≡ cut_deed shown seeing (deeds.listing t text)
  listed_cut t bytes text same = ap (deeds.listing (less t)) same

  -- ---- pages

  arranged_cut : (t : Tables) (c : Client) (l : Arrangement)
      → arranges (less t) (g c) l ≡ cut_deed shown seeing (arranges t c l)
  arranged_cut t c l = ap deeds.changing (with_client_cut shown seeing t (with_layout l c))

  entered_cut : (t : Tables) (c : Client) (l : Arrangement)
      → enters (less t) (g c) l ≡ cut_deed shown seeing (enters t c l)
  entered_cut t c l = ap (λ u. deeds.acting u (deeds.entering c.user (focused (with_layout l c))))
      (with_client_cut shown seeing t (with_layout l c))

  selected_cut : (t : Tables) (k : Caller) (o p : Client → Option Window) (r : Refusal)
      → ((c : Client) → o (g c) ≡ option_map f (p c))
      → on_client (less t) (cut_caller shown seeing k) (λ c. given (o c) r (λ w. Ok (selects (less t) c w))) ≡
      cut_answer (on_client t k (λ c. given (p c) r (λ w. Ok (selects t c w))))
  selected_cut t k o p r same =
      client_cut_by t k _ _
      (λ c. given_cut (o (g c)) (p c) f r (λ w. Ok (selects (less t) (g c) w)) (λ w. Ok (selects t c w)) (same c)
      (λ w. ok_cut (selects (less t) (g c) (f w)) (selects t c w) (entered_cut t c _)))

  -- ---- clients and windows that go

  pub parts_cut : (p : Client → Bool) (why : Reason) (t : Tables) → ((c : Client) → p (g c) ≡ p c)
      → parts p why (less t) ≡ cut_deed shown seeing (parts p why t)
  parts_cut p why t same =
      let left : (cs : List Client) → filter p (map g cs) ≡ map g (filter p cs) = λ cs. filter_cut g p p cs same in
      let kept : filter (λ c. not (p c)) (map g t.clients) ≡ map g (filter (λ c. not (p c)) t.clients) = filter_cut g
      (λ c. not (p c)) (λ c. not (p c)) t.clients (λ c. ap not (same c)) in
      ap (λ cs. record {
        acts = map (λ (c : Client). act.Parted c.serial) cs;
        tables = record (less t)
            { clients = filter (λ c. not (p c)) (map g t.clients) };
        effects = map
            (λ (c : Client). Gone (peer.Client c.serial) why) cs;
        lists = None;
      }) (left t.clients)
      ∙ ap (λ cs. record {
        acts = map (λ (c : Client). act.Parted c.serial) (map g (filter p t.clients));
        tables = record (less t)
            { clients = cs };
        effects = map (λ (c : Client). Gone (peer.Client c.serial) why) (map g (filter p t.clients));
        lists
            = None;
      }) kept
      ∙ ap (λ acts. record {
        acts = acts;
        tables = less (parts p why t).tables;
        effects = map (λ (c : Client). Gone (peer.Client c.serial) why)
            (map g (filter p t.clients));
        lists = None;
      })
      (read_all g (λ (c : Client). act.Parted c.serial) (filter p t.clients) (λ c. refl))
      ∙ ap (λ es. record
      { acts = (parts p why t).acts; tables = less (parts p why t).tables; effects = es; lists = None })
      (read_all g (λ (c : Client). Gone (peer.Client c.serial) why) (filter p t.clients) (λ c. refl))

  emptied_cut : (ws : List Window) (cs : List Client)
      → without_windows (map f ws) (map g cs) ≡ map g (without_windows ws cs)
  emptied_cut [] cs = refl
  emptied_cut (w ∷ ws) cs = ap (without_windows (map f ws))
      (change_all g (without_window w.serial) (without_window w.serial) cs (λ c. refl))
      ∙ emptied_cut ws (map (without_window w.serial) cs)

  pub closes_cut : (p : Window → Bool) (why : Reason) (t : Tables) → ((w : Window) → p (f w) ≡ p w)
      → closes p why (less t) ≡ cut_deed shown seeing (closes p why t)
  closes_cut p why t same =
      let gone : filter p (map f t.windows) ≡ map f (filter p t.windows) = filter_cut f p p t.windows same in
      let kept : filter (λ w. not (p w)) (map f t.windows) ≡ map f (filter (λ w. not (p w)) t.windows) = filter_cut f
      (λ w. not (p w)) (λ w. not (p w)) t.windows (λ w. ap not (same w)) in
      let made : List Act → List Window → List Client → List Effect
      → Deed = λ acts ws cs es. record
      { acts = acts; tables = record (less t) { windows = ws; clients = cs }; effects = es; lists = None } in
      ap (λ ws. made (map (λ (w : Window). act.Closed w.serial) ws) (filter (λ w. not (p w)) (map f t.windows))
      (without_windows ws (map g t.clients)) (map (λ (w : Window). Gone (peer.Window w.serial) why) ws)) gone
      ∙ ap (λ ws. made (map (λ (w : Window). act.Closed w.serial) (map f (filter p t.windows))) ws
      (without_windows (map f (filter p t.windows)) (map g t.clients))
      (map (λ (w : Window). Gone (peer.Window w.serial) why) (map f (filter p t.windows)))) kept
      ∙ ap (λ cs. made (map (λ (w : Window). act.Closed w.serial) (map f (filter p t.windows)))
      (less (closes p why t).tables).windows cs
      (map (λ (w : Window). Gone (peer.Window w.serial) why) (map f (filter p t.windows))))
      (emptied_cut (filter p t.windows) t.clients)
      ∙ ap (λ acts. made acts (less (closes p why t).tables).windows (less (closes p why t).tables).clients
      (map (λ (w : Window). Gone (peer.Window w.serial) why) (map f (filter p t.windows))))
      (read_all f (λ (w : Window). act.Closed w.serial) (filter p t.windows) (λ w. refl))
      ∙ ap (λ es. made (closes p why t).acts (less (closes p why t).tables).windows
      (less (closes p why t).tables).clients es)
      (read_all f (λ (w : Window). Gone (peer.Window w.serial) why) (filter p t.windows) (λ w. refl))

  removes_cut : (t : Tables) (o : Option UserId) → removes o (less t) ≡ cut_deed shown seeing (removes o t)
  removes_cut t None = refl
  removes_cut t (Some u) = ap (λ (d : Deed). record d { acts = d.acts ++ act.Gone u ∷ [] })
      (parts_cut (deeds.is_of u) reason.Removed t (λ c. refl))

  quits_cut : (t : Tables)
      → deeds.both (closes (λ w. true) reason.Quit (less t)) (parts (λ c. true) reason.Quit) ≡ cut_deed shown seeing
      (deeds.both (closes (λ w. true) reason.Quit t) (parts (λ c. true) reason.Quit))
  quits_cut t =
      ap (λ d. deeds.both d (parts (λ c. true) reason.Quit)) (closes_cut (λ w. true) reason.Quit t (λ w. refl))
      ∙ ap (λ (e : Deed). record {
        acts = (closes (λ w. true) reason.Quit t).acts ++ e.acts;
        tables = e.tables;
        effects =
            (closes (λ w. true) reason.Quit t).effects ++ e.effects;
        lists = e.lists;
      })
      (parts_cut (λ c. true) reason.Quit (closes (λ w. true) reason.Quit t).tables (λ c. refl))

  -- ---- windows

  written_cut : (b : Bool) (ws : List Writing) (what : Writing) → is_no_output what ≡ true
      → cut_writing shown seeing b ws ++ what ∷ [] ≡ cut_writing shown seeing b (ws ++ what ∷ [])
  written_cut true ws what is = refl
  written_cut false [] what is = ap (λ b. if b then what ∷ [] else []) (sym is)
  written_cut false (x ∷ ws) what is = on (is_no_output x) (written_cut false ws what is) where
    on : (b : Bool) → filter is_no_output ws ++ what ∷ [] ≡ filter is_no_output (ws ++ what ∷ [])
        → (if b then x ∷ filter is_no_output ws else filter is_no_output ws) ++ what ∷ [] ≡
        (if b then x ∷ filter is_no_output (ws ++ what ∷ []) else filter is_no_output (ws ++ what ∷ []))
    on true same = ap (λ ys. x ∷ ys) same
    on false same = same

  pub writes_cut : (t : Tables) (w : Window) (what : Writing) → is_no_output what ≡ true
      → writes (less t) (f w) what ≡ cut_deed shown seeing (writes t w what)
  writes_cut t w what is =
      ap (λ ws. deeds.changing (with_window (less t) (record w { writing = ws })))
      (written_cut (shown w.serial) w.writing what is)
      ∙ ap deeds.changing (with_window_cut shown seeing t (record w { writing = w.writing ++ what ∷ [] }))

  fits_cut : (t : Tables) (w : Window) (box : Rect) → fits (less t) (f w) box ≡ cut_answer (fits t w box)
  fits_cut t w box =
      refused_cut _ _ _ _
      (ap (λ (d : Deed). record d { effects = Size w.serial (box.rows - 1) box.columns ∷ [] })
      (writes_cut t w (written.Size (box.rows - 1) box.columns) refl))

  tells_cut : (bytes : List ℕ) (t : Tables) → tells bytes (less t) ≡ cut_deed shown seeing (tells bytes t)
  tells_cut bytes t =
      ap (λ cs. record {
        acts = [];
        tables = record (less t) { clients = cs };
        effects = map (λ (c : Client). Say c.serial bytes)
            (map g t.clients);
        lists = None;
      })
      (change_all g (hearing (message.Text bytes)) (hearing (message.Text bytes)) t.clients (λ c. refl))
      ∙ ap (λ es. record { acts = []; tables = less (tells bytes t).tables; effects = es; lists = None })
      (read_all g (λ (c : Client). Say c.serial bytes) t.clients (λ c. refl))

  taken_cut : (t : Tables) (w : Window) (n : ℕ) → is_taken (less t) (f w) n ≡ is_taken t w n
  taken_cut t w n = ap (λ o. option_map_or (λ (v : Window). not (v.serial == w.serial)) o false)
      (numbered_cut shown seeing t.windows n) ∙ on (with_number t.windows n) where
        on : (o : Option Window)
            → option_map_or (λ (v : Window). not (v.serial == w.serial)) (option_map f o) false ≡ option_map_or
            (λ (v : Window). not (v.serial == w.serial)) o false
        on None = refl
        on (Some v) = refl

  focus_cut : (client : Option ℕ) (window : Option Window)
      → option_and_then (λ (c : ℕ). option_map (λ (w : Window). w.serial) (option_map f window)) client ≡
      option_and_then (λ (c : ℕ). option_map (λ (w : Window). w.serial) window) client
  focus_cut None window = refl
  focus_cut (Some c) window = given_serial_cut shown seeing window

  -- ---- the rows

  pub row_cut : (t : Tables) (k : Caller) (c : Order)
      → does (less t) (cut_caller shown seeing k) c ≡ cut_answer (does t k c)
  row_cut t k (command.Acladd names) = changes_cut t (names_of t names) _ _ _
      (ap (λ os. Some os) (every_cut shown seeing t))
  row_cut t k (command.Aclchg names bits list) = changes_cut t (names_of t names) _ _ _
      (objects_cut shown seeing t list)
  row_cut t k (command.Acldel word) = unless_cut _ _ _ _ (removes_cut t (named_by word))
  row_cut t k (command.Aclgrp word None) = unless_cut _ _ _ _ refl
  row_cut t k (command.Aclgrp word (Some leader)) = unless_cut _ _ _ _ refl
  row_cut t k (command.Aclumask masks) = unless_cut _ _ _ _ refl
  row_cut t k (command.Multiuser true) = refl
  row_cut t k (command.Multiuser false) = ok_cut _ _
      (parts_cut (λ c. not (deeds.is_of t.owner c)) reason.SingleUser (record t { is_multiuser = false }) (λ c. refl))
  row_cut t k (command.Writelock mode) = window_cut_by t k _ _ (λ w. refl)
  row_cut t k (command.Wall bytes) = ok_cut _ _ (tells_cut _ t)
  row_cut t k command.Windows =
      ok_cut _ _
      (ap (deeds.listing (less t))
      (ap (windows_text (less t) k.user) (focus_cut k.client k.window)
      ∙ windows_text_cut shown seeing t k.user (focus_of k)))
  row_cut t k (command.Select word) = selected_cut t k (λ c. window_named (less t).windows word)
      (λ c. window_named t.windows word) (Windows NoSuchWindow) (λ c. named_cut shown seeing t.windows word)
  row_cut t k command.Next = selected_cut t k (λ c. window_after (less t).windows (option_map f k.window))
      (λ c. window_after t.windows k.window) NoWindow (λ c. after_cut shown seeing t.windows k.window)
  row_cut t k command.Prev = selected_cut t k (λ c. window_before (less t).windows (option_map f k.window))
      (λ c. window_before t.windows k.window) NoWindow (λ c. before_cut shown seeing t.windows k.window)
  row_cut t k command.Other = selected_cut t k (λ c. option_and_then (window_at (less t)) (former_of c))
      (λ c. option_and_then (window_at t) (former_of c)) NoWindow (λ c. given_window_cut shown seeing t (former_of c))
  row_cut t k command.Fit = client_cut_by t k _ _
      (λ c. window_cut_by t k _ _
      (λ w. given_cut (deeds.focused_box c) (deeds.focused_box c) (λ b. b) NoWindow (fits (less t) (f w)) (fits t w)
      (as_is (deeds.focused_box c)) (fits_cut t w)))
  row_cut t k (command.Title bytes) = window_cut_by t k _ _
      (λ w. refused_cut _ _ _ _ (ap deeds.changing (with_window_cut shown seeing t (record w { title = bytes }))))
  row_cut t k (command.Number n) = window_cut_by t k _ _ (λ w.
      ap (λ b. refused_if b (Windows fault.NumberTaken)
      (deeds.changing (with_window (less t) (f (record w { number = n }))))) (taken_cut t w n)
      ∙ refused_cut (is_taken t w n) _ _ _
      (ap deeds.changing (with_window_cut shown seeing t (record w { number = n }))))
  row_cut t k command.Clear = window_cut_by t k _ _ (λ w. ok_cut _ _ (writes_cut t w written.Clear refl))
  row_cut t k command.Reset = window_cut_by t k _ _ (λ w. ok_cut _ _ (writes_cut t w written.Reset refl))
  row_cut t k (command.Encoding coding) = window_cut_by t k _ _
      (λ w. ok_cut _ _ (writes_cut t w (written.Encoding (coding_of coding)) refl))
  row_cut t k (command.Stuff bytes) = window_cut_by t k _ _ (λ w. refl)
  row_cut t k command.Detach = client_cut_by t k _ _
      (λ c. ok_cut _ _ (parts_cut (λ (d : Client). d.serial == c.serial) reason.Detached t (λ d. refl)))
  row_cut t k command.Kill = window_cut_by t k _ _
      (λ w. ok_cut _ _ (closes_cut (λ (v : Window). v.serial == w.serial) reason.Killed t (λ v. refl)))
  row_cut t k command.Quit = ok_cut _ _ (quits_cut t)
  row_cut t k c = search (
    ok_cut,
    listed_cut,
    client_cut_by,
    unless_cut,
    refused_cut,
    arranged_cut,
    entered_cut,
    clients_text_cut,
  ) depth 7
