-- Deeds in sessions that are alike leave them alike.
use Rattle.session_alike.proofs.Vocabulary.{◌≡◌, ℕ, ◌+◌, Bool, not, List, [], ◌∷◌, ◌++◌, Option, Some, None, Ok, Err}
use Rattle.session_alike.proofs.Vocabulary.{refl, inl, length, ap, sym, ◌∙◌, subst, map, filter, ◌==◌, option_map, Act}
use Rattle.session_alike.proofs.Vocabulary.{UserId, History, Shown, Arrangement, emptied, Terminal, Writing, writes_one}
use Rattle.session_alike.proofs.Vocabulary.{writes_all, ready, BothOrNone, Matched, Gone, Say, Refusal, StatusMessage}
use Rattle.session_alike.proofs.Vocabulary.{Answer, Deed, acting, closes, enters, entering, hearing, input_of, listing}
use Rattle.session_alike.proofs.Vocabulary.{parts, tells, without_window, without_windows, writes, Client, Tables}
use Rattle.session_alike.proofs.Vocabulary.{Window, focused, former_after, is_window, last_after, with_client}
use Rattle.session_alike.proofs.Vocabulary.{with_layout, with_window, terminal_of, Renaming, act_as, layout_as}
use Rattle.session_alike.proofs.Vocabulary.{refusal_as, shown_as, ClientsAlike, TablesAlike, TerminalsAlike}
use Rattle.session_alike.proofs.Vocabulary.{WindowsAlike, HistoriesAlike, items, EffectsAlike, filter_match, if_as}
use Rattle.session_alike.proofs.Vocabulary.{made_both, map_both, pick, put_both}
use Rattle.acl.specs.declared.act.Act.TheVariants as act
use Rattle.session_model.specs.declared.event.Peer.TheVariants as peer
use Rattle.session_model.specs.declared.event.StatusMessage.TheVariants as message
use Rattle.session_alike.proofs.Finding.{client_serials, focused_as, is_window_as, window_serials}
use Rattle.session_alike.proofs.Histories.{window_test}
use Rattle.terminal_model.specs.Screen.{starting}
use Rattle.session_model.specs.declared.event.Reason.{Reason}

-- A deed does the same in both sessions, after these histories.
pub record DeedsAlike (n : Renaming) (h g : History) (d e : Deed) : Type 0 where
  pub acts : e.acts ≡ map (act_as n) d.acts
  pub tables : TablesAlike n d.tables e.tables
  pub effects : Matched (EffectsAlike n) d.effects e.effects
  pub kept : d.tables.acts ≡ h
  pub kept_too : e.tables.acts ≡ g

-- both answers are deeds that do and list the same, or both are refused for the same cause; T relates
-- what is listed
pub data AnswersAlike (n : Renaming) (T : List ℕ → List ℕ → Type 0) (h g : History) : Answer → Answer → Type 0 where
  done : {d e : Deed} → DeedsAlike n h g d e → BothOrNone T d.lists e.lists → AnswersAlike n T h g (Ok d) (Ok e)
  declined : {r s : Refusal} → s ≡ refusal_as n r → AnswersAlike n T h g (Err r) (Err s)

-- ---- parts

module _ {n : Renaming} where
  pub clients_as : {c d : Client} → d.serial ≡ n.client c.serial → d.user ≡ c.user → d.rows ≡ c.rows
      → d.columns ≡ c.columns → (items d.keys).1 ≡ (items c.keys).1 → d.layout ≡ layout_as n c.layout
      → d.last ≡ option_map n.window c.last → d.former ≡ option_map n.window c.former → d.message ≡ c.message
      → ClientsAlike n c d
  clients_as serial user rows columns keys layout last former message = record {
    serial = serial;
    user = user;
    rows = rows;
    columns = columns;
    keys = keys;
    layout = layout;
    last = last;
    former = former;
    message = message;
  }

  pub tables_as : {t u : Tables} → u.owner ≡ t.owner → u.edition ≡ t.edition → u.is_multiuser ≡ t.is_multiuser
      → HistoriesAlike n t.edition t.owner t.acts u.acts → Matched (WindowsAlike n) t.windows u.windows
      → Matched (ClientsAlike n) t.clients u.clients → ((i : ℕ) → n.window (t.next_window + i) ≡ u.next_window + i)
      → ((i : ℕ) → n.client (t.next_client + i) ≡ u.next_client + i) → TablesAlike n t u
  tables_as owner edition mode acts windows clients next_windows next_clients = record {
    owner = owner;
    edition = edition;
    is_multiuser = mode;
    acts = acts;
    windows = windows;
    clients = clients;
    next_windows = next_windows;
    next_clients = next_clients;
  }

  pub deed_as : {d e : Deed} → e.acts ≡ map (act_as n) d.acts → TablesAlike n d.tables e.tables
      → Matched (EffectsAlike n) d.effects e.effects → DeedsAlike n d.tables.acts e.tables.acts d e
  deed_as acts tables effects =
      record { acts = acts; tables = tables; effects = effects; kept = refl; kept_too = refl }

-- ---- terminals

written_last : (a : Terminal) (ws : List Writing) (x : Writing)
    → (writes_all a (ws ++ x ∷ [])).terminal ≡ (writes_one (writes_all a ws).terminal x).terminal
unfolding writes_all
written_last a [] x = refl
written_last a (w ∷ ws) x = written_last (writes_one a w).terminal ws x

written_on : (a b : Terminal) (x : Writing) → TerminalsAlike a b
    → TerminalsAlike (writes_one a x).terminal (writes_one b x).terminal
unfolding writes_all
written_on a b x s = record {
  screens = λ later. s.screens (x ∷ later);
  reports = λ later bytes. s.reports (x ∷ later) bytes;
}

pub written_alike : (w v : Window) (x : Writing) → TerminalsAlike (terminal_of w) (terminal_of v)
    → TerminalsAlike (terminal_of (record w { writing = w.writing ++ x ∷ [] }))
    (terminal_of (record v { writing = v.writing ++ x ∷ [] }))
written_alike w v x s =
    subst (λ a. TerminalsAlike a (terminal_of (record v { writing = v.writing ++ x ∷ [] })))
    (sym (written_last (ready (starting w.rows w.columns w.keep)) w.writing x))
    (subst (λ b. TerminalsAlike (writes_one (terminal_of w) x).terminal b)
    (sym (written_last (ready (starting v.rows v.columns v.keep)) v.writing x))
    (written_on (terminal_of w) (terminal_of v) x s))

module _ (n : Renaming) where
  -- ---- clients

  last_as : (f last : Option ℕ)
      → last_after (option_map n.window f) (option_map n.window last) ≡ option_map n.window (last_after f last)
  last_as None last = refl
  last_as (Some w) last = refl

  former_as : (f last former : Option ℕ)
      → former_after (option_map n.window f) (option_map n.window last) (option_map n.window former)
      ≡ option_map n.window (former_after f last former)
  former_as None last former = refl
  former_as (Some w) last former =
      cc (is_window_as n w last, if_as (option_map n.window) (is_window w last) former last)

  module _ (c d : Client) (r : ClientsAlike n c d) (l m : Arrangement) (same : m ≡ layout_as n l) where
    focus_as : focused (record d { layout = m }) ≡ option_map n.window (focused (record c { layout = l }))
    focus_as = focused_as n (record c { layout = l }) (record d { layout = m }) same

    pub arranged_alike : ClientsAlike n (with_layout l c) (with_layout m d)
    arranged_alike = clients_as r.serial r.user r.rows r.columns r.keys same
        (cc (focus_as, r.last, last_as (focused (record c { layout = l })) c.last))
        (cc (focus_as, r.last, r.former, former_as (focused (record c { layout = l })) c.last c.former)) r.message

  pub heard_alike : (m : StatusMessage) (c d : Client) → ClientsAlike n c d → ClientsAlike n (hearing m c) (hearing m d)
  heard_alike m c d r = clients_as r.serial r.user r.rows r.columns r.keys r.layout r.last r.former refl

  emptied_as : (w : ℕ) (ss : List Shown)
      → map (emptied (n.window w)) (map (shown_as n) ss) ≡ map (shown_as n) (map (emptied w) ss)
  emptied_as w [] = refl
  emptied_as w (s ∷ ss) = ap (λ x. x ∷ map (emptied (n.window w)) (map (shown_as n) ss)) (one s.window)
      ∙ ap (λ xs. shown_as n (emptied w s) ∷ xs) (emptied_as w ss) where
        one : (o : Option ℕ)
            → emptied (n.window w) (shown_as n (record s { window = o })) ≡ shown_as n
            (emptied w (record s { window = o }))
        one None = refl
        one (Some v) =
            let closed : Shown = record { window = None; back = s.back } in
            let kept = if_as (shown_as n) (v == w) closed (record { window = Some v; back = s.back }) in
            cc (window_test n v w, kept)

  without_alike : (w v : Window) → WindowsAlike n w v → (c d : Client) → ClientsAlike n c d
      → ClientsAlike n (without_window w.serial c) (without_window v.serial d)
  without_alike w v s c d r = clients_as r.serial r.user r.rows r.columns r.keys
      (ap (λ x. record d.layout { shown = map (emptied x) d.layout.shown }) s.serial
      ∙ ap (λ (l : Arrangement). record l { shown = map (emptied (n.window w.serial)) l.shown }) r.layout
      ∙ ap (λ ss. record c.layout { shown = ss }) (emptied_as w.serial c.layout.shown)) r.last r.former r.message

  without_both : (ws vs : List Window) (cs ds : List Client) → Matched (WindowsAlike n) ws vs
      → Matched (ClientsAlike n) cs ds → Matched (ClientsAlike n) (without_windows ws cs) (without_windows vs ds)
  without_both [] [] cs ds m k = k
  without_both (w ∷ ws) (v ∷ vs) cs ds m k =
      without_both ws vs (map (without_window w.serial) cs) (map (without_window v.serial) ds) m.1
      (map_both (ClientsAlike n) (ClientsAlike n) (without_window w.serial) (without_window v.serial) cs ds
      (without_alike w v m.0) k)
  without_both ws vs cs ds m k = absurd m

  pub entering_as : (user : UserId) (o : Option ℕ)
      → entering user (option_map n.window o) ≡ map (act_as n) (entering user o)
  entering_as user None = refl
  entering_as user (Some w) = refl

  pub input_as : (w : ℕ) (bytes : List ℕ)
      → Matched (EffectsAlike n) (input_of w bytes) (input_of (n.window w) bytes)
  input_as w bytes = pick (Matched (EffectsAlike n)) (length bytes == 0) (length bytes == 0) refl tt (refl, tt)

  module _ (t u : Tables) (a : TablesAlike n t u) where
    -- tables with other rows
    pub rows_alike : (ws vs : List Window) (cs ds : List Client) → Matched (WindowsAlike n) ws vs
        → Matched (ClientsAlike n) cs ds
        → TablesAlike n (record t { windows = ws; clients = cs }) (record u { windows = vs; clients = ds })
    rows_alike ws vs cs ds m k =
        tables_as a.owner a.edition a.is_multiuser a.acts m k a.next_windows a.next_clients

    pub mode_alike : (b : Bool) → TablesAlike n (record t { is_multiuser = b }) (record u { is_multiuser = b })
    mode_alike b = tables_as a.owner a.edition refl a.acts a.windows a.clients a.next_windows a.next_clients

    pub put_client_alike : (c d : Client) → ClientsAlike n c d → TablesAlike n (with_client t c) (with_client u d)
    put_client_alike c d r =
        rows_alike t.windows u.windows _ _ a.windows
        (put_both (ClientsAlike n) (λ (x : Client). x.serial) (λ (x : Client). x.serial) c.serial d.serial
        (λ x y s. ap (λ k. y.serial == k) r.serial ∙ client_serials n x y s c.serial) c d r t.clients u.clients
        a.clients)

    pub put_window_alike : (w v : Window) → WindowsAlike n w v → TablesAlike n (with_window t w) (with_window u v)
    put_window_alike w v r =
        rows_alike _ _ t.clients u.clients
        (put_both (WindowsAlike n) (λ (x : Window). x.serial) (λ (x : Window). x.serial) w.serial v.serial
        (λ x y s. ap (λ k. y.serial == k) r.serial ∙ window_serials n x y s w.serial) w v r t.windows u.windows
        a.windows) a.clients

    pub acting_alike : (acts others : List Act) → others ≡ map (act_as n) acts
        → DeedsAlike n t.acts u.acts (acting t acts) (acting u others)
    acting_alike acts others same = deed_as same a tt

    pub listing_alike : (x y : List ℕ) → DeedsAlike n t.acts u.acts (listing t x) (listing u y)
    listing_alike x y = deed_as refl a tt

    pub enters_alike : (c d : Client) → ClientsAlike n c d → (l m : Arrangement) → m ≡ layout_as n l
        → DeedsAlike n t.acts u.acts (enters t c l) (enters u d m)
    enters_alike c d r l m same = deed_as
        (cc (r.user, focus_as c d r l m same, entering_as c.user (focused (record c { layout = l }))))
        (put_client_alike (with_layout l c) (with_layout m d) (arranged_alike c d r l m same)) tt

    pub parts_alike : (p q : Client → Bool) (why : Reason)
        → ((c d : Client) → ClientsAlike n c d → q d ≡ p c) → DeedsAlike n t.acts u.acts (parts p why t) (parts q why u)
    parts_alike p q why same =
        let gone : Matched (ClientsAlike n) (filter p t.clients) (filter q u.clients) =
        filter_match (ClientsAlike n) p q same t.clients u.clients a.clients in deed_as
        (made_both (ClientsAlike n) (act_as n) _ _ _ _ (λ c d r. ap act.Parted r.serial) gone)
        (rows_alike t.windows u.windows _ _ a.windows
        (filter_match (ClientsAlike n) (λ c. not (p c)) (λ d. not (q d)) (λ c d r. ap not (same c d r))
        t.clients u.clients a.clients))
        (map_both (ClientsAlike n) (EffectsAlike n) _ _ _ _ (λ c d r. ap (λ s. Gone (peer.Client s) why) r.serial) gone)

    pub closes_alike : (p q : Window → Bool) (why : Reason)
        → ((w v : Window) → WindowsAlike n w v → q v ≡ p w)
        → DeedsAlike n t.acts u.acts (closes p why t) (closes q why u)
    closes_alike p q why same =
        let gone : Matched (WindowsAlike n) (filter p t.windows) (filter q u.windows) =
        filter_match (WindowsAlike n) p q same t.windows u.windows a.windows in deed_as
        (made_both (WindowsAlike n) (act_as n) _ _ _ _ (λ w v r. ap act.Closed r.serial) gone)
        (rows_alike _ _ _ _
        (filter_match (WindowsAlike n) (λ w. not (p w)) (λ v. not (q v)) (λ w v r. ap not (same w v r))
        t.windows u.windows a.windows)
        (without_both (filter p t.windows) (filter q u.windows) t.clients u.clients gone a.clients))
        (map_both (WindowsAlike n) (EffectsAlike n) _ _ _ _ (λ w v r. ap (λ s. Gone (peer.Window s) why) r.serial) gone)

    pub writes_alike : (w v : Window) → WindowsAlike n w v → (what : Writing)
        → DeedsAlike n t.acts u.acts (writes t w what) (writes u v what)
    writes_alike w v r what = deed_as refl (put_window_alike _ _ (record {
      serial = r.serial;
      number = r.number;
      title = r.title;
      terminal = written_alike w v what r.terminal;
    })) tt

    pub tells_alike : (x : List ℕ) → DeedsAlike n t.acts u.acts (tells x t) (tells x u)
    tells_alike x = deed_as refl
        (rows_alike t.windows u.windows _ _ a.windows
        (map_both (ClientsAlike n) (ClientsAlike n) _ _ _ _ (heard_alike (message.Text x)) a.clients))
        (map_both (ClientsAlike n) (EffectsAlike n) _ _ _ _ (λ c d r. (x, ap (λ s. Say s x) r.serial, inl refl))
        a.clients)
