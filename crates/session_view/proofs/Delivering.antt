-- A frame that is delivered draws the client's granted view, and the state stands for it being drawn.
use Rattle.session_view.proofs.Vocabulary.{◌≡◌, ℕ, List, [], ◌∷◌, Some, None, refl, ap, sym, ◌∙◌, subst, ◌==◌, View}
use Rattle.session_view.proofs.Vocabulary.{NeedsNoDraw, Deliver, granted_view, Tables, client_at, row_of, with_row}
use Rattle.session_view.proofs.Vocabulary.{AreFit, if_true, serial_is, Client, ClientStands, LeadsFrom, State, Stands}
use Rattle.session_view.proofs.Vocabulary.{Knowledge, knowledge_of, Made, BothOrNone, row_there, both_back, serials}
use Rattle.session_view.proofs.Vocabulary.{IsGranted, IsViewFor, HasDrawnSo, IsSomething, LeadsOn}
use Rattle.std.proofs.Common.{◌++◌, Option, append-nil}
use Rattle.terminal_model.specs.Shows.{ShowsFromAny, NeedsDraw}
use Rattle.session_model.specs.Framed.{IsFrame}
use Rattle.session_model.specs.Run.{deliveries, drawn_on}
use Rattle.session_model.specs.Tables as model
use Rattle.windows_model.proofs.Serials.{equal_number, with_back}
use Rattle.session_state.specs.Clients.{AreClients, Finds}
use Rattle.session_state.specs.Draws.{ShowsAlready, Draw}
use Rattle.session_state.specs.declared.state.StepOutput.{StepOutput}
use Rattle.session_state.proofs.Changing as changing
use Rattle.session_view.specs.Drawn.{HasDrawn, IsNothing, Delivers, IsDrawnBy, DrawsBy, DrawsFor}

abbrev serial_of : model.Client → ℕ
serial_of m = m.serial

module _ (t : Tables) (s : State) (client : ℕ) (m : model.Client) (v : View) (st : Stands t s)
    (at : client_at t client ≡ Some m) (granted : v ≡ granted_view t m) where
  own : m.serial ≡ client
  own = serial_is serial_of t.clients client m at

  -- the client's terminal shows it already
  pub nothing_drawn : (made : StepOutput) (new : List Client) (after : StepOutput) → ShowsAlready m v
      → new ≡ s.clients → after.effects.items ≡ made.effects.items
      → after.acts.items ≡ made.acts.items
      → HasDrawnSo IsNothing t m (record s { clients = new }) made after
  nothing_drawn made new after shown same effects_are acts_are = (
    record {
      effects = [];
      is_draw = record {
        drawn = subst (NeedsNoDraw m.drawn) granted shown.needless;
        shows = subst (ShowsFromAny (m.delivered ++ []) m.rows m.columns) granted shown.shows;
      };
      effects_are = effects_are ∙ sym (append-nil made.effects.items);
      acts_are = acts_are;
      stands = subst (λ (cs : List Client). Stands (drawn_on (Some m) [] t) (record s { clients = cs })) (sym same)
          (subst (λ cs. Stands (record t { clients = cs }) s)
          (sym (with_back serial_of t.clients m.serial m (ap (client_at t) own ∙ at))) st);
    },
    refl,
  )

  sent : (bytes : List ℕ) → deliveries (Deliver client bytes ∷ []) m.serial ≡ bytes
  sent bytes =
      append-nil _ ∙ if_true (client == m.serial) bytes [] (equal_number client m.serial (sym own))

  -- the row, to which these bytes were delivered
  abbrev drawn_row : List ℕ → View → model.Client
  drawn_row bytes w = record m { delivered = m.delivered ++ bytes; drawn = Some w }

  -- a frame is delivered to it
  pub frame_drawn : (made : StepOutput) (bytes : List ℕ) (new : List Client) (after : StepOutput)
      → Draw client v bytes t.clients m new
      → after.effects.items ≡ made.effects.items ++ Deliver client bytes ∷ []
      → after.acts.items ≡ made.acts.items
      → HasDrawnSo IsSomething t m (record s { clients = new }) made after
  frame_drawn made bytes new after drawn effects_are acts_are = (
    record {
      effects = Deliver client bytes ∷ [];
      is_draw = record {
        drawn = (
          sym own,
          subst (NeedsDraw m.drawn) granted drawn.needed,
          subst (λ (w : View). IsFrame m.rows m.columns m.delivered w bytes) granted drawn.frame,
        );
        shows = subst (ShowsFromAny (m.delivered ++ deliveries (Deliver client bytes ∷ []) m.serial) m.rows m.columns)
            granted
            (subst (λ (b : List ℕ). ShowsFromAny (m.delivered ++ b) m.rows m.columns v) (sym (sent bytes)) drawn.shows);
      };
      effects_are = effects_are;
      acts_are = acts_are;
      stands = record {
        acl = st.acl;
        locks = st.locks;
        multiuser_is = st.multiuser_is;
        windows = st.windows;
        clients = subst
            (λ (b : List ℕ). AreClients (with_row serial_of t.clients m.serial (drawn_row b (granted_view t m))) new)
            (sym (sent bytes))
            (subst (λ (w : View). AreClients (with_row serial_of t.clients m.serial (drawn_row bytes w)) new) granted
            (subst (λ (n : ℕ). AreClients (with_row serial_of t.clients n (drawn_row bytes v)) new) (sym own)
            drawn.stands));
        next_window_is = st.next_window_is;
        next_client_is = st.next_client_is;
      };
    },
    λ none. absurd (cc (none)),
  )

-- what is known of a client's terminal
pub shadow_is : (m : model.Client) (c : Client) → ClientStands m c
    → c.shadow ≡ knowledge_of m.rows m.columns m.drawn
shadow_is m c is =
    ap (λ n. knowledge_of n c.shadow.columns c.shadow.known) is.rows_are
    ∙ ap (λ n. knowledge_of m.rows n c.shadow.known) is.columns_are
    ∙ ap (λ k. knowledge_of m.rows m.columns k) is.known_is

pub leads_from : (t : Tables) (s : State) (client : ℕ) (m : model.Client) (before : Knowledge)
    → Stands t s → client_at t client ≡ Some m → before ≡ knowledge_of m.rows m.columns m.drawn
    → LeadsFrom client s.clients before
leads_from t s client m before st at same = λ c here.
    let row = row_there ClientStands serial_of changing.serial_of serials t.clients s.clients client m st.clients at in
    let is : row.0 ≡ c = cc (row.1, here) in
    shadow_is m c (subst (λ (x : Client). ClientStands m x) is row.2) ∙ sym same

-- ---- a draw

-- the state without its spare view stands for the same tables
still : (t : Tables) (s : State) (clients : List Client) → clients ≡ s.clients → Stands t s
    → Stands t (record s { clients = clients })
still t s clients same st =
    subst (λ (cs : List Client). Stands t (record s { clients = cs })) (sym same) st

module _ (client : ℕ) (old : State) (clients : List Client) (row : Client) (v : View)
    (made after : StepOutput) (same : clients ≡ old.clients)
    (here : (rows : List model.Client) → AreClients rows clients
    → BothOrNone ClientStands (row_of serial_of rows client) (Some row))
    (views : IsViewFor (record old { clients = clients }) row v) where
  -- the client's row, and what it is granted to see
  found_row : (t : Tables) → Stands t old → AreFit t
      → (m : model.Client) × (client_at t client ≡ Some m) × Stands t (record old { clients = clients })
      × ClientStands m row × IsGranted t m v
  found_row t before fit =
      let st = still t old clients same before in
      let found = both_back ClientStands (client_at t client) (Some row) row (here t.clients st.clients) refl in
      (found.0, found.1, st, found.2, views t found.0 st fit found.2)

  pub drawn_nothing : (new : List Client) → Finds client clients (λ m. ShowsAlready m v)
      → new ≡ clients → after.effects.items ≡ made.effects.items
      → after.acts.items ≡ made.acts.items
      → DrawsBy client None old (record old { clients = new }) made after
  drawn_nothing new shows kept effects_are acts_are = λ t before fit.
      let r = found_row t before fit in (
        r.0,
        r.1,
        nothing_drawn t (record old { clients = clients }) client r.0 v r.2 r.1 r.4.granted made new after
            (shows t.clients r.0 r.2.clients r.1) kept effects_are acts_are,
      )

  pub drawn_by : (f : Made) (new : State) → row_of changing.serial_of clients client ≡ Some row
      → LeadsFrom client clients f.before → f.view ≡ v
      → Delivers client f (record old { clients = clients }) new made after
      → DrawsBy client (Some f) old new made after
  drawn_by f new at leads view delivers = λ t before fit.
      let r = found_row t before fit in
      let on : LeadsOn t r.0 f = record {
        before = sym (leads row at) ∙ shadow_is r.0 row r.3;
        granted = subst (IsGranted t r.0) (sym view) r.4;
      } in (r.0, r.1, (on, delivers t r.0 r.2 r.1 on))

-- the draw of a client, by a frame or without one
pub drawn_for : (client : ℕ) (frame : Option Made) (old new : State) (made after : StepOutput)
    → DrawsBy client frame old new made after → DrawsFor client old new made after
drawn_for client None old new made after by = λ t st fit. on t (by t st fit) where
  on : (t : Tables) → ((c : model.Client) × (client_at t client ≡ Some c) × HasDrawnSo IsNothing t c new made after)
      → (c : model.Client) × (client_at t client ≡ Some c) × HasDrawn t c new made after
  on t (c, at, (drawn, none)) = (c, at, drawn)
drawn_for client (Some f) old new made after by = λ t st fit. on t (by t st fit) where
  on : (t : Tables) → ((c : model.Client) × (client_at t client ≡ Some c) × IsDrawnBy (Some f) t c new made after)
      → (c : model.Client) × (client_at t client ≡ Some c) × HasDrawn t c new made after
  on t (c, at, (leads, (drawn, some))) = (c, at, drawn)
