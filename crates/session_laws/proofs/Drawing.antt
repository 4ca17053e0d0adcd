-- A draw does the same to alike tables for a client whose views stand, and delivers something to both or neither.
use Rattle.session_laws.proofs.Vocabulary.{◌≡◌, ℕ, Bool, true, false, List, [], ◌∷◌, Option, Some, None, refl, ap, sym}
use Rattle.session_laws.proofs.Vocabulary.{◌∙◌, subst, if◌then◌else◌, option_map, UserId, followed_by, View, NeedsDraw}
use Rattle.session_laws.proofs.Vocabulary.{NeedsNoDraw, Effect, Deliver, NoWindow, Draw, Tables, Client, row_of}
use Rattle.session_laws.proofs.Vocabulary.{client_at, with_client, changing, Outcome, refused, finished, done, outcome}
use Rattle.session_laws.proofs.Vocabulary.{granted_view, drawn, drawn_on, with_drawn, DrawsWhereNeeded, IsDraw}
use Rattle.session_laws.proofs.Vocabulary.{row_serial, is_shown, is_any}
use Rattle.session_laws.proofs.Leaving.{none_left}
use Rattle.session_laws.proofs.Cutting.{put_same, cut_client, cut, client_cut, with_client_cut}
use Rattle.session_laws.proofs.Viewing.{view_cut}

-- ---- a draw that is needed

abbrev Needed : Bool → Option View → View → Type 0
Needed true last v = NeedsDraw last v
Needed false last v = NeedsNoDraw last v

is_needed : (t : Tables) (c : Client) (effects : List Effect) → DrawsWhereNeeded t c effects
    → Needed (is_any effects) c.drawn (granted_view t c)
is_needed t c [] draws = draws
is_needed t c (Deliver to bytes ∷ []) draws = draws.1
is_needed t c effects draws = absurd draws

needed_once : (a b : Bool) (last : Option View) (v : View) → Needed a last v → Needed b last v → a ≡ b
needed_once true true last v p q = refl
needed_once false false last v p q = refl
needed_once true false None v p q = absurd q
needed_once true false (Some w) v p q = absurd (p q)
needed_once false true None v p q = absurd p
needed_once false true (Some w) v p q = absurd (q p)

-- ---- the tables before it

pub draw_outcome : (t : Tables) (client : ℕ) → (outcome t (Draw client)).tables ≡ t
draw_outcome t client = on (client_at t client) where
  on : (o : Option Client)
      → (elim o as (λ _. Outcome) [ None ↦ refused t [] NoWindow | Some c ↦ finished t [] done (changing t) ]).tables ≡
      t
  on None = refl
  on (Some c) = ap (λ acts. record t { acts = followed_by t.acts acts }) (none_left t.clients)

pub draw_after : (t : Tables) (client : ℕ) (effects : List Effect)
    → drawn (Draw client) effects (outcome t (Draw client)).tables ≡ drawn_on (client_at t client) effects t
draw_after t client effects = ap (λ u. drawn_on (client_at u client) effects u) (draw_outcome t client)

row_at : (t : Tables) (client : ℕ) (c : Client) → client_at t client ≡ Some c → client_at t c.serial ≡ Some c
row_at t client c at = ap (client_at t) (row_serial (λ (x : Client). x.serial) t.clients client c at) ∙ at

module _ (shown : ℕ → Bool) (seeing : UserId → Bool) where
  abbrev g : Client → Client
  g = cut_client shown seeing

  abbrev less : Tables → Tables
  less = cut shown seeing

  pub same_client : (t u : Tables) (client : ℕ) → less t ≡ less u
      → option_map g (client_at t client) ≡ option_map g (client_at u client)
  same_client t u client same = sym (client_cut shown seeing t client) ∙ ap (λ x. client_at x client) same
      ∙ client_cut shown seeing u client

  -- what a draw leaves of a client
  abbrev left_of : Bool → View → Client → Client
  left_of any v c = record c
      { delivered = []; drawn = if seeing c.user then (if any then Some v else c.drawn) else None }

  drawn_cut : (effects : List Effect) (v : View) (c : Client)
      → g (with_drawn effects v c) ≡ left_of (is_any effects) v c
  drawn_cut [] v c = refl
  drawn_cut (f ∷ fs) v c = refl

  -- nothing of it is left of others' clients
  other_drawn : (t : Tables) (c : Client) (effects : List Effect) (v : View) → client_at t c.serial ≡ Some c
      → seeing c.user ≡ false → less (with_client t (with_drawn effects v c)) ≡ less t
  other_drawn t c effects v own not_theirs =
      ap (λ cs. record (less t) { clients = cs })
      (put_same g (λ (x : Client). x.serial) t.clients _ c (with_drawn effects v c) (own_serial effects)
      (drawn_cut effects v c
      ∙ ap
      (λ (b : Bool). record c
      { delivered = []; drawn = if b then (if is_any effects then Some v else c.drawn) else None }) not_theirs
      ∙ sym (ap (λ (b : Bool). record c { delivered = []; drawn = if b then c.drawn else None }) not_theirs))) where
        own_serial : (es : List Effect)
            → row_of (λ (x : Client). x.serial) t.clients (with_drawn es v c).serial ≡ Some c
        own_serial [] = own
        own_serial (f ∷ fs) = own

  abbrev again : Bool → View → Client → Client
  again any v c = record c { drawn = if seeing c.user then (if any then Some v else c.drawn) else None }

  of_cut : (any : Bool) (v : View) (c : Client) → left_of any v c ≡ again any v (g c)
  of_cut any v c = ap (λ o. record c { delivered = []; drawn = o }) (on (seeing c.user) any) where
    on : (b e : Bool)
        → (if b then (if e then Some v else c.drawn) else None) ≡
        (if b then (if e then Some v else (if b then c.drawn else None)) else None)
    on true e = refl
    on false e = refl

  -- of a client whose views stand it is the same
  mine_drawn : (t u : Tables) (c d : Client) (ds es : List Effect) (v w : View) → less t ≡ less u → g c ≡ g d
      → is_any ds ≡ is_any es → v ≡ w
      → less (with_client t (with_drawn ds v c)) ≡ less (with_client u (with_drawn es w d))
  mine_drawn t u c d ds es v w same alike is views =
      sym (with_client_cut shown seeing t (with_drawn ds v c))
      ∙ ap (with_client (less t)) (drawn_cut ds v c ∙ of_cut (is_any ds) v c)
      ∙ ap (λ x. with_client x (again (is_any ds) v (g c))) same
      ∙ ap (with_client (less u))
      (ap (λ x. again (is_any ds) v x) alike ∙ ap (λ e. again e v (g d)) is
      ∙ ap (λ x. again (is_any es) x (g d)) views ∙ sym (drawn_cut es w d ∙ of_cut (is_any es) w d))
      ∙ with_client_cut shown seeing u (with_drawn es w d)

  -- ---- two draws

  -- each window that the client shows readable stands whole
  abbrev pub Stands : Tables → Client → Type 0
  Stands t c = (window : ℕ) → is_shown t c window ≡ true → shown window ≡ true

  same_view : (t u : Tables) (c d : Client) → less t ≡ less u → g c ≡ g d → Stands t c → Stands u d
      → granted_view t c ≡ granted_view u d
  same_view t u c d same alike p q =
      sym (view_cut shown seeing t c p) ∙ ap (λ x. granted_view x (g c)) same ∙ ap (granted_view (less u)) alike
      ∙ view_cut shown seeing u d q

  last_same : (c d : Client) → g c ≡ g d → seeing c.user ≡ true → c.drawn ≡ d.drawn
  last_same c d alike theirs =
      let users : c.user ≡ d.user = ap (λ (x : Client). x.user) alike in
      sym (ap (λ b. if b then c.drawn else None) theirs) ∙ ap (λ (x : Client). x.drawn) alike
      ∙ ap (λ b. if b then d.drawn else None) (ap seeing (sym users) ∙ theirs)

  pub record Alike (t u : Tables) (c d : Client) (ds es : List Effect) : Type 0 where
    pub view : granted_view t c ≡ granted_view u d
    pub any : is_any ds ≡ is_any es

  pub theirs_alike : (t u : Tables) (c d : Client) (ds es : List Effect) → less t ≡ less u → g c ≡ g d
      → seeing c.user ≡ true → IsDraw t ds c → IsDraw u es d → Stands t c → Stands u d → Alike t u c d ds es
  theirs_alike t u c d ds es same alike theirs draws drawn p q =
      let views : granted_view t c ≡ granted_view u d = same_view t u c d same alike p q in record {
        view = views;
        any = needed_once (is_any ds) (is_any es) d.drawn (granted_view u d)
            (subst (λ v. Needed (is_any ds) d.drawn v) views
            (subst (λ o. Needed (is_any ds) o (granted_view t c)) (last_same c d alike theirs)
            (is_needed t c ds draws.drawn)))
            (is_needed u d es drawn.drawn);
      }

  pub tables_alike : (t u : Tables) (client : ℕ) (c d : Client) (ds es : List Effect) → less t ≡ less u → g c ≡ g d
      → client_at t client ≡ Some c → client_at u client ≡ Some d
      → IsDraw t ds c → IsDraw u es d → (seeing c.user ≡ true → Stands t c) → (seeing d.user ≡ true → Stands u d)
      → less (drawn_on (Some c) ds t) ≡ less (drawn_on (Some d) es u)
  tables_alike t u client c d ds es same alike at there draws drawn p q = on (seeing c.user) refl where
    users : c.user ≡ d.user
    users = ap (λ (x : Client). x.user) alike

    on : (b : Bool) → seeing c.user ≡ b
        → less (with_client t (with_drawn ds (granted_view t c) c)) ≡ less
        (with_client u (with_drawn es (granted_view u d) d))
    on true theirs =
        let stands : Alike t u c d ds es = theirs_alike t u c d ds es same alike theirs draws drawn (p theirs)
        (q (ap seeing (sym users) ∙ theirs)) in
        mine_drawn t u c d ds es (granted_view t c) (granted_view u d) same alike stands.any stands.view
    on false theirs =
        other_drawn t c ds (granted_view t c) (row_at t client c at) theirs ∙ same
        ∙ sym (other_drawn u d es (granted_view u d) (row_at u client d there) (ap seeing (sym users) ∙ theirs))
