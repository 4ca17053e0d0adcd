-- A user observes the same of two runs that differ only in output that is hidden from the user.
use Rattle.session_laws.proofs.Vocabulary.{◌≡◌, ℕ, Bool, true, false, not, List, [], ◌∷◌, ◌++◌, Option, Some, None}
use Rattle.session_laws.proofs.Vocabulary.{refl, ap, sym, ◌∙◌, map, filter, if◌then◌else◌, ◌||◌, ◌&&◌, option_map}
use Rattle.session_laws.proofs.Vocabulary.{UserId, same_user, EventValue, Output, Draw, Entry, Tables, Client}
use Rattle.session_laws.proofs.Vocabulary.{client_at, IsStep, IsRunFrom, HasEffects, after, tables_from, is_hidden}
use Rattle.session_laws.proofs.Vocabulary.{is_shown, shown_to, with_shown, has_opened, events_from, unhidden, Told}
use Rattle.session_laws.proofs.Vocabulary.{is_for, observed, observed_from, observations}
use Rattle.session_laws.proofs.Cutting.{cut, cut_client, client_cut}
use Rattle.session_laws.proofs.Hiding.{hidden_cut, cut_more}
use Rattle.session_laws.proofs.Stepping.{StandsAt, output_unheard}
use Rattle.session_laws.proofs.Walking.{none, nobody, skeleton, skeleton_of, both_step, both_seen, bare}

-- ---- what draws show

shown_read : (t : Tables) (user : UserId) (o : Option Client)
    → shown_to (cut none nobody t) user (option_map (cut_client none nobody) o) ≡ shown_to t user o
shown_read t user None = refl
shown_read t user (Some c) = refl

shown_cut : (t : Tables) (user : UserId) (client : ℕ)
    → shown_to (cut none nobody t) user (client_at (cut none nobody t) client) ≡ shown_to t user (client_at t client)
shown_cut t user client = ap (shown_to (cut none nobody t) user) (client_cut none nobody t client)
    ∙ shown_read t user (client_at t client)

same_shown : (t u : Tables) (user : UserId) (event : EventValue) (V : ℕ → Bool) → cut none nobody t ≡ cut none nobody u
    → with_shown t user event V ≡ with_shown u user event V
same_shown t u user (Draw client) V same =
    ap (λ shows. λ window. V window || shows window)
    (sym (shown_cut t user client) ∙ ap (λ x. shown_to x user (client_at x client)) same ∙ shown_cut u user client)
same_shown t u user event V same = refl

-- more windows are shown
or_first : (a b : Bool) → a ≡ true → (a || b) ≡ true
or_first true b is = refl
or_first false b is = absurd (cc (is))

or_second : (a b : Bool) → b ≡ true → (a || b) ≡ true
or_second true b is = refl
or_second false b is = is

more_shown : (t : Tables) (user : UserId) (event : EventValue) (V : ℕ → Bool) (window : ℕ) → V window ≡ true
    → with_shown t user event V window ≡ true
more_shown t user (Draw client) V window is = or_first (V window) (shown_to t user (client_at t client) window) is
more_shown t user event V window is = is

still_open : (t : Tables) (user : UserId) (event : EventValue) (V : ℕ → Bool) → is_hidden V event ≡ false
    → is_hidden (with_shown t user event V) event ≡ false
still_open t user (Draw client) V is = refl
still_open t user event V is = is

-- after hidden output no more windows are shown
same_behind : (t : Tables) (user : UserId) (event : EventValue) (V : ℕ → Bool) → is_hidden V event ≡ true
    → with_shown t user event V ≡ V
same_behind t user (Output at bytes) V is = refl
same_behind t user event V is = absurd (cc (is))

module _ (user : UserId) (start : Tables) (opened : ℕ → Bool) where
  abbrev theirs : UserId → Bool
  theirs v = same_user v user

  abbrev at : List Entry → Tables
  at run = tables_from start run

  abbrev Within : (ℕ → Bool) → Type 0
  Within V = (window : ℕ) → opened window ≡ true → V window ≡ true

  stands_at : (W V : ℕ → Bool) (t u x : Tables) (same : cut W theirs t ≡ cut W theirs u) (event : EventValue)
      → with_shown x user event V ≡ W → StandsAt W theirs t u same x event
  stands_at W V t u x same (Draw client) is = λ c there mine window shows.
      sym (ap (λ (p : ℕ → Bool). p window) is)
      ∙ or_second (V window) (shown_to x user (client_at x client) window)
      (ap (λ o. shown_to x user o window) there ∙ ap (λ b. b && is_shown x c window) mine ∙ shows)
  stands_at W V t u x same event is = tt

  -- hidden output is not observed
  unopened : (V : ℕ → Bool) → Within V → (window : ℕ) → V window ≡ false → opened window ≡ false
  unopened V within window is = on (opened window) (within window) where
    on : (b : Bool) → (b ≡ true → V window ≡ true) → b ≡ false
    on false more = refl
    on true more = let e : V window ≡ true = more refl in absurd (cc (e, is))

  is_false : (b : Bool) → not b ≡ true → b ≡ false
  is_false true is = absurd (cc (is))
  is_false false is = refl

  unobserved : (V : ℕ → Bool) (t : Tables) (e : Entry) → Within V → IsStep t e → is_hidden V e.event ≡ true
      → observed opened t user e ≡ []
  unobserved V t e within step hidden = by e.event hidden step.effects where
    by : (event : EventValue) → is_hidden V event ≡ true → HasEffects t event e.effects
        → observed opened t user (record e { event = event }) ≡ []
    by (Output window bytes) is has =
        ap (λ fs. map (λ f. Told f) (filter (is_for opened t user) fs) ++ []) has
        ∙ ap (λ fs. map (λ f. Told f) fs ++ [])
        (output_unheard opened t user window bytes (unopened V within window (is_false (V window) is)))
    by event is has = absurd (cc (is))

  -- ---- two runs

  record Same (V : ℕ → Bool) (run other : List Entry) : Type 0 where
    pub tables : cut V theirs (at run) ≡ cut V theirs (at other)
    pub seen : observed_from opened user start run ≡ observed_from opened user start other

  abbrev open_events : (ℕ → Bool) → List Entry → List EventValue
  open_events V run = events_from user V start run

  -- after hidden output in one run
  skip : (V : ℕ → Bool) (d : Entry) (p other : List Entry) → Within V → IsStep (at p) d → is_hidden V d.event ≡ true
      → Same V p other → Same V (d ∷ p) other
  skip V d p other within step hidden same = record {
    tables = hidden_cut V theirs (at p) d hidden ∙ same.tables;
    seen = ap (λ o. o ++ observed_from opened user start p) (unobserved V (at p) d within step hidden) ∙ same.seen;
  }

  back : (V : ℕ → Bool) (run other : List Entry) → Same V run other → Same V other run
  back V run other same = record { tables = sym same.tables; seen = sym same.seen }

  -- after a step of both runs
  both : (V W : ℕ → Bool) (d e : Entry) (p q : List Entry) → d.event ≡ e.event → is_hidden V d.event ≡ false
      → IsStep (at p) d → IsStep (at q) e
      → with_shown (at p) user d.event V ≡ W → with_shown (at q) user d.event V ≡ W → Same W p q
      → Same V (d ∷ p) (e ∷ q)
  both V W d e p q is stands step other shows showed same =
      let open_so : is_hidden W d.event ≡ false = ap (λ x. is_hidden x d.event) (sym shows)
      ∙ still_open (at p) user d.event V stands in
      let a : StandsAt W theirs (at p) (at q) same.tables (at p) d.event =
      stands_at W V (at p) (at q) (at p) same.tables d.event shows in
      let b : StandsAt W theirs (at p) (at q) same.tables (at q) d.event =
      stands_at W V (at p) (at q) (at q) same.tables d.event showed in
      let within : (window : ℕ) → V window ≡ true
      → W window ≡ true = λ window is. ap (λ (x : ℕ → Bool). x window) (sym shows)
      ∙ more_shown (at p) user d.event V window is in record {
        tables =
            sym (cut_more W V theirs within (after (at p) d))
            ∙ ap (cut V theirs) (both_step W theirs (at p) (at q) same.tables d e is open_so step other a b)
            ∙ cut_more W V theirs within (after (at q) e);
        seen =
            ap (λ o. o ++ observed_from opened user start p)
            (both_seen W theirs (at p) (at q) same.tables d e is open_so step other a b opened user (λ v. refl))
            ∙ ap (λ os. observed opened (at q) user e ++ os) same.seen;
      }

  alike_none : (V : ℕ → Bool) (other : List Entry) → Within V → IsRunFrom start other → [] ≡ open_events V other
      → Same V [] other
  alike_none V [] within ran is = record { tables = refl; seen = refl }
  alike_none V (e ∷ q) within ran is = on (is_hidden V e.event) refl is (alike_none V q within ran.0) where
    on : (b : Bool) → is_hidden V e.event ≡ b
        → [] ≡ (if b then [] else e.event ∷ []) ++ open_events (with_shown (at q) user e.event V) q
        → ([] ≡ open_events V q → Same V [] q) → Same V [] (e ∷ q)
    on true hidden is more =
        back V (e ∷ q) []
        (skip V e q [] within ran.1 hidden
        (back V [] q (more (is ∙ ap (λ x. open_events x q) (same_behind (at q) user e.event V hidden)))))
    on false hidden is more = absurd (cc (is))

  alike_step : (V : ℕ → Bool) (d : Entry) (p : List Entry) → Within V → IsRunFrom start p → IsStep (at p) d
      → is_hidden V d.event ≡ false
      → ((W : ℕ → Bool) (other : List Entry) → Within W → IsRunFrom start other → open_events W p ≡ open_events W other
      → Same W p other)
      → (other : List Entry) → IsRunFrom start other
      → d.event ∷ open_events (with_shown (at p) user d.event V) p ≡ open_events V other → Same V (d ∷ p) other
  alike_step V d p within ran step stands before [] run is = absurd (cc (is))
  alike_step V d p within ran step stands before (e ∷ q) run is = on (is_hidden V e.event) refl is
      (alike_step V d p within ran step stands before q run.0) where
        on : (b : Bool) → is_hidden V e.event ≡ b
            → d.event ∷ open_events (with_shown (at p) user d.event V) p
            ≡ (if b then [] else e.event ∷ []) ++ open_events (with_shown (at q) user e.event V) q
            → (d.event ∷ open_events (with_shown (at p) user d.event V) p ≡ open_events V q → Same V (d ∷ p) q)
            → Same V (d ∷ p) (e ∷ q)
        on true hidden is more =
            back V (e ∷ q) (d ∷ p)
            (skip V e q (d ∷ p) within run.1 hidden
            (back V (d ∷ p) q (more (is ∙ ap (λ x. open_events x q) (same_behind (at q) user e.event V hidden)))))
        on false hidden is more =
            let heads : d.event ≡ e.event = cc (is) in
            let tails : open_events (with_shown (at p) user d.event V) p
            ≡ open_events (with_shown (at q) user e.event V) q = cc (is) in
            let bared : cut none nobody (at p) ≡ cut none nobody (at q) =
            bare start p q ran run.0
            (sym (skeleton_of user (with_shown (at p) user d.event V) start p) ∙ ap skeleton tails
            ∙ skeleton_of user (with_shown (at q) user e.event V) start q) in
            let showed : with_shown (at q) user d.event V ≡ with_shown (at p) user d.event V = sym
            (same_shown (at p) (at q) user d.event V bared) in
            both V (with_shown (at p) user d.event V) d e p q heads stands step run.1 refl showed
            (before (with_shown (at p) user d.event V) q
            (λ window is. more_shown (at p) user d.event V window (within window is)) run.0
            (tails ∙ ap (λ event. open_events (with_shown (at q) user event V) q) (sym heads)
            ∙ ap (λ x. open_events x q) showed))

  alike : (run : List Entry) → IsRunFrom start run → (V : ℕ → Bool) (other : List Entry) → Within V
      → IsRunFrom start other → open_events V run ≡ open_events V other → Same V run other
  alike [] ran V other within also is = alike_none V other within also is
  alike (d ∷ p) ran V other within also is = on (is_hidden V d.event) refl is (alike p ran.0) where
    on : (b : Bool) → is_hidden V d.event ≡ b
        → (if b then [] else d.event ∷ []) ++ open_events (with_shown (at p) user d.event V) p ≡ open_events V other
        → ((W : ℕ → Bool) (other : List Entry) → Within W → IsRunFrom start other
        → open_events W p ≡ open_events W other → Same W p other) → Same V (d ∷ p) other
    on true hidden is before = skip V d p other within ran.1 hidden
        (before V other within also (ap (λ x. open_events x p) (sym (same_behind (at p) user d.event V hidden)) ∙ is))
    on false hidden is before = alike_step V d p within ran.0 ran.1 hidden before other also is

  pub unseen_by : (V : ℕ → Bool) (run other : List Entry) → Within V → IsRunFrom start run → IsRunFrom start other
      → open_events V run ≡ open_events V other
      → observed_from opened user start run ≡ observed_from opened user start other
  unseen_by V run other within ran also is = (alike run ran V other within also is).seen

-- the windows that the user opened are the same in both runs
same_opened : (user : UserId) (t u : Tables) → cut none nobody t ≡ cut none nobody u
    → has_opened t user ≡ has_opened u user
same_opened user t u same = ap (λ (x : Tables). has_opened x user) same

pub unseen : (user : UserId) (start : Tables) (run other : List Entry) → IsRunFrom start run → IsRunFrom start other
    → unhidden user start run ≡ unhidden user start other
    → observations user start run ≡ observations user start other
unseen user start run other ran also is =
    let bared : cut none nobody (tables_from start run) ≡ cut none nobody (tables_from start other) =
    bare start run other ran also
    (sym (skeleton_of user (has_opened (tables_from start run) user) start run) ∙ ap skeleton is
    ∙ skeleton_of user (has_opened (tables_from start other) user) start other) in
    let opened : has_opened (tables_from start run) user ≡ has_opened (tables_from start other) user = same_opened user
    (tables_from start run) (tables_from start other) bared in
    unseen_by user start (has_opened (tables_from start run) user) (has_opened (tables_from start run) user) run other
    (λ window is. is) ran also
    (is ∙ ap (λ V. events_from user V start other) (sym opened))
    ∙ ap (λ V. observed_from V user start other) opened
