-- A step of two runs whose tables are alike: they stay so, and a user observes the same of it.
use Rattle.session_laws.proofs.Vocabulary.{◌≡◌, ℕ, Bool, true, false, List, [], ◌∷◌, ◌++◌, Option, Some, None, refl, ap}
use Rattle.session_laws.proofs.Vocabulary.{sym, ◌∙◌, map, filter, length, if◌then◌else◌, ◌==◌, MatchOption, option_map}
use Rattle.session_laws.proofs.Vocabulary.{option_map_or, UserId, same_user, reads, Effect, Input, Deliver, Say, Gone}
use Rattle.session_laws.proofs.Vocabulary.{NoWindow, EventValue, Output, Draw, Reply, Tables, Window, Client, client_at}
use Rattle.session_laws.proofs.Vocabulary.{window_at, terminal_of, input_of, Outcome, refused, finished, done, outcome}
use Rattle.session_laws.proofs.Vocabulary.{outputs, granted_view, drawn, drawn_on, HasEffects, IsDraw, DrawsWhereNeeded}
use Rattle.session_laws.proofs.Vocabulary.{Giver, OfClient, giver_of, user_by, user_of, client_user, row_serial}
use Rattle.session_laws.proofs.Vocabulary.{is_hidden, Observation, Replied, Told, Drawn, is_users, is_client_of, is_for}
use Rattle.session_laws.proofs.Vocabulary.{is_any, drawn_for, drawn_to}
use Rattle.session_model.specs.declared.event.Peer.TheVariants as peer
use Rattle.session_laws.proofs.Cutting.{cut, cut_client}
use Rattle.session_laws.proofs.GuestsOutcomes.{cut_outcome}
use Rattle.session_laws.proofs.Keying.{outcome_cut}
use Rattle.session_laws.proofs.Drawing.{same_client, draw_after, tables_alike, theirs_alike, Alike, Stands}

-- ---- effects of a draw

only_delivered : (opened : ℕ → Bool) (t x : Tables) (user : UserId) (c : Client) (effects : List Effect)
    → DrawsWhereNeeded t c effects → filter (is_for opened x user) effects ≡ []
only_delivered opened t x user c [] draws = refl
only_delivered opened t x user c (Deliver to bytes ∷ []) draws = refl
only_delivered opened t x user c effects draws = absurd draws

draw_tells : (opened : ℕ → Bool) (t : Tables) (user : UserId) (o : Option Client) (effects : List Effect)
    → MatchOption o (effects ≡ []) (IsDraw t effects) → filter (is_for opened t user) effects ≡ []
draw_tells opened t user None effects none = ap (filter (is_for opened t user)) none
draw_tells opened t user (Some c) effects draws = only_delivered opened t t user c effects draws.drawn

-- ---- hidden output

silent : (opened : ℕ → Bool) (t : Tables) (user : UserId) (w : ℕ) (bytes : List ℕ) → opened w ≡ false
    → filter (is_for opened t user) (input_of w bytes) ≡ []
silent opened t user w bytes unopened = on (length bytes == 0) where
  on : (b : Bool) → filter (is_for opened t user) (if b then [] else Input w bytes ∷ []) ≡ []
  on true = refl
  on false = ap (λ b. if b then Input w bytes ∷ [] else []) unopened

pub output_unheard : (opened : ℕ → Bool) (t : Tables) (user : UserId) (window : ℕ) (bytes : List ℕ)
    → opened window ≡ false → filter (is_for opened t user) (outcome t (Output window bytes)).effects ≡ []
output_unheard opened t user window bytes unopened = on (window_at t window) refl where
  on : (o : Option Window) → window_at t window ≡ o
      → filter (is_for opened t user)
      (elim o as (λ _. Outcome)
      [ None ↦ refused t [] NoWindow | Some w ↦ finished t [] done (outputs t w bytes) ]).effects ≡ []
  on None at = refl
  on (Some w) at = silent opened t user w.serial (reads (terminal_of w) bytes).reports
      (ap opened (row_serial (λ (v : Window). v.serial) t.windows window w at) ∙ unopened)

module _ (shown : ℕ → Bool) (seeing : UserId → Bool) (t u : Tables) (same : cut shown seeing t ≡ cut shown seeing u)
  where
    abbrev g : Client → Client
    g = cut_client shown seeing

    abbrev less : Tables → Tables
    less = cut shown seeing

    -- ---- tables

    same_outcome : (event : EventValue) → is_hidden shown event ≡ false
        → cut_outcome shown seeing (outcome t event) ≡ cut_outcome shown seeing (outcome u event)
    same_outcome event stands = sym (outcome_cut shown seeing t event stands) ∙ ap (λ x. outcome x event) same
        ∙ outcome_cut shown seeing u event stands

    pub same_reply : (event : EventValue) → is_hidden shown event ≡ false
        → (outcome t event).reply ≡ (outcome u event).reply
    same_reply event stands = ap (λ (o : Outcome). o.reply) (same_outcome event stands)

    -- each window that a client whose views stand shows readable stands whole
    abbrev pub StandsAt : Tables → EventValue → Type 0
    StandsAt x (Draw client) =
        (c : Client) → client_at x client ≡ Some c → seeing c.user ≡ true → Stands shown seeing x c
    StandsAt x event = Unit {0}

    draws_alike : (client : ℕ) (ds es : List Effect) (o p : Option Client) → client_at t client ≡ o
        → client_at u client ≡ p → option_map g o ≡ option_map g p
        → MatchOption o (ds ≡ []) (IsDraw t ds) → MatchOption p (es ≡ []) (IsDraw u es) → StandsAt t (Draw client)
        → StandsAt u (Draw client)
        → less (drawn_on o ds t) ≡ less (drawn_on p es u)
    draws_alike client ds es None None at there alike draws drawn p q = same
    draws_alike client ds es None (Some d) at there alike draws drawn p q = absurd (cc (alike))
    draws_alike client ds es (Some c) None at there alike draws drawn p q = absurd (cc (alike))
    draws_alike client ds es (Some c) (Some d) at there alike draws drawn p q =
        tables_alike shown seeing t u client c d ds es same (let e : g c ≡ g d = cc (alike) in e) at there draws drawn
        (λ theirs. p c at theirs) (λ theirs. q d there theirs)

    pub tables_step : (event : EventValue) (ds es : List Effect) → is_hidden shown event ≡ false → HasEffects t event ds
        → HasEffects u event es → StandsAt t event → StandsAt u event
        → less (drawn event ds (outcome t event).tables) ≡ less (drawn event es (outcome u event).tables)
    tables_step (Draw client) ds es stands draws drawn p q =
        ap less (draw_after t client ds)
        ∙ draws_alike client ds es (client_at t client) (client_at u client) refl refl
        (same_client shown seeing t u client same) draws drawn p q
        ∙ sym (ap less (draw_after u client es))
    tables_step event ds es stands draws drawn p q = ap (λ (o : Outcome). o.tables) (same_outcome event stands)

    -- ---- whose step it is

    user_read : (o p : Option Client) → option_map g o ≡ option_map g p
        → option_map (λ (c : Client). c.user) o ≡ option_map (λ (c : Client). c.user) p
    user_read None None alike = refl
    user_read None (Some d) alike = absurd (cc (alike))
    user_read (Some c) None alike = absurd (cc (alike))
    user_read (Some c) (Some d) alike = let e : g c ≡ g d = cc (alike) in ap (λ (x : Client). Some x.user) e

    same_client_user : (client : ℕ) → client_user t client ≡ client_user u client
    same_client_user client = user_read (client_at t client) (client_at u client)
        (same_client shown seeing t u client same)

    same_giver : (giver : Giver) → user_by t giver ≡ user_by u giver
    same_giver (OfClient client) = same_client_user client
    same_giver giver = refl

    -- ---- the users that effects are for

    module _ (opened : ℕ → Bool) (user : UserId) where
      client_read : (o p : Option Client) → option_map g o ≡ option_map g p
          → option_map_or (λ (c : Client). same_user c.user user) o false ≡ option_map_or
          (λ (c : Client). same_user c.user user) p false
      client_read None None alike = refl
      client_read None (Some d) alike = absurd (cc (alike))
      client_read (Some c) None alike = absurd (cc (alike))
      client_read (Some c) (Some d) alike =
          let e : g c ≡ g d = cc (alike) in ap (λ (x : Client). same_user x.user user) e

      same_owner : (client : ℕ) → is_client_of t user client ≡ is_client_of u user client
      same_owner client =
          client_read (client_at t client) (client_at u client) (same_client shown seeing t u client same)

      same_for : (f : Effect) → is_for opened t user f ≡ is_for opened u user f
      same_for (Say client bytes) = same_owner client
      same_for (Gone (peer.Client client) why) = same_owner client
      same_for f = refl

      all_for : (fs : List Effect) → filter (is_for opened t user) fs ≡ filter (is_for opened u user) fs
      all_for [] = refl
      all_for (f ∷ fs) = ap (λ b. if b then f ∷ filter (is_for opened t user) fs else filter (is_for opened t user) fs)
          (same_for f) ∙ ap (λ gs. if is_for opened u user f then f ∷ gs else gs) (all_for fs)

      abbrev told_to : Tables → List Effect → List Observation
      told_to x fs = map (λ f. Told f) (filter (is_for opened x user) fs)

      abbrev pub seen_of : Tables → EventValue → Reply → List Effect → List Observation
      seen_of x event reply fs = (if is_users user (user_of x event) then Replied reply ∷ [] else []) ++
          (told_to x fs ++ drawn_to x user event fs)

      -- the rest of the step, if nothing is drawn
      plain : (event : EventValue) (ds es : List Effect) → is_hidden shown event ≡ false
          → ds ≡ (outcome t event).effects → es ≡ (outcome u event).effects → told_to t ds ≡ told_to u es
      plain event ds es stands is was =
          ap (map (λ f. Told f)) (all_for ds)
          ∙ ap (λ fs. told_to u fs) (is ∙ ap (λ (o : Outcome). o.effects) (same_outcome event stands) ∙ sym was)

      module _ (theirs : (v : UserId) → seeing v ≡ same_user v user) where
        drawn_same : (client : ℕ) (ds es : List Effect) (o p : Option Client) → client_at t client ≡ o
            → client_at u client ≡ p → option_map g o ≡ option_map g p
            → MatchOption o (ds ≡ []) (IsDraw t ds) → MatchOption p (es ≡ []) (IsDraw u es) → StandsAt t (Draw client)
            → StandsAt u (Draw client)
            → drawn_for t user o ds ≡ drawn_for u user p es
        drawn_same client ds es None None at there alike draws drawn p q = refl
        drawn_same client ds es None (Some d) at there alike draws drawn p q = absurd (cc (alike))
        drawn_same client ds es (Some c) None at there alike draws drawn p q = absurd (cc (alike))
        drawn_same client ds es (Some c) (Some d) at there alike draws drawn p q =
            let e : g c ≡ g d = cc (alike) in
            let users : c.user ≡ d.user = ap (λ (x : Client). x.user) e in
            on (same_user c.user user) refl
            ∙ ap (λ b. if b then Drawn d.serial (granted_view u d) (is_any es) ∷ [] else [])
            (ap (λ v. same_user v user) users) where
              on : (b : Bool) → same_user c.user user ≡ b
                  → (if b then Drawn c.serial (granted_view t c) (is_any ds) ∷ [] else []) ≡
                  (if b then Drawn d.serial (granted_view u d) (is_any es) ∷ [] else [])
              on false not_theirs = refl
              on true is =
                  let e : g c ≡ g d = cc (alike) in
                  let sees : seeing c.user ≡ true = theirs c.user ∙ is in
                  let a : Alike shown seeing t u c d ds es =
                  theirs_alike shown seeing t u c d ds es same e sees draws drawn (p c at sees)
                  (q d there (ap seeing (sym (ap (λ (x : Client). x.user) e)) ∙ sees)) in
                  ap (λ n. Drawn n (granted_view t c) (is_any ds) ∷ []) (ap (λ (x : Client). x.serial) e)
                  ∙ ap (λ v. Drawn d.serial v (is_any ds) ∷ []) a.view
                  ∙ ap (λ b. Drawn d.serial (granted_view u d) b ∷ []) a.any

        rest_same : (event : EventValue) (ds es : List Effect) → is_hidden shown event ≡ false → HasEffects t event ds
            → HasEffects u event es → StandsAt t event → StandsAt u event
            → told_to t ds ++ drawn_to t user event ds ≡ told_to u es ++ drawn_to u user event es
        rest_same (Draw client) ds es stands draws drawn p q =
            ap (λ fs. map (λ f. Told f) fs ++ drawn_to t user (Draw client) ds)
            (draw_tells opened t user (client_at t client) ds draws)
            ∙ drawn_same client ds es (client_at t client) (client_at u client) refl refl
            (same_client shown seeing t u client same) draws drawn p q
            ∙ sym
            (ap (λ fs. map (λ f. Told f) fs ++ drawn_to u user (Draw client) es)
            (draw_tells opened u user (client_at u client) es drawn))
        rest_same event ds es stands draws drawn p q = ap (λ fs. fs ++ []) (plain event ds es stands draws drawn)

        pub seen_step : (event : EventValue) (r s : Reply) (ds es : List Effect) → is_hidden shown event ≡ false
            → r ≡ (outcome t event).reply → s ≡ (outcome u event).reply
            → HasEffects t event ds → HasEffects u event es → StandsAt t event → StandsAt u event
            → seen_of t event r ds ≡ seen_of u event s es
        seen_step event r s ds es stands is was draws drawn p q =
            ap (λ o. (if is_users user o then Replied r ∷ [] else []) ++ (told_to t ds ++ drawn_to t user event ds))
            (same_giver (giver_of event))
            ∙ ap (λ x. (if is_users user (user_of u event) then Replied x ∷ [] else []) ++
            (told_to t ds ++ drawn_to t user event ds)) (is ∙ same_reply event stands ∙ sym was)
            ∙ ap (λ rest. (if is_users user (user_of u event) then Replied s ∷ [] else []) ++ rest)
            (rest_same event ds es stands draws drawn p q)
