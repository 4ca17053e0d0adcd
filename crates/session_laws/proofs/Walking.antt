-- Two runs that differ only in hidden output have alike tables after each step.
use Rattle.session_laws.proofs.Vocabulary.{◌≡◌, ℕ, Bool, true, false, not, List, [], ◌∷◌, ◌++◌, refl, ap, sym, ◌∙◌}
use Rattle.session_laws.proofs.Vocabulary.{subst, map, filter, if◌then◌else◌, UserId, same_user, EventValue, Output}
use Rattle.session_laws.proofs.Vocabulary.{Draw, Entry, Tables, outcome, IsStep, IsRunFrom, HasEffects, after, drawn}
use Rattle.session_laws.proofs.Vocabulary.{tables_from, is_hidden, with_shown, events_from, observed}
use Rattle.session_laws.proofs.Cutting.{cut}
use Rattle.session_laws.proofs.Hiding.{hidden_cut}
use Rattle.session_laws.proofs.Stepping.{StandsAt, tables_step, seen_step}

abbrev pub none : ℕ → Bool
none window = false

abbrev pub nobody : UserId → Bool
nobody user = false

-- ---- all but output

abbrev pub skeleton : List EventValue → List EventValue
skeleton events = filter (λ event. not (is_hidden none event)) events

abbrev pub events : List Entry → List EventValue
events run = map (λ (e : Entry). e.event) run

is_output : (V : ℕ → Bool) (event : EventValue) → is_hidden V event ≡ true → is_hidden none event ≡ true
is_output V (Output window bytes) is = refl
is_output V event is = is

pub skeleton_of : (user : UserId) (V : ℕ → Bool) (start : Tables) (run : List Entry)
    → skeleton (events_from user V start run) ≡ skeleton (events run)
skeleton_of user V start [] = refl
skeleton_of user V start (e ∷ past) = on (is_hidden V e.event) refl
    (skeleton_of user (with_shown (tables_from start past) user e.event V) start past) where
      on : (b : Bool) → is_hidden V e.event ≡ b
          → skeleton (events_from user (with_shown (tables_from start past) user e.event V) start past) ≡ skeleton
          (events past)
          → skeleton
          ((if b then [] else e.event ∷ []) ++ events_from user (with_shown (tables_from start past) user e.event V)
          start past) ≡ skeleton (e.event ∷ events past)
      on true is same = same
          ∙ sym
          (ap (λ b. if not b then e.event ∷ skeleton (events past) else skeleton (events past))
          (is_output V e.event is))
      on false is same = ap (λ es. if not (is_hidden none e.event) then e.event ∷ es else es) same

-- a step of both, of one event
module _ (shown : ℕ → Bool) (seeing : UserId → Bool) (t u : Tables) (same : cut shown seeing t ≡ cut shown seeing u)
    (d e : Entry) (is : d.event ≡ e.event) (stands : is_hidden shown d.event ≡ false)
    (step : IsStep t d) (other : IsStep u e) (p : StandsAt shown seeing t u same t d.event)
    (q : StandsAt shown seeing t u same u d.event) where
  there : HasEffects u d.event e.effects
  there = subst (λ event. HasEffects u event e.effects) (sym is) other.effects

  pub both_step : cut shown seeing (after t d) ≡ cut shown seeing (after u e)
  both_step = tables_step shown seeing t u same d.event d.effects e.effects stands step.effects there p q
      ∙ ap (λ event. cut shown seeing (drawn event e.effects (outcome u event).tables)) is

  pub both_seen : (opened : ℕ → Bool) (user : UserId) → ((v : UserId) → seeing v ≡ same_user v user)
      → observed opened t user d ≡ observed opened u user e
  both_seen opened user theirs =
      seen_step shown seeing t u same opened user theirs d.event d.reply e.reply d.effects e.effects stands step.reply
      (other.reply ∙ ap (λ event. (outcome u event).reply) (sym is)) step.effects there p q
      ∙ ap (λ event. observed opened u user (record e { event = event })) is

trivial : (t u x : Tables) (same : cut none nobody t ≡ cut none nobody u) (event : EventValue)
    → StandsAt none nobody t u same x event
trivial t u x same (Draw client) = λ c at theirs. absurd (cc (theirs))
trivial t u x same event = tt

module _ (start : Tables) where
  abbrev at : List Entry → Tables
  at run = tables_from start run

  abbrev Bare : List Entry → List Entry → Type 0
  Bare run other = cut none nobody (at run) ≡ cut none nobody (at other)

  bare_none : (other : List Entry) → [] ≡ skeleton (events other) → Bare [] other
  bare_none [] is = refl
  bare_none (e ∷ q) is = on (is_hidden none e.event) refl is (bare_none q) where
    on : (b : Bool) → is_hidden none e.event ≡ b
        → [] ≡ (if not b then e.event ∷ skeleton (events q) else skeleton (events q))
        → ([] ≡ skeleton (events q) → Bare [] q) → Bare [] (e ∷ q)
    on true hidden is more = more is ∙ sym (hidden_cut none nobody (at q) e hidden)
    on false hidden is more = absurd (cc (is))

  bare_step : (d : Entry) (p : List Entry) → is_hidden none d.event ≡ false → IsStep (at p) d
      → ((other : List Entry) → IsRunFrom start other → skeleton (events p) ≡ skeleton (events other) → Bare p other)
      → (other : List Entry) → IsRunFrom start other → d.event ∷ skeleton (events p) ≡ skeleton (events other)
      → Bare (d ∷ p) other
  bare_step d p stands step before [] run is = absurd (cc (is))
  bare_step d p stands step before (e ∷ q) run is = on (is_hidden none e.event) refl is
      (bare_step d p stands step before q run.0) where
        on : (b : Bool) → is_hidden none e.event ≡ b
            → d.event ∷ skeleton (events p) ≡ (if not b then e.event ∷ skeleton (events q) else skeleton (events q))
            → (d.event ∷ skeleton (events p) ≡ skeleton (events q) → Bare (d ∷ p) q) → Bare (d ∷ p) (e ∷ q)
        on true hidden is more = more is ∙ sym (hidden_cut none nobody (at q) e hidden)
        on false hidden is more =
            let same : Bare p q =
            before q run.0 (let tails : skeleton (events p) ≡ skeleton (events q) = cc (is) in tails) in
            both_step none nobody (at p) (at q) same d e (let heads : d.event ≡ e.event = cc (is) in heads) stands step
            run.1 (trivial (at p) (at q) (at p) same d.event) (trivial (at p) (at q) (at q) same d.event)

  -- runs of the same events but for output have the same tables but for what was written and drawn
  pub bare : (run other : List Entry) → IsRunFrom start run → IsRunFrom start other
      → skeleton (events run) ≡ skeleton (events other) → Bare run other
  bare [] other ran also is = bare_none other is
  bare (d ∷ p) other ran also is = on (is_hidden none d.event) refl is (λ q run same. bare p q ran.0 run same) where
    on : (b : Bool) → is_hidden none d.event ≡ b
        → (if not b then d.event ∷ skeleton (events p) else skeleton (events p)) ≡ skeleton (events other)
        → ((q : List Entry) → IsRunFrom start q → skeleton (events p) ≡ skeleton (events q) → Bare p q)
        → Bare (d ∷ p) other
    on true hidden is before = hidden_cut none nobody (at p) d hidden ∙ before other also is
    on false hidden is before = bare_step d p hidden ran.1 before other also is
