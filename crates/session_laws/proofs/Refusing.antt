-- A step that is refused changes nothing, and what is drawn shows the view.
use Rattle.session_laws.proofs.Vocabulary.{◌≡◌, ℕ, ◌++◌, false, List, [], Option, Some, None, refl, ap, sym, ◌∙◌, subst}
use Rattle.session_laws.proofs.Vocabulary.{MatchOption, is_ok, ShowsFromAny, Effect, NoWindow, EventValue, Draw, Entry}
use Rattle.session_laws.proofs.Vocabulary.{Tables, Client, client_at, changing, outcome, refused, finished, done}
use Rattle.session_laws.proofs.Vocabulary.{Outcome, granted_view, HasEffects, IsDraw, deliveries, drawn, drawn_on}
use Rattle.session_laws.proofs.Vocabulary.{after, IsStep, ChangesNothing, DrawShows, DrawShowsOf, row_serial}
use Rattle.session_laws.proofs.Outcomes as outcomes

-- ---- refusals

abbrev Still : Tables → Outcome → Type 0
Still t o = is_ok o.reply ≡ false → (o.tables ≡ t) × (o.acts ≡ []) × (o.effects ≡ [])

unchanged_end : (t : Tables) (o : Outcome) → outcomes.Ends t o → Still t o
unchanged_end t o (outcomes.refuses vs r) err = (refl, refl, refl)
unchanged_end t o (outcomes.does_it vs y d) err = absurd (cc (err))

unchanged : (t : Tables) (event : EventValue) → Still t (outcome t event)
unchanged t event = unchanged_end t (outcome t event) (outcomes.ends t event)

-- a Draw is refused only if its client isn't there
draw_refused : (t : Tables) (effects : List Effect) (o : Option Client)
    → MatchOption o (effects ≡ []) (IsDraw t effects)
    → is_ok (elim o as (λ _. Outcome) [ None ↦ refused t [] NoWindow | Some c ↦ finished t [] done (changing t) ]).reply
    ≡ false
    → (drawn_on o effects t ≡ t) × (effects ≡ [])
draw_refused t effects None is err = (refl, is)
draw_refused t effects (Some c) is err = absurd (cc (err))

pub refusals : (t : Tables) (e : Entry) → IsStep t e → ChangesNothing t e (after t e)
refusals t e step err = on e.event (sym (ap is_ok step.reply) ∙ err) step.effects step.acts where
  on : (event : EventValue) → is_ok (outcome t event).reply ≡ false → HasEffects t event e.effects
      → e.acts ≡ (outcome t event).acts
      → (drawn event e.effects (outcome t event).tables ≡ t) × (e.acts ≡ []) × (e.effects ≡ [])
  on (Draw client) err effects acts =
      let same = unchanged t (Draw client) err in
      let gone = draw_refused t e.effects (client_at t client) effects err in
      (ap (drawn (Draw client) e.effects) same.0 ∙ gone.0, acts ∙ same.1, gone.1)
  on event err effects acts = let same = unchanged t event err in (same.0, acts ∙ same.1, effects ∙ same.2)

-- ---- draws

draw_shows : (t : Tables) (client : ℕ) (e : Entry) (o : Option Client) → client_at t client ≡ o
    → MatchOption o (e.effects ≡ []) (IsDraw t e.effects)
    → MatchOption o (Unit {0})
    (λ c. ShowsFromAny (c.delivered ++ deliveries e.effects client) c.rows c.columns (granted_view t c))
draw_shows t client e None at is = tt
draw_shows t client e (Some c) at is =
    subst (λ n. ShowsFromAny (c.delivered ++ deliveries e.effects n) c.rows c.columns (granted_view t c))
    (row_serial (λ (x : Client). x.serial) t.clients client c at) is.shows

pub draws : (t : Tables) (e : Entry) → IsStep t e → DrawShows t e
draws t e step = on e.event step.effects where
  on : (event : EventValue) → HasEffects t event e.effects → DrawShowsOf t e event
  on (Draw client) is = draw_shows t client e (client_at t client) refl is
  on event is = tt
