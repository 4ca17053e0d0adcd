-- Sessions that are alike stay so, step by step.
use Rattle.session_alike.proofs.Vocabulary.{◌≡◌, ℕ, ◌+◌, arith, refl, List, [], ◌∷◌, Option, Some, None, ap, sym, ◌∙◌}
use Rattle.session_alike.proofs.Vocabulary.{subst, BothOrNone, Matched, Effect, outcome, granted_view, Client, Tables}
use Rattle.session_alike.proofs.Vocabulary.{client_at, fresh, Draw, Entry, EventValue, Renaming, act_as, event_as}
use Rattle.session_alike.proofs.Vocabulary.{verdict_as, ClientsAlike, TablesAlike, WindowsAlike, HistoriesAlike}
use Rattle.session_alike.proofs.Vocabulary.{History, AllEffectsAlike, AllHaveSerials, AllStepsAlike, DrawsAlike}
use Rattle.session_alike.proofs.Vocabulary.{EffectsAlike, HasSerials, IsSameEvent, RepliesAlike, StepsAlike}
use Rattle.session_alike.proofs.Changing.{clients_as, put_client_alike, tables_as}
use Rattle.session_alike.proofs.Events.{outcome_alike}
use Rattle.session_alike.proofs.Finding.{client_alike}
use Rattle.session_alike.proofs.Outcomes.{OutcomesAlike}
use Rattle.session_alike.proofs.Seeing.{view_alike}
use Rattle.terminal_model.specs.Shows.{View}
use Rattle.session_model.specs.Run.{HasEffects, IsRunFrom, IsStep, after, drawn, drawn_on, tables_from, with_drawn}

from_nothing : (i : ℕ) → 0 + i ≡ i
from_nothing i = omega arith

module _ (n : Renaming) where
  -- ---- what was drawn

  drawn_this : (fs : List Effect) (x : View) (c d : Client) → ClientsAlike n c d
      → ClientsAlike n (with_drawn fs x c) d
  drawn_this [] x c d r = r
  drawn_this (f ∷ fs) x c d r =
      clients_as r.serial r.user r.rows r.columns r.keys r.layout r.last r.former r.message

  drawn_other : (gs : List Effect) (x : View) (c d : Client) → ClientsAlike n c d
      → ClientsAlike n c (with_drawn gs x d)
  drawn_other [] x c d r = r
  drawn_other (g ∷ gs) x c d r =
      clients_as r.serial r.user r.rows r.columns r.keys r.layout r.last r.former r.message

  drawn_on_alike : (t u : Tables) → TablesAlike n t u → (fs gs : List Effect) (o p : Option Client)
      → BothOrNone (ClientsAlike n) o p → TablesAlike n (drawn_on o fs t) (drawn_on p gs u)
  drawn_on_alike t u a fs gs None None r = a
  drawn_on_alike t u a fs gs (Some c) (Some d) r =
      put_client_alike n t u a (with_drawn fs (granted_view t c) c) (with_drawn gs (granted_view u d) d)
      (drawn_this fs (granted_view t c) c (with_drawn gs (granted_view u d) d)
      (drawn_other gs (granted_view u d) c d r))
  drawn_on_alike t u a fs gs o p r = absurd r

  drawn_alike : (event : EventValue) (t u : Tables) → TablesAlike n t u → (fs gs : List Effect)
      → TablesAlike n (drawn event fs t) (drawn (event_as n event) gs u)
  drawn_alike (Draw client) t u a fs gs =
      drawn_on_alike t u a fs gs (client_at t client) (client_at u (n.client client)) (client_alike n t u a client)
  drawn_alike _ t u a fs gs = a

  draws_alike : (t u : Tables) → TablesAlike n t u → (client : ℕ) → DrawsAlike n t u client
  draws_alike t u a client c d at there = view_alike n t u a c d
      (subst (BothOrNone (ClientsAlike n) (Some c)) there
      (subst (λ o. BothOrNone (ClientsAlike n) o (client_at u (n.client client))) at (client_alike n t u a client)))

  effects_alike : (t u : Tables) → TablesAlike n t u → (event : EventValue) (fs gs : List Effect)
      → HasEffects t event fs → HasEffects u (event_as n event) gs
      → Matched (EffectsAlike n) (outcome t event).effects (outcome u (event_as n event)).effects
      → AllEffectsAlike n t u event fs gs
  effects_alike t u a (Draw client) fs gs has also m = draws_alike t u a client
  effects_alike t u a event fs gs has also m =
      subst (λ xs. Matched (EffectsAlike n) xs gs) (sym has)
      (subst (λ xs. Matched (EffectsAlike n) (outcome t event).effects xs) (sym also) m)

  -- ---- steps

  pub goes_on : (t u : Tables) (e d : Entry) → TablesAlike n t u → HasSerials t → HasSerials u → IsStep t e
      → IsStep u d → IsSameEvent n e d → StepsAlike n t u e d
  goes_on t u e d a left also step other same =
      let o : OutcomesAlike n e.event (outcome t e.event) (outcome u (event_as n e.event)) =
      outcome_alike n t u a e.event left also in record {
        replies = subst (λ r. RepliesAlike n e.event r d.reply) (sym step.reply)
            (subst (λ r. RepliesAlike n e.event (outcome t e.event).reply r)
            (sym (other.reply ∙ ap (λ event. (outcome u event).reply) same)) o.reply);
        acts = other.acts ∙ ap (λ event. (outcome u event).acts) same ∙ o.acts
            ∙ ap (Rattle.std.proofs.Common.map (act_as n)) (sym step.acts);
        verdicts = other.verdicts ∙ ap (λ event. (outcome u event).verdicts) same ∙ o.verdicts
            ∙ ap (Rattle.std.proofs.Common.map (verdict_as n)) (sym step.verdicts);
        effects = effects_alike t u a e.event e.effects d.effects step.effects
            (subst (λ event. HasEffects u event d.effects) same other.effects) o.effects;
        tables = subst (λ event. TablesAlike n (after t e) (drawn event d.effects (outcome u event).tables)) (sym same)
            (drawn_alike e.event (outcome t e.event).tables (outcome u (event_as n e.event)).tables o.tables e.effects
            d.effects);
      }

  -- ---- runs

  last_alike : (t u : Tables) (run other : List Entry) → AllStepsAlike n t u run other
      → TablesAlike n (tables_from t run) (tables_from u other)
  last_alike t u [] [] all = all
  last_alike t u (e ∷ run) (d ∷ other) all = all.1.tables
  last_alike t u run other all = absurd all

  pub runs_go_on : (t u : Tables) (run other : List Entry) → TablesAlike n t u → AllHaveSerials t run
      → AllHaveSerials u other → IsRunFrom t run → IsRunFrom u other → Matched (IsSameEvent n) run other
      → AllStepsAlike n t u run other
  runs_go_on t u [] [] a left also ran was m = a
  runs_go_on t u (e ∷ run) (d ∷ other) a left also ran was m =
      let all : AllStepsAlike n t u run other = runs_go_on t u run other a left.0 also.0 ran.0 was.0 m.1 in (
        all,
        goes_on (tables_from t run) (tables_from u other) e d (last_alike t u run other all) left.1 also.1 ran.1 was.1
            m.0,
      )
  runs_go_on t u run other a left also ran was m = absurd m

  -- ---- a new session

  pub begins_alike : (h : History) (u : Tables) → u.windows ≡ [] → u.clients ≡ []
      → ((i : ℕ) → n.window i ≡ u.next_window + i) → ((i : ℕ) → n.client i ≡ u.next_client + i)
      → HistoriesAlike n u.edition u.owner h u.acts
      → TablesAlike n (record (fresh u.edition u.owner) { acts = h; is_multiuser = u.is_multiuser }) u
  begins_alike h u no_windows no_clients windows clients acts = tables_as refl refl refl acts
      (subst (Matched (WindowsAlike n) []) (sym no_windows) tt)
      (subst (Matched (ClientsAlike n) []) (sym no_clients) tt)
      (λ i. ap n.window (from_nothing i) ∙ windows i) (λ i. ap n.client (from_nothing i) ∙ clients i)
