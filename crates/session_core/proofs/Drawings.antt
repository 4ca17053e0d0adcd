-- A draw, by the shared frame or by one of its own, leaves the shared frame as the definitions say.
use Rattle.session_core.proofs.Vocabulary.{◌≡◌, ℕ, ◌++◌, Bool, List, Some, None, Err, ap, sym, ◌∙◌, subst, Made, Effect}
use Rattle.session_core.proofs.Vocabulary.{Refusal, Draw, Reply, Tables, Client, client_at, granted_view, done}
use Rattle.session_core.proofs.Vocabulary.{drawn_on, Step, StepOutput, State, Stands, IsAsBefore, Lead, DrawsBy, Knows}
use Rattle.session_core.proofs.Vocabulary.{Sharing, IsLead, IsLeadIfAny, IsShared, is_one_of, Joins, SharesOrForgets}
use Rattle.session_core.proofs.Vocabulary.{TakenAs, StayShared, DrawsSharing}
use Rattle.session_view.specs.Drawn.{HasDrawnSo, IsSomething, IsNothing, IsDrawnBy, IsRefusedFor}
use Rattle.session_view.specs.Following.{DrawsLike}
use Rattle.session_core.specs.Taking.{Takes}
use Rattle.session_core.proofs.Drawn.{drawn_taken, undrawn_or}
use Rattle.session_core.proofs.Shared.{one_knows, none_shared, joined_shared, own_shared}

module _ (client : ℕ) (old new : State) (shared shares : Sharing) (before after : StepOutput) where
  -- a client that follows the frame
  pub followed : (l : Lead) (knows : Bool) → shared.lead ≡ Some l → knows ≡ is_one_of client shared.alike.items
      → DrawsLike client l knows old new before after → Joins client shared shares
      → DrawsSharing client old shared new shares before after
  followed l knows at known draws joins = λ t st fit is.
      let lead : IsLead t is.known shared.followers.items l = subst (IsLeadIfAny t is.known shared.followers.items) at
      is.lead in
      on t is
      (draws t st fit lead.led
      (λ yes. subst (λ o. Knows t o client) (sym lead.before)
      (one_knows t is.known shared.alike.items client (sym known ∙ yes) is.alike))) where
        on : (t : Tables) → IsShared t shared
            →
            ((c : Client) × (client_at t client ≡ Some c) × (l.frame.view ≡ granted_view t c)
            × HasDrawnSo IsSomething t c new before after)
            → (c : Client) × (client_at t client ≡ Some c)
            × HasDrawnSo (λ effects. IsShared (drawn_on (Some c) effects t) shares) t c new before after
        on t is (c, there, view, (drawn, some)) =
            (c, there, (drawn, joined_shared t client c there drawn.effects shared shares l some is at view joins))

  -- a client that is drawn by a frame of its own
  pub drawn_own : (f : Made) → DrawsBy client (Some f) old new before after → SharesOrForgets client f shared shares
      → DrawsSharing client old shared new shares before after
  drawn_own f by how = λ t st fit is. on t is (by t st fit) where
    on : (t : Tables) → IsShared t shared
        → ((c : Client) × (client_at t client ≡ Some c) × IsDrawnBy (Some f) t c new before after)
        → (c : Client) × (client_at t client ≡ Some c)
        × HasDrawnSo (λ effects. IsShared (drawn_on (Some c) effects t) shares) t c new before after
    on t is (c, there, (leads, (drawn, some))) =
        (c, there, (drawn, own_shared t client c there drawn.effects shared shares f some is leads how))

  -- a client that needs no draw
  pub drawn_none : DrawsBy client None old new before after → shares ≡ shared
      → DrawsSharing client old shared new shares before after
  drawn_none by same = λ t st fit is. on t is (by t st fit) where
    on : (t : Tables) → IsShared t shared
        → ((c : Client) × (client_at t client ≡ Some c) × HasDrawnSo IsNothing t c new before after)
        → (c : Client) × (client_at t client ≡ Some c)
        × HasDrawnSo (λ effects. IsShared (drawn_on (Some c) effects t) shares) t c new before after
    on t is (c, there, (drawn, none)) =
        (c, there, (drawn, none_shared t client c there drawn.effects shares none (subst (IsShared t) (sym same) is)))

  -- after a step that changed nothing
  pub from_before : (mid : State) (first : Sharing) (middle : StepOutput) → IsAsBefore old mid before middle
      → first ≡ shared
      → DrawsSharing client mid first new shares middle after → DrawsSharing client old shared new shares before after
  from_before mid first middle same shared_same draws = λ t st fit is.
      on t (draws t (subst (Stands t) (sym same.state) st) fit (subst (IsShared t) (sym shared_same) is)) where
        on : (t : Tables)
            →
            ((c : Client) × (client_at t client ≡ Some c)
            × HasDrawnSo (λ effects. IsShared (drawn_on (Some c) effects t) shares) t c new middle after)
            → (c : Client) × (client_at t client ≡ Some c)
            × HasDrawnSo (λ effects. IsShared (drawn_on (Some c) effects t) shares) t c new before after
        on t (c, there, (drawn, holds)) = (
          c,
          there,
          (
            record {
              effects = drawn.effects;
              is_draw = drawn.is_draw;
              effects_are = drawn.effects_are ∙ ap (λ (es : List Effect). es ++ drawn.effects) same.effects;
              acts_are = drawn.acts_are ∙ same.acts;
              stands = drawn.stands;
            },
            holds,
          ),
        )

-- ---- steps

module _ (client : ℕ) (old new : State) (shared shares : Sharing) (before : Step) (made : StepOutput) where
  pub draw_step : (reply : Reply) → done ≡ reply → DrawsSharing client old shared new shares before.made made
      → Takes (Draw client) old shared reply new shares before (record before { made = made })
  draw_step reply same draws = λ t st fit is other. on t (draws t st fit is) where
    on : (t : Tables)
        →
        ((c : Client) × (client_at t client ≡ Some c)
        × HasDrawnSo (λ effects. IsShared (drawn_on (Some c) effects t) shares) t c new before.made made)
        → TakenAs (Draw client) reply t (StayShared (Draw client) shared shares) new before
        (record before { made = made })
    on t (c, there, (drawn, holds)) = drawn_taken t client c reply new before made
        (StayShared (Draw client) shared shares) there same drawn holds

  pub refused_step : (X : Type 0) (r : Refusal) → IsRefusedFor {X = X} client old (Err r)
      → IsAsBefore old new before.made made → shares ≡ shared
      → Takes (Draw client) old shared (Err r) new shares before (record before { made = made })
  refused_step X r why same unshared = λ t st fit is other.
      undrawn_or t client r old new before made (StayShared (Draw client) shared shares) (why t st fit) st same
      (subst (IsShared t) (sym unshared) is) other

-- ---- what changed nothing

pub then_same : (first second third : State) (a b c : StepOutput) → IsAsBefore first second a b
    → IsAsBefore second third b c → IsAsBefore first third a c
then_same first second third a b c one two = record {
  state = two.state ∙ one.state;
  acts = two.acts ∙ one.acts;
  effects = two.effects ∙ one.effects;
}

pub refused_behind : (X : Type 0) (client : ℕ) (first second : State) (a b : StepOutput) (r : Refusal)
    → IsAsBefore first second a b
    → IsRefusedFor {X = X} client second (Err r) → IsRefusedFor {X = X} client first (Err r)
refused_behind X client first second a b r same why = λ t st fit. why t (subst (Stands t) (sym same.state) st) fit
