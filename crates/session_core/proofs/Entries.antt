-- An outcome that has happened is a step of the definitions.
use Rattle.session_core.proofs.Vocabulary.{◌≡◌, Bool, true, false, List, Ok, Err, refl, ap, sym, subst, inl, inr}
use Rattle.session_core.proofs.Vocabulary.{Effect, Refusal, EventValue, Draw, Reply, Tables, Outcome, outcome}
use Rattle.session_core.proofs.Vocabulary.{HasEffects, drawn, Step, State, Stands, HasHappened, Stepped, Sharing}
use Rattle.session_core.proofs.Vocabulary.{TakenAs, StayShared, wants_memory}
use Rattle.std.specs.Prelude.{OnErr}
use Rattle.session_input.specs.Stepping.{Steps}
use Rattle.session_core.specs.Taking.{Takes}

-- whether an event is a draw
abbrev pub is_draw : EventValue → Bool
is_draw (Draw client) = true
is_draw _ = false

has_effects : (t : Tables) (event : EventValue) → is_draw event ≡ false
    → HasEffects t event (outcome t event).effects
has_effects t (Draw client) plain = absurd (cc (plain))
has_effects t event plain = refl

not_drawn : (event : EventValue) (effects : List Effect) (t : Tables) → is_draw event ≡ false
    → drawn event effects t ≡ t
not_drawn (Draw client) effects t plain = absurd (cc (plain))
not_drawn event effects t plain = refl

happened_taken : (t : Tables) (event : EventValue) (reply : Reply) (P : Tables → Type 0)
    (new : State) (before after : Step) → is_draw event ≡ false
    → ((u : Tables) → P u) → HasHappened (outcome t event) reply new before after
    → TakenAs event reply t P new before after
happened_taken t event reply P new before after plain holds h =
    let o : Outcome = outcome t event in (
      record {
        event = event;
        reply = reply;
        acts = o.acts;
        verdicts = o.verdicts;
        effects = o.effects;
      },
      refl,
      refl,
      record {
        step = record {
          reply = sym h.replied;
          acts = refl;
          verdicts = refl;
          effects = has_effects t event plain;
        };
        stands = subst (λ (u : Tables). Stands u new) (sym (not_drawn event o.effects o.tables plain))
            h.stands;
        acts = h.acts;
        effects = h.effects;
        verdicts = h.verdicts;
      },
      holds _,
    )

unless_memory : (o : Outcome) (reply : Reply) (new : State) (before after : Step) → wants_memory reply ≡ false
    → Stepped o reply new before after → HasHappened o reply new before after
unless_memory o (Ok d) new before after other stepped = stepped
unless_memory o (Err r) new before after other (inr h) = h
unless_memory o (Err r) new before after other (inl full) =
    let want : wants_memory (Err r) ≡ true = ap (λ (f : Refusal). wants_memory (Err f)) full in
    absurd (cc (want, other))

still_shared : (event : EventValue) (shared : Sharing) (t : Tables) → is_draw event ≡ false
    → StayShared event shared shared t
still_shared (Draw client) shared t plain = absurd (cc (plain))
still_shared event shared t plain = refl

-- an event that is no draw
pub taken : (event told : EventValue) (old new : State) (shared : Sharing) (reply : Reply)
    (before after : Step) → event ≡ told → is_draw told ≡ false → Steps told old reply new before after
    → Takes event old shared reply new shared before after
taken event told old new shared reply before after is plain steps =
    subst (λ (e : EventValue). Takes e old shared reply new shared before after) (sym is)
    (λ t st fit so other. happened_taken t told reply (StayShared told shared shared) new before after
    plain (λ u. still_shared told shared u plain)
    (unless_memory (outcome t told) reply new before after other (steps t st fit)))

pub wanted : {P : Type 0} (reply : Reply) (r : Refusal) → OnErr reply P → reply ≡ Err r → P
wanted (Ok d) r p is = absurd (cc (is))
wanted (Err e) r p is = p
