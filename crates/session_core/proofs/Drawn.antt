-- A draw that was done or refused is a step; Drawings proves what it leaves of the shared frame.
use Rattle.session_core.proofs.Vocabulary.{◌≡◌, ℕ, List, [], Option, Some, None, Err, refl, ap, sym, subst, ◌∙◌}
use Rattle.session_core.proofs.Vocabulary.{append-nil, true, false, inl, inr, MatchOption, ◌⊎◌, Act, followed_by}
use Rattle.session_core.proofs.Vocabulary.{Effect, Refusal, NoMemory, NoWindow, Entry, Draw, Reply, Client, Tables}
use Rattle.session_core.proofs.Vocabulary.{client_at, changing, Outcome, finished, refused, done, left_acts, outcome}
use Rattle.session_core.proofs.Vocabulary.{IsDraw, drawn_on, Step, StepOutput, State, Stands, IsAsBefore, TakenAs}
use Rattle.session_core.proofs.Vocabulary.{wants_memory}
use Rattle.session_view.specs.Drawn.{HasDrawn}
use Rattle.session_core.proofs.Still.{none_left}

module _ (t : Tables) (client : ℕ) where
  abbrev entry : Reply → List Effect → Entry
  entry reply effects = record {
    event = Draw client;
    reply = reply;
    acts = [];
    verdicts = [];
    effects = effects;
  }

  abbrev outcome_of : Option Client → Outcome
  outcome_of o = elim o [
    | None ↦ refused t [] NoWindow
    | Some c ↦ finished t [] done (changing t)
  ]

  left : left_acts t.clients t.clients ≡ []
  left = none_left t.clients t.clients (λ user w is. is)

  pub drawn_taken : (c : Client) (reply : Reply) (new : State) (before : Step) (made : StepOutput)
      (P : Tables → Type 0) → client_at t client ≡ Some c → done ≡ reply
      → (drawn : HasDrawn t c new before.made made) → P (drawn_on (Some c) drawn.effects t)
      → TakenAs (Draw client) reply t P new before (record before { made = made })
  drawn_taken c reply new before made P at same drawn holds =
      let is : outcome t (Draw client) ≡ finished t [] done (changing t) = ap outcome_of at in
      let kept : (outcome t (Draw client)).tables ≡ t =
      ap (λ (o : Outcome). o.tables) is
      ∙ ap (λ (acts : List Act). record t { acts = followed_by t.acts acts }) left in
      let then : drawn_on (client_at (outcome t (Draw client)).tables client) drawn.effects
      (outcome t (Draw client)).tables
      ≡ drawn_on (Some c) drawn.effects t =
      ap (λ (u : Tables). drawn_on (client_at u client) drawn.effects u) kept
      ∙ ap (λ (o : Option Client). drawn_on o drawn.effects t) at in (
        entry reply drawn.effects,
        refl,
        refl,
        record {
          step = record {
            reply = sym same ∙ sym (ap (λ (o : Outcome). o.reply) is);
            acts = sym (ap (λ (o : Outcome). o.acts) is ∙ left);
            verdicts = sym (ap (λ (o : Outcome). o.verdicts) is);
            effects = subst (λ (o : Option Client). MatchOption o (drawn.effects ≡ [])
                (IsDraw t drawn.effects)) (sym at) drawn.is_draw;
          };
          stands = subst (λ (u : Tables). Stands u new) (sym then) drawn.stands;
          acts = drawn.acts_are ∙ sym (append-nil before.made.acts.items);
          effects = drawn.effects_are;
          verdicts = sym (append-nil before.verdicts.items);
        },
        subst P (sym then) holds,
      )

  -- no client has the serial
  undrawn_taken : (r : Refusal) (old new : State) (before : Step) (made : StepOutput)
      (P : Tables → Type 0) → client_at t client ≡ None → r ≡ NoWindow → Stands t old
      → IsAsBefore old new before.made made → P t
      → TakenAs (Draw client) (Err r) t P new before (record before { made = made })
  undrawn_taken r old new before made P at why st same holds =
      let none : List Effect = [] in
      let is : outcome t (Draw client) ≡ refused t [] NoWindow = ap outcome_of at in
      let then : drawn_on (client_at (outcome t (Draw client)).tables client) [] (outcome t (Draw client)).tables ≡ t =
      ap (λ (u : Tables). drawn_on (client_at u client) [] u) (ap (λ (o : Outcome). o.tables) is)
      ∙ ap (λ (o : Option Client). drawn_on o [] t) at in (
        entry (Err r) [],
        refl,
        refl,
        record {
          step = record {
            reply = ap (λ (f : Refusal). Err f) why ∙ sym (ap (λ (o : Outcome). o.reply) is);
            acts = sym (ap (λ (o : Outcome). o.acts) is);
            verdicts = sym (ap (λ (o : Outcome). o.verdicts) is);
            effects = subst (λ (o : Option Client). MatchOption o (none ≡ []) (IsDraw t none))
                (sym at) refl;
          };
          stands = subst (λ (u : Tables). Stands u new) (sym then)
              (subst (λ (s : State). Stands t s) (sym same.state) st);
          acts = same.acts ∙ sym (append-nil before.made.acts.items);
          effects = same.effects ∙ sym (append-nil before.made.effects.items);
          verdicts = sym (append-nil before.verdicts.items);
        },
        subst P (sym then) holds,
      )

  pub undrawn_or : (r : Refusal) (old new : State) (before : Step) (made : StepOutput)
      (P : Tables → Type 0) → (r ≡ NoMemory) ⊎ ((r ≡ NoWindow) × (client_at t client ≡ None))
      → Stands t old → IsAsBefore old new before.made made → P t → wants_memory (Err r) ≡ false
      → TakenAs (Draw client) (Err r) t P new before (record before { made = made })
  undrawn_or r old new before made P (inr why) st same holds other =
      undrawn_taken r old new before made P why.1 why.0 st same holds
  undrawn_or r old new before made P (inl full) st same holds other =
      let want : wants_memory (Err r) ≡ true = ap (λ (f : Refusal). wants_memory (Err f)) full in
      absurd (cc (want, other))
