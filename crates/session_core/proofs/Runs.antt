-- Steps taken one after another are a run of the session, and each keeps the promise.
use Rattle.session_core.proofs.Vocabulary.{◌≡◌, ℕ, ◌<◌, ◌+◌, true, List, [], ◌∷◌, ◌++◌, length, zero, suc, get_or, drop}
use Rattle.session_core.proofs.Vocabulary.{map, refl, ap, sym, ◌∙◌, subst, arith, append-nil, Act, Effect, EventValue}
use Rattle.session_core.proofs.Vocabulary.{Keys, Draw, happening, Reply, Entry, Trace, with_step, Tables, fresh}
use Rattle.session_core.proofs.Vocabulary.{outcome, done, IsRun, IsStep, tables_of, Step, State, Stands, Sharing}
use Rattle.session_core.proofs.Vocabulary.{IsShared, AreLeft, TakenAs, StayShared, Noted, AreDrawn, AreNoted}
use Rattle.session_core.proofs.Vocabulary.{draws_one_of, Session, StandsFor, Takes, with_steps, AllSteps, Keeps}
use Rattle.session_core.proofs.Vocabulary.{untaken_keys, Call, AreSteps, SomeRun, SomeSteps}
use Rattle.std.proofs.Common.{append_assoc, lt-ltb}
use Rattle.std.specs.Borrow.{Bor}
use Rattle.session_model.specs.declared.event.Event.{Event}
use Rattle.session_model.specs.declared.event.Event.TheVariants as told
use Rattle.session_model.specs.declared.refusal.Verdict.{Verdict}
use Rattle.session_model.specs.Run as run
use Rattle.session_laws.proofs.Promising.{step_keeps}
use Rattle.session_laws.proofs.Sounding.{run_sound, fresh_sound}
use Rattle.session_core.proofs.Left.{stay_shared}
use Rattle.session_state.specs.Noted.{nothing}
use Rattle.session_core.proofs.Needless.{needs_none, one_drawn, stay_drawn}
use Rattle.session_core.specs.Stands.{entry_of}
use Rattle.session_core.specs.Headline.{HasCome, Serves, last_reply, replies_of, effects_of, without_keys, IsPart}

-- ---- lists of steps

with_steps-append : (h : Trace) (xs ys : List Entry) → with_steps h (xs ++ ys) ≡ with_steps (with_steps h xs) ys
with_steps-append h [] ys = refl
with_steps-append h (x ∷ xs) ys = with_steps-append (with_step h x) xs ys

effects_of-append : (xs ys : List Entry) → effects_of (xs ++ ys) ≡ effects_of xs ++ effects_of ys
effects_of-append [] ys = refl
effects_of-append (x ∷ xs) ys = ap (λ es. x.effects ++ es) (effects_of-append xs ys)
    ∙ sym (append_assoc x.effects (effects_of xs) (effects_of ys))

replies_of-append : (xs ys : List Entry) → replies_of (xs ++ ys) ≡ replies_of xs ++ replies_of ys
replies_of-append [] ys = refl
replies_of-append (x ∷ xs) ys = ap (λ es. last_reply (untaken_keys x.event x.reply) x.reply ++ es)
    (replies_of-append xs ys) ∙ sym (append_assoc _ (replies_of xs) (replies_of ys))

-- later events are left
serves_before : (events : List EventValue) (steps : List Entry) (left more : List EventValue) → Serves events steps left
    → Serves (events ++ more) steps (left ++ more)
serves_before events [] left more s = ap (λ es. es ++ more) s
serves_before [] (e ∷ steps) left more s = absurd s
serves_before (event ∷ events) (e ∷ steps) left more s = (
  s.0,
  subst (λ es. Serves es steps (left ++ more)) (append_assoc (untaken_keys e.event e.reply) events more)
      (serves_before (untaken_keys e.event e.reply ++ events) steps left more s.1),
)

serves_on : (events : List EventValue) (xs ys : List Entry) (mid left : List EventValue) → Serves events xs mid
    → Serves mid ys left → Serves events (xs ++ ys) left
serves_on events [] ys mid left s t = subst (λ es. Serves es ys left) s t
serves_on [] (x ∷ xs) ys mid left s t = absurd s
serves_on (event ∷ events) (x ∷ xs) ys mid left s t =
    (s.0, serves_on (untaken_keys x.event x.reply ++ events) xs ys mid left s.1 t)

-- ---- what each step keeps

-- a step of the session after a run of it
abbrev IsNext : Trace → Entry → Type 0
IsNext h e = IsRun h × IsStep (tables_of h) e

-- each step of a run is one
run_steps : (h : Trace) (steps : List Entry) → IsRun (with_steps h steps) → IsRun h × AllSteps IsNext h steps
run_steps h [] run = (run, tt)
run_steps h (e ∷ steps) run = let rest = run_steps (with_step h e) steps run in
    (rest.0.0, ((rest.0.0, rest.0.1), rest.1))

all_keep : (h : Trace) (steps : List Entry) → AllSteps IsNext h steps → AllSteps Keeps h steps
all_keep h [] all = tt
all_keep h (e ∷ steps) all = (step_keeps (tables_of h) e all.0.1, all_keep (with_step h e) steps all.1)

-- each step of a run keeps the promise
pub promised : {old new : Session} {call : Call} → SomeSteps old call new → SomeRun old call new (AllSteps Keeps)
promised some = λ h st. let r = some h st in (r.0, r.1, r.2, all_keep h r.0 (run_steps h r.0 r.2.run).1)

-- ---- a step

same_entry : (e : Entry) (event : EventValue) (reply : Reply) (acts : List Act) (verdicts : List Verdict)
    → e.event ≡ event → e.reply ≡ reply → e.acts ≡ acts → e.verdicts ≡ verdicts
    → e ≡ entry_of event reply (record { acts = acts; verdicts = verdicts }) e.effects
same_entry e event reply acts verdicts event_is reply_is acts_are verdicts_are =
    ap (λ x. let d : Entry = record e { event = x } in d) event_is
    ∙ ap (λ x. let d : Entry = record e { event = event; reply = x } in d) reply_is
    ∙ ap (λ x. let d : Entry = record e { event = event; reply = reply; acts = x } in d) acts_are
    ∙ ap (λ x. let d : Entry = record e { event = event; reply = reply; acts = acts; verdicts = x } in d) verdicts_are

-- what a step has noted
abbrev pub noted_in : Step → Noted
noted_in step = record { acts = step.made.acts.items; verdicts = step.verdicts.items }

-- what was made from nothing is the entry's
taken_as : (event : EventValue) (reply : Reply) (t : Tables) (P : Tables → Type 0) (new : State)
    (before after : Step) → before.made.acts.items ≡ [] → before.verdicts.items ≡ []
    → TakenAs event reply t P new before after
    → (made : List Effect) × (after.made.effects.items ≡ before.made.effects.items ++ made)
    × IsStep t (entry_of event reply (noted_in after) made)
    × Stands (run.after t (entry_of event reply (noted_in after) made)) new
    × P (run.after t (entry_of event reply (noted_in after) made))
taken_as event reply t P new before after no_acts none (e, event_is, reply_is, taken, holds) =
    let same : e ≡ entry_of event reply (noted_in after) e.effects =
    same_entry e event reply after.made.acts.items after.verdicts.items event_is reply_is
    (sym (taken.acts ∙ ap (λ xs. xs ++ e.acts) no_acts)) (sym (taken.verdicts ∙ ap (λ xs. xs ++ e.verdicts) none)) in (
      e.effects,
      taken.effects,
      subst (λ x. IsStep t x) same taken.step,
      subst (λ x. Stands (run.after t x) new) same
          taken.stands,
      subst (λ x. P (run.after t x)) same holds,
    )

-- what the state takes the session takes
pub step_taken : (h : Trace) (old new : Session) (shared : Sharing) (event : EventValue) (reply : Reply) (noted : Noted)
    (before after : Step) → noted ≡ noted_in after → before.made.acts.items ≡ [] → before.verdicts.items ≡ []
    → StandsFor h old → AreNoted reply event old.drawn.items new.drawn.items
    → AreLeft reply event shared new.sharing
    → TakenAs event reply (tables_of h) (StayShared event old.sharing shared) new.state before after
    → (made : List Effect) × (after.made.effects.items ≡ before.made.effects.items ++ made)
    × StandsFor (with_step h (entry_of event reply noted made)) new
step_taken h old new shared event reply noted before after noted_is no_acts none st drawn left taken =
    let made = taken_as event reply (tables_of h) (StayShared event old.sharing shared) new.state before after
    no_acts none taken in
    let e : Entry = entry_of event reply (noted_in after) made.0 in
    let stands : StandsFor (with_step h e) new = record {
      run = (st.run, made.2);
      stands = made.3;
      drawn = stay_drawn (tables_of h) e made.2 old.drawn.items new.drawn.items st.drawn drawn;
      shared = stay_shared (tables_of h) e
          (run_sound (fresh h.edition h.owner) h.entries (fresh_sound h.edition h.owner)) made.2 old.sharing shared
          new.sharing st.shared made.4 left;
    } in (
      made.0,
      made.1,
      subst (λ n. StandsFor (with_step h (entry_of event reply n made.0)) new) (sym noted_is)
          stands,
    )

-- a draw that is needless
pub draw_taken : (h : Trace) (s : Session) (event : EventValue) (reply : Reply) (noted : Noted)
    → draws_one_of s.drawn.items event ≡ true → done ≡ reply → noted ≡ nothing
    → StandsFor h s → StandsFor (with_step h (entry_of event reply noted [])) s
draw_taken h s (Draw client) reply noted one replied noted_is st =
    let none = needs_none (tables_of h) client (one_drawn (tables_of h) s.drawn.items client one st.drawn) in
    let stands : StandsFor (with_step h (entry_of (Draw client) done nothing [])) s = record {
      run = (st.run, none.0);
      stands = subst (λ t. Stands t s.state) (sym none.1) st.stands;
      drawn = subst (λ t. AreDrawn t s.drawn.items) (sym none.1) st.drawn;
      shared = subst (λ t. IsShared t s.sharing) (sym none.1) st.shared;
    } in
    subst (λ r. StandsFor (with_step h (entry_of (Draw client) r noted [])) s) replied
    (subst (λ n. StandsFor (with_step h (entry_of (Draw client) done n [])) s) (sym noted_is) stands)
draw_taken h s event reply noted one replied noted_is st = absurd (cc (one))

-- ---- calls

-- one step, whose reply says what it leaves of its event
pub one_step : (old new : Session) (event : EventValue) (left : List EventValue) (noted : Noted)
    (before after : List Effect) (reply : Reply)
    → ((t : Tables) → reply ≡ (outcome t event).reply → untaken_keys event reply ≡ left)
    → Takes old event noted before after reply new
    → SomeSteps old
    (record {
      events = event ∷ [];
      effects = before;
      more_effects = after;
      replies = [];
      more_replies = last_reply left
          reply;
      left = left;
    }) new
one_step old new event left noted before after reply leaves takes h st =
    let made = takes h st in
    let e : Entry = entry_of event reply noted made.0 in (
      e ∷ [],
      subst
          (λ es. AreSteps
          (record {
            events = event ∷ [];
            effects = before;
            more_effects = after;
            replies = [];
            more_replies = last_reply es
                reply;
            left = es;
          }) (e ∷ []))
          (leaves (tables_of h) made.2.run.1.reply)
          (record {
            events = (refl, sym (append-nil (untaken_keys event reply)));
            effects = made.1 ∙ ap (λ es. before ++ es) (sym (append-nil made.0));
            replies = sym (append-nil (last_reply (untaken_keys event reply) reply));
          }),
      made.2,
      tt,
    )

-- steps that take what others left
more_steps : (old mid new : Session) (events first left rest : List EventValue) (e1 e2 e3 : List Effect)
    (r1 r2 r3 : List Reply)
    → SomeSteps old
    (record
    { events = events; effects = e1; more_effects = e2; replies = r1; more_replies = r2; left = first ++ rest }) mid
    → SomeSteps mid
    (record { events = first; effects = e2; more_effects = e3; replies = []; more_replies = r3; left = left }) new
    → SomeSteps old
    (record {
      events = events;
      effects = e1;
      more_effects = e3;
      replies = r1;
      more_replies = r2 ++ r3;
      left = left ++ rest;
    }) new
more_steps old mid new events first left rest e1 e2 e3 r1 r2 r3 before after h st =
    let a = before h st in
    let b = after (with_steps h a.0) a.2 in (
      a.0 ++ b.0,
      record {
        events = serves_on events a.0 b.0 (first ++ rest) (left ++ rest) a.1.events
            (serves_before first b.0 left rest b.1.events);
        effects = b.1.effects ∙ ap (λ es. es ++ effects_of b.0) a.1.effects
            ∙ append_assoc e1 (effects_of a.0) (effects_of b.0) ∙ ap (λ es. e1 ++ es) (sym (effects_of-append a.0 b.0));
        replies = ap (λ rs. rs ++ r3) a.1.replies ∙ append_assoc r1 (replies_of a.0) r3
            ∙ ap (λ rs. r1 ++ (replies_of a.0 ++ rs)) b.1.replies
            ∙ ap (λ rs. r1 ++ rs) (sym (replies_of-append a.0 b.0));
      },
      subst (λ g. StandsFor g new) (sym (with_steps-append h a.0 b.0)) b.2,
      tt,
    )

-- the run of a step and of the steps after it, with what is left and told by equations
pub then_steps : (old mid new : Session) (events first left rest left_mid left_new : List EventValue)
    (e1 e2 e3 : List Effect) (r1 r2 r3 r4 : List Reply)
    → left_mid ≡ first ++ rest → left_new ≡ left ++ rest → r4 ≡ r2 ++ r3
    → SomeSteps old
    (record { events = events; effects = e1; more_effects = e2; replies = r1; more_replies = r2; left = left_mid })
    mid
    → SomeSteps mid
    (record { events = first; effects = e2; more_effects = e3; replies = []; more_replies = r3; left = left }) new
    → SomeSteps old
    (record { events = events; effects = e1; more_effects = e3; replies = r1; more_replies = r4; left = left_new })
    new
then_steps old mid new events first left rest left_mid left_new e1 e2 e3 r1 r2 r3 r4 at now told before after =
    subst
    (λ es. SomeSteps old
    (record { events = events; effects = e1; more_effects = e3; replies = r1; more_replies = r4; left = es }) new)
    (sym now)
    (subst
    (λ rs. SomeSteps old
    (record
    { events = events; effects = e1; more_effects = e3; replies = r1; more_replies = rs; left = left ++ rest }) new)
    (sym told)
    (more_steps old mid new events first left rest e1 e2 e3 r1 r2 r3
    (subst
    (λ es. SomeSteps old
    (record { events = events; effects = e1; more_effects = e2; replies = r1; more_replies = r2; left = es }) mid)
    at before) after))

-- ---- parts of events

pub without_none : (events : List EventValue) → without_keys 0 events ≡ events
without_none [] = refl
without_none (event ∷ events) = on event where
  on : (event : EventValue) → without_keys 0 (event ∷ events) ≡ event ∷ events
  on (Keys client bytes) = refl
  on _ = refl

without_keys-append : (part : ℕ) (event : EventValue) (events : List EventValue)
    → without_keys part (event ∷ []) ++ events ≡ without_keys part (event ∷ events)
without_keys-append part (Keys client bytes) events = refl
without_keys-append part _ events = refl

-- a part of the first event alone is one
pub part_of : (part : ℕ) (event : EventValue) (events : List EventValue) → IsPart part (event ∷ [])
    → IsPart part (event ∷ events)
part_of part (Keys client bytes) events is = is
part_of part _ events is = is

-- a run that was stopped in an event
pub came_to : (events : List EventValue) (taken part : ℕ) (first : EventValue) (rest : List EventValue)
    → taken < length events → drop taken events ≡ first ∷ rest → IsPart part (first ∷ [])
    → HasCome (record { taken = taken; part = part; stopped = true }) events
came_to events taken part first rest lt at is = record {
  within = omega arith;
  part = subst (λ es. IsPart part es) (sym at) (part_of part first rest is);
  stopped = sym (lt-ltb taken (length events) lt);
}

-- keys alone may be read in part
pub whole_but_keys : (event : Event) (reply : Reply)
    → ((client : ℕ) (bytes : Bor (List ℕ)) → event ≡ told.Keys client bytes → ⊥)
    → untaken_keys (happening event) reply ≡ []
whole_but_keys (told.Keys client bytes) reply other = absurd (other client bytes refl)
whole_but_keys _ reply other = refl

-- ---- runs

-- the events from a place on
pub rest_at : (events : List Event) (i : ℕ) (none : Event) → i < length events
    → drop i (map happening events) ≡ happening (get_or events i none) ∷ drop (i + 1) (map happening events)
rest_at [] i event lt = absurd (omega arith)
rest_at (e ∷ events) zero event lt = refl
rest_at (e ∷ events) (suc i) event lt =
    let same : suc i + 1 ≡ suc (i + 1) = omega arith in
    subst (λ n. drop i (map happening events) ≡ happening (get_or events i event) ∷ drop n (map happening (e ∷ events)))
    (sym same) (rest_at events i event (omega arith))

-- the first of them was taken in part
pub stops_in : (part : ℕ) (first : EventValue) (rest events : List EventValue) → events ≡ first ∷ rest
    → without_keys part events ≡ without_keys part (first ∷ []) ++ rest
stops_in part first rest events is = ap (λ es. without_keys part es) is ∙ sym (without_keys-append part first rest)

-- the end of the events
pub at_end : (old new : Session) (events : List EventValue) (e1 e2 : List Effect) (r1 r2 : List Reply) (n m : ℕ) → n ≡ m
    → SomeSteps old
    (record
    { events = events; effects = e1; more_effects = e2; replies = r1; more_replies = r2; left = drop n events }) new
    → SomeSteps old
    (record {
      events = events;
      effects = e1;
      more_effects = e2;
      replies = r1;
      more_replies = r2;
      left = without_keys 0
          (drop m events);
    }) new
at_end old new events e1 e2 r1 r2 n m same some =
    subst
    (λ k. SomeSteps old
    (record {
      events = events;
      effects = e1;
      more_effects = e2;
      replies = r1;
      more_replies = r2;
      left = without_keys 0
          (drop k events);
    }) new) same
    (subst
    (λ es. SomeSteps old
    (record { events = events; effects = e1; more_effects = e2; replies = r1; more_replies = r2; left = es }) new)
    (sym (without_none (drop n events))) some)
