-- Connections that are told to go, and the events of first messages.
use Rattle.server_loop.proofs.Vocabulary.{◌≡◌, ℕ, Option, Some, true, ap, inr, sym, subst, refl, Why, EventValue}
use Rattle.server_loop.proofs.Vocabulary.{changed, Shown, Dismisses, State, peer_at, state_of, Loop}
use Rattle.attach_proto.specs.declared.message.Message.{Message}
use Rattle.attach_proto.specs.declared.message.Message.TheVariants as message
use Rattle.session.specs.Trace.{Attach, Command, Open}
use Rattle.server_connections.specs.Changing.{told_to_go}
use Rattle.server_seat.specs.declared.seat.GuestKind.{GuestKind}
use Rattle.server_seat.specs.declared.seat.SessionSeat.{Ghosts as Calls}
use Rattle.server_steps.specs.Meaning.{event_of, kind_of, may_judge, shown_in}
use Rattle.server_steps.specs.declared.progress.Progress.{Progress}
use Rattle.server_users.specs.Entries.{Entry}
use Rattle.server_loop.specs.Beginning.{Begins, BeginsBy, BeginsWith, IsShown, Judges, known_of}
use Rattle.server_loop.specs.Naming.{IsOf}
use Rattle.server_loop.proofs.Telling.{if_true}

-- the event of a first message names the user who showed the token in it
pub names_shown : (shown : Shown) (m : Message) (event : EventValue) → Some event ≡ event_of shown m
    → IsOf shown.user event
names_shown shown (message.Attach rows columns token name) event is =
    let e : Attach shown.user rows columns ≡ event = cc in subst (λ (v : EventValue). IsOf shown.user v) e refl
names_shown shown (message.Window rows columns keep token name title) event is =
    let e : Open shown.user rows columns keep title ≡ event = cc in
    subst (λ (v : EventValue). IsOf shown.user v) e refl
names_shown shown (message.Command window token name line) event is =
    let e : Command shown.user window line ≡ event = cc in subst (λ (v : EventValue). IsOf shown.user v) e refl
names_shown shown other event is = cc

module _ {S G J : Type 0} where
  -- of a loop that changed nothing else
  pub dismissed : (cause : Why) (key : ℕ) (old new : Loop S G J)
      → new ≡ record old { connections = changed (told_to_go cause) key old.connections }
      → Dismisses cause key (state_of old) (state_of new)
  dismissed cause key old new is = ap (λ (own : Loop S G J). state_of own) is

module _ {S J : Type 0} (calls : Calls J) (m : Message) (entry : Entry) (key : ℕ)
    (old : State S J) (far : Progress) (new : State S J)
  where
    -- what shows a name and a token was judged by them
    pub begun_by : shown_in m ≡ Some entry → may_judge old.looked (peer_at key old) ≡ true
        → Judges calls (known_of calls old) entry m key old far new → Begins calls m key old far new
    begun_by shows may judged = subst (λ (o : Option Entry). BeginsWith calls o m key old far new) (sym shows)
        (if_true _ _ _ may judged)

    -- for the user whose they are
    pub begun_as : (shown : Shown) (kind : Option GuestKind) (event : Option EventValue) → shown_in m ≡ Some entry
        → may_judge old.looked (peer_at key old) ≡ true → IsShown (known_of calls old) entry shown → kind ≡ kind_of m
        → event ≡ event_of shown m → BeginsBy calls shown kind event key old far new → Begins calls m key old far new
    begun_as shown kind event shows may is kinds events begins = begun_by shows may (inr (
      shown,
      is,
      subst (λ (k : Option GuestKind). BeginsBy calls shown k (event_of shown m) key old far new) kinds
          (subst (λ (e : Option EventValue). BeginsBy calls shown kind e key old far new) events begins),
    ))
