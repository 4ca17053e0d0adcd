-- A step of the session keeps the facts of what lies under the lock.
use Rattle.hub_ledger.proofs.Vocabulary.{◌≡◌, ℕ, ◌<◌, ◌≤◌, Bool, true, false, List, [], ◌∷◌, ◌++◌, length, refl, ap}
use Rattle.hub_ledger.proofs.Vocabulary.{sym, ◌∙◌, subst, arith, length-append, Option, Some, None, AllByRecursion}
use Rattle.hub_ledger.proofs.Vocabulary.{all_append, all_weaken, Effect, Input, Deliver, Say, Size, Gone, EventValue}
use Rattle.hub_ledger.proofs.Vocabulary.{Reply, Trace, tables_of, Session, StandsFor, wants_memory, entry_of, Kept}
use Rattle.hub_ledger.proofs.Vocabulary.{filed, Owners, AreSeats, HasPeer, with_peers, with_entries, written, State}
use Rattle.hub_ledger.proofs.Vocabulary.{Stood, IsKept}
use Rattle.session.proofs.FewEffects.{step_few}
use Rattle.session.proofs.Sounding.{fresh_sound, run_sound}
use Rattle.session.specs.event.Peer.TheVariants as peer
use Rattle.session.specs.Trace.{Entry, with_step}
use Rattle.session.specs.Sound.{AreSound}
use Rattle.session.specs.Tables.{Tables, fresh}
use Rattle.session.specs.Run.{IsStep}
use Rattle.session.specs.Noted.{Noted}
use Rattle.session.specs.Stands.{Takes, IfTaken}
use Rattle.hub_trail.specs.Filing as filing
use Rattle.hub_trail.specs.Peers.{HasCome, one_more, attaches, opens}
use Rattle.hub_trail.proofs.Coming.{peers_came}
use Rattle.hub_trail.proofs.Serials.{gives_serials}
use Rattle.hub_peers.specs.Peers.{with_peer}
use Rattle.hub_ledger.specs.States.{IsAfter}

-- ---- peers

grown : (b : Bool) (seat : ℕ) (seats : List ℕ) → length (with_peer b seat seats) ≡ one_more b (length seats)
grown true seat seats = length-append seats (seat ∷ [])
grown false seat seats = refl

seats_grown : (n : ℕ) (b : Bool) (seat : ℕ) (seats : List ℕ) → seat < n → AllByRecursion (λ s. s < n) seats
    → AllByRecursion (λ s. s < n) (with_peer b seat seats)
seats_grown n true seat seats here all = all_append (λ s. s < n) seats (seat ∷ []) all (here, tt)
seats_grown n false seat seats here all = all

come : (t : Tables) (o : Owners) → length o.clients ≡ t.next_client → length o.windows ≡ t.next_window → (e : Effect)
    → HasCome t e → HasPeer o e
come t o cs ws (Input window bytes) is = omega (arith, ws, is)
come t o cs ws (Deliver client bytes) is = omega (arith, cs, is)
come t o cs ws (Say client bytes) is = omega (arith, cs, is)
come t o cs ws (Size window rows columns) is = omega (arith, ws, is)
come t o cs ws (Gone (peer.Window window) why) is = omega (arith, ws, is)
come t o cs ws (Gone (peer.Client client) why) is = omega (arith, cs, is)

-- ---- a step

sound : (h : Trace) → AreSound (tables_of h)
sound h = run_sound (fresh h.edition h.owner) h.entries (fresh_sound h.edition h.owner)

step_of : (h : Trace) (step : Entry) (s : Session) → StandsFor (with_step h step) s → IsStep (tables_of h) step
step_of h step s st = st.run.1

pub few : (h : Trace) (step : Entry) (s : Session) → StandsFor (with_step h step) s → length step.effects ≤ 256
few h step s st = step_few (tables_of h) step (sound h) (step_of h step s st)

pub peers_there : (h : Trace) (old : State) (step : Entry) (s : Session) → Stood h old → StandsFor (with_step h step) s
    → AllByRecursion (HasPeer old.owners) step.effects
peers_there h old step s stood st =
    all_weaken (HasCome (tables_of h)) (HasPeer old.owners) step.effects
    (come (tables_of h) old.owners stood.clients stood.windows)
    (peers_came (tables_of h) step (sound h) (step_of h step s st))

-- what was made by a step for which memory wasn't refused
pub made_by : (old : Session) (event : EventValue) (noted : Noted) (before after : List Effect) (reply : Reply)
    (new : Session) → wants_memory reply ≡ false → before ≡ []
    → IfTaken reply (Takes old event noted before after reply new) → (h : Trace) → StandsFor h old
    → StandsFor (with_step h (entry_of event reply noted after)) new
made_by old event noted before after reply new able none taken h st =
    let t = taken able h st in
    let made : after ≡ t.0 = t.1 ∙ ap (λ (es : List Effect). es ++ t.0) none in
    subst (λ (es : List Effect). StandsFor (with_step h (entry_of event reply noted es)) new) (sym made) t.2

pub filed_is : (o : Option Kept) (event : EventValue) (reply : Reply) (noted : Noted) (effects : List Effect)
    → written o noted reply ≡ filing.entry_of o (entry_of event reply noted effects)
filed_is None event reply noted effects = refl
filed_is (Some k) event reply noted effects = refl

-- ---- what is kept

pub stood_after : (h : Trace) (old new : State) (seat : ℕ) (step : Entry) (typed : Option ℕ) → Stood h old
    → IsAfter seat step typed old new → Stood (with_step h step) new
stood_after h old new seat step typed stood a =
    let st = a.stands h stood.stands in
    let given = gives_serials (tables_of h) step (step_of h step new.session st) in
    record {
      stands = st;
      trail = ap (λ t. with_entries t (filed step)) stood.trail ∙ sym a.trail;
      clients = ap (λ (o : Owners). length o.clients) a.owners
          ∙ grown (attaches step.event step.reply) seat old.owners.clients
          ∙ ap (one_more (attaches step.event step.reply)) stood.clients ∙ sym given.clients;
      windows = ap (λ (o : Owners). length o.windows) a.owners
          ∙ grown (opens step.event step.reply) seat old.owners.windows
          ∙ ap (one_more (opens step.event step.reply)) stood.windows ∙ sym given.windows;
    }

pub kept_after : (old new : State) (seat : ℕ) (step : Entry) (typed : Option ℕ) → IsKept old
    → seat < length old.waiting → IsAfter seat step typed old new → IsKept new
kept_after old new seat step typed kept here a =
    let n : length new.waiting ≡ length old.waiting = a.waiting.seats in
    let owners : AreSeats (length old.waiting) (with_peers step.event step.reply seat old.owners) = record {
      clients = seats_grown (length old.waiting) (attaches step.event step.reply) seat old.owners.clients here
          kept.seats.clients;
      windows = seats_grown (length old.waiting) (opens step.event step.reply) seat old.owners.windows here
          kept.seats.windows;
    } in
    record {
      past = (with_step kept.past.0 step, stood_after kept.past.0 old new seat step typed kept.past.1 a);
      seats = subst (λ m. AreSeats m new.owners) (sym n) (subst (AreSeats (length old.waiting)) (sym a.owners) owners);
    }
