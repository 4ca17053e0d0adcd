-- What lies under the hub's lock.
use Rattle.std.specs.Prelude.{ℕ, ◌+◌, Bool, false, List, [], ◌≡◌, length, replicate, Option}
use Rattle.std.specs.List.{sum_by}
use Rattle.acl.specs.declared.leaders.Edition.{Edition}
use Rattle.acl.specs.declared.user_id.UserId.{UserId}
use Rattle.session.specs.event.Effect.{Effect}
use Rattle.session.specs.Trace.{EventValue, Reply, Entry, Trace, with_step}
use Rattle.session.specs.Run.{tables_of}
use Rattle.session.specs.session.Session.{Session}
use Rattle.session.specs.Noted.{Noted}
pub use Rattle.session.specs.Stands.{StandsFor, entry_of}
use Rattle.hub_trail.specs.Trails.{Trail}
use Rattle.hub_trail.specs.Filing.{filed, trail_of}
use Rattle.hub_peers.specs.Peers.{Owners, AreSeats, owners_of, with_peers}
use Rattle.hub_ledger.specs.Routing.{Sent, views, AreRouted, marked, typed_in, typist_of}
use Rattle.hub_ledger.specs.declared.filed_session.FiledSession.{FiledSession}
use Rattle.hub_record.specs.Growing.{trail_in, with_entries}

-- the session; its trail; the seats of its peers; and for each seat the effects that wait and its
-- mark
pub record State : Type 0 where
  pub session : Session
  pub trail : Trail
  pub owners : Owners
  pub waiting : List (List Sent)
  pub marks : List Bool

abbrev pub state_of : FiledSession → State
state_of d = record {
  session = d.session;
  trail = trail_in d.entries;
  owners = owners_of d.peers;
  waiting = views d.waiting.lists.items;
  marks = d.waiting.marks.items;
}

-- the state with which a hub of n seats begins: no entry, no peer, and no effect that waits
abbrev pub begun_with : Session → Edition → UserId → ℕ → State
begun_with session edition owner seats = record {
  session = session;
  trail = record { edition = edition; owner = owner; entries = [] };
  owners = record { clients = []; windows = [] };
  waiting = replicate seats [];
  marks = replicate seats false;
}

-- The session stands for a run; the trail that is kept is the trail of this run; and each client
-- and each window that came has a seat at its serial.
pub record Stood (h : Trace) (s : State) : Type 0 where
  pub stands : StandsFor h s.session
  pub trail : trail_of h ≡ s.trail
  pub clients : length s.owners.clients ≡ (tables_of h).next_client
  pub windows : length s.owners.windows ≡ (tables_of h).next_window

-- that holds for some run, and all these seats are there
pub record IsKept (s : State) : Type 0 where
  pub past : (h : Trace) × Stood h s
  pub seats : AreSeats (length s.waiting) s.owners

-- how many effects a run's steps had: all were routed to the seats of their peers
abbrev pub routed : Trace → ℕ
routed h = sum_by (λ (e : Entry). length e.effects) h.entries

-- how many effects wait
abbrev pub waits : List (List Sent) → ℕ
waits waiting = sum_by (λ (effects : List Sent). length effects) waiting

-- For some run that the state is of: what was handed out and what waits is what was routed.
pub record Balances (handed : ℕ) (s : State) : Type 0 where
  pub past : (h : Trace) × Stood h s
  pub sum : handed + waits s.waiting ≡ routed past.0

-- The state after a step for a seat, and the window into which it typed. Whichever run the session
-- stood for, it stands for it with this step, whose entry is the last one of the trail. What came
-- belongs to the seat. Each effect is put after those that wait for its peer's seat, with the user who
-- typed it, by the tables before the step. A step other than a Draw marks every seat.
pub record IsAfter (seat : ℕ) (step : Entry) (typed : Option ℕ) (old new : State) : Type 0 where
  pub stands : (h : Trace) → StandsFor h old.session → StandsFor (with_step h step) new.session
  pub trail : new.trail ≡ with_entries old.trail (filed step)
  pub owners : new.owners ≡ with_peers step.event step.reply seat old.owners
  pub typist : Option UserId
  pub typist_is : (h : Trace) → StandsFor h old.session → typist ≡ typist_of (tables_of h) step.event
  pub waiting : AreRouted old.owners typist step.effects old.waiting new.waiting
  pub typed_is : typed ≡ typed_in step.event step.effects
  pub marks : new.marks ≡ marked step.event old.marks

-- the state after a step of this event with this reply, for some acts, verdicts and effects
abbrev pub Takes : ℕ → EventValue → Reply → Option ℕ → State → State → Type 0
Takes seat event reply typed old new =
    (noted : Noted) × (effects : List Effect)
    × IsAfter seat (entry_of event reply noted effects) typed old new
