-- The halls of watchers.
use Rattle.std.specs.Prelude.{◌≡◌, ◌==◌, ◌+◌, ◌⊎◌, ◌<◌, ◌≤◌, nat_lt, ℕ, true, false, Option, Some, None}
use Rattle.std.specs.Prelude.{Bool, ◌||◌, not, List, ◌++◌, IfSome, IsSome, IsSomeAnd, if◌then◌else◌}
use Rattle.std.specs.String.{string_bytes}
use Rattle.std.specs.Duration.{as_nanos}
use Rattle.std.specs.declared.time.Duration.{Duration}
use Rattle.slab.specs.Slab.{Slab, SameValues, Updates, get, slab_len}
use Rattle.attach_proto.specs.declared.message.Message.TheVariants.{Attach, Keys}
use Rattle.attach_proto.specs.Spelling.{spelling}
use Rattle.web_client.specs.declared.client.SharedClient.{SharedClient}
use Rattle.web_client.specs.Asking.{HearsRead}
use Rattle.web_streams.specs.Streaming.{WritesOut}
use Rattle.web_streams.specs.Tokens.{ReachesFor}
use Rattle.web_streams.specs.declared.connections.BridgeContext.{BridgeContext}
use Rattle.web_streams.specs.declared.connections.Woken.TheVariants as woken
use Rattle.web_streams.specs.declared.stream.ReadOutcome.{ReadOutcome}
use Rattle.web_streams.specs.declared.stream.ReadOutcome.TheVariants.{More, Nothing, End}
use Rattle.web_streams.specs.declared.stream.WebStream.{Ghosts as Streams}
use Rattle.web_page.specs.Hearing.{IsBlank}
use Rattle.web_page.specs.Vacant.{IsVacant}
use Rattle.web_requests.specs.declared.site.Watcher.{Watcher}
use Rattle.web_relay.specs.Walking.{Repeats}
use Rattle.web_relay.specs.declared.hall.Hall.{Hall}
use Rattle.web_relay.specs.declared.halls.Halls.{Halls}
use Rattle.web_relay.specs.declared.halls.HallNumber.{HallNumber}

module _ {S : Type 0} where
  -- the hall at a place, if it has this serial
  abbrev pub with_serial : ℕ → Option (Hall S) → Option (Hall S)
  with_serial serial None = None
  with_serial serial (Some hall) = if hall.serial == serial then Some hall else None

  -- the hall of a number
  abbrev pub hall_of : Slab (Hall S) → HallNumber → Option (Hall S)
  hall_of halls number = with_serial number.serial (get halls number.place)

  -- a hall of this size is there
  abbrev pub HasSize : (ℕ × ℕ) → Option (Hall S) → Type 0
  HasSize size None = ⊥
  HasSize size (Some hall) = hall.size ≡ size

  -- no hall of this size is there
  abbrev pub HasNone : (ℕ × ℕ) → Slab (Hall S) → Type 0
  HasNone size halls = (place : ℕ) → HasSize size (get halls place) → ⊥

  -- its page isn't larger than this
  abbrev pub FitsIn : (ℕ × ℕ) → Hall S → Type 0
  FitsIn size hall = (hall.size.0 ≤ size.0) × (hall.size.1 ≤ size.1)

  -- a hall whose page isn't larger than this, or any hall if all are larger
  abbrev pub IsStandIn : (ℕ × ℕ) → Slab (Hall S) → ℕ → Type 0
  IsStandIn size halls place = IsSomeAnd (get halls place) (λ hall. FitsIn size hall
      ⊎ ((other : ℕ) → IfSome (get halls other) (λ it. FitsIn size it → ⊥)))

  -- of the halls that were looked at the best is at this place, or still at the other one
  abbrev pub IsBetterOf : (ℕ × ℕ) → ℕ → Hall S → Option ℕ → Option ℕ → Type 0
  IsBetterOf size place hall None new = new ≡ Some place
  IsBetterOf size place hall (Some old) new =
      (FitsIn size hall × (new ≡ Some place)) ⊎ ((FitsIn size hall → ⊥) × (new ≡ Some old))

  abbrev pub numbered : ℕ → Option (Hall S) → Option HallNumber
  numbered place None = None
  numbered place (Some hall) = Some (record { place = place; serial = hall.serial })

  -- the number of the hall at a place
  abbrev pub number_at : Slab (Hall S) → ℕ → Option HallNumber
  number_at halls place = numbered place (get halls place)

  abbrev pub number_of : Slab (Hall S) → Option ℕ → Option HallNumber
  number_of halls None = None
  number_of halls (Some place) = number_at halls place

  -- Nothing is there before and after, or a hall of which this holds.
  abbrev pub AtBoth : (Hall S → Hall S → Type 0) → Option (Hall S) → Option (Hall S) → Type 0
  AtBoth P None new = new ≡ None
  AtBoth P (Some old) None = ⊥
  AtBoth P (Some old) (Some new) = P old new

  -- each place has the hall that it had, of which this holds
  abbrev pub AtEach : (Hall S → Hall S → Type 0) → Slab (Hall S) → Slab (Hall S) → Type 0
  AtEach P old new = (place : ℕ) → AtBoth P (get old place) (get new place)

-- ---- what a hall's client hears and asks

module _ {S : Type 0} where
  -- what came was heard; or nothing comes now; or the connection ended
  abbrev pub HallHearsAs : ReadOutcome → Hall S → Hall S → Type 0
  HallHearsAs More old new = new ≡ old
  HallHearsAs Nothing old new = new ≡ record old { is_ready = false }
  HallHearsAs End old new = new ≡ record old { is_lost = true }

  abbrev pub IsHallToHear : Hall S → Type 0
  IsHallToHear hall = (hall.is_ready ≡ true) × (hall.is_lost ≡ false)

  -- a hall that may have more to hear
  abbrev pub IsBusyHall : Option (Hall S) → Type 0
  IsBusyHall None = ⊥
  IsBusyHall (Some hall) = IsHallToHear hall

  -- its connection has something to read, or has room
  abbrev pub heeds : Hall S → Hall S
  heeds hall = record hall { is_ready = true }

-- it wasn't sent to the chosen window within 10 seconds
abbrev pub IsDue : Duration → Option Duration → Type 0
IsDue now None = Unit {0}
IsDue now (Some chosen) = as_nanos chosen + 10000000000 ≤ as_nanos now

module _ {S : Type 0} where
  abbrev pub IsToChoose : Duration → Hall S → Type 0
  IsToChoose now hall = IsDue now hall.chosen × (hall.client.client.display.told.is_welcome ≡ true)

-- the keys that choose a window come after what waits for the server
abbrev pub asked_for : List ℕ → SharedClient → SharedClient
asked_for choice c =
    record c { client = record c.client { outgoing = c.client.outgoing ++ spelling (Keys choice) } }

module _ {S : Type 0} where
  -- It is sent to the chosen window if it is time for that, or lost if it can't be; else it stays as it is.
  pub record Chooses (choice : List ℕ) (now : Duration) (old new : Hall S) : Type 0 where
    pub due : IsToChoose now old
        → (new ≡ record old { chosen = Some now; client = asked_for choice old.client })
        ⊎ (new ≡ record old { chosen = Some now; is_lost = true })
    pub early : (IsToChoose now old → ⊥) → new ≡ old

  -- its client was opened 10 seconds ago, and sees no window
  abbrev pub IsStuck : Duration → Hall S → Type 0
  IsStuck now hall =
      (as_nanos hall.opened + 10000000000 ≤ as_nanos now)
      × IsVacant hall.client.client.display.sheet.terminal.screen.page

  abbrev pub IsStuckAt : Duration → Option (Hall S) → Type 0
  IsStuckAt now None = ⊥
  IsStuckAt now (Some hall) = IsStuck now hall

  -- a hall that opens at a time, and was watched last at another one: its client attaches as the user as whom anybody
  -- may watch
  pub record IsOpened (watcher : Watcher) (size : ℕ × ℕ) (now watched : Duration) (hall : Hall S) : Type 0 where
    pub asks : hall.client.client.outgoing
        ≡ spelling (Attach size.0 size.1 watcher.token (string_bytes watcher.name))
    pub shows : IsBlank size.0 size.1 (string_bytes watcher.name) hall.client.client.display
    pub rest : hall ≡ record hall {
      size = size;
      is_ready = false;
      audience = 0;
      is_lost = false;
      opened = now;
      watched = watched;
      chosen = None;
    }

-- what a hall opens by
pub record Opening : Type 0 where
  pub socket : List ℕ
  pub watcher : Option Watcher
  pub now : Duration

abbrev pub opening : BridgeContext → Opening
opening around = record { socket = around.socket.now; watcher = around.site.now.watcher; now = around.now }

module _ {S : Type 0} (reaches : List ℕ → ℕ → Option S → Type 0) (by : Opening) where
  -- the same for a place, if anybody may watch: its client is connected to the server's socket
  abbrev pub OpensAt : ℕ → ℕ × ℕ → Duration → Hall S → Type 0
  OpensAt place size watched hall =
      IsSomeAnd by.watcher (λ w. IsOpened w size by.now watched hall)
      × ReachesFor reaches woken.Hall place by.socket (Some hall.stream)

  -- why no hall opens: nobody may watch, or the server's socket was tried
  abbrev pub IsTried : ℕ → Type 0
  IsTried place =
      (by.watcher ≡ None) ⊎ ((reached : Option S) × ReachesFor reaches woken.Hall place by.socket reached)

  -- A hall opens where none was, with a serial of its own: none has it before or after. If none can be opened, nothing
  -- is there.
  pub record Opens (size : ℕ × ℕ) (old : Halls S) (opened : Option ℕ) (new : Halls S) : Type 0 where
    pub none : opened ≡ None → SameValues old.list new.list × IsTried old.list.vacant_key
    pub some : IfSome opened (λ place. (get old.list place ≡ None) × (hall : Hall S)
        × (hall.serial ≡ old.next) × (old.next < new.next) × OpensAt place size by.now hall
        × Updates old.list new.list place (Some hall))
    pub next : old.next ≤ new.next
    pub rest : new ≡ record old { list = new.list; next = new.next }

  -- The hall of a size: the one that is there; or a stand-in, if all places are taken by others; or one that opens now.
  pub record Enters (size : ℕ × ℕ) (old : Halls S) (found : Option HallNumber) (new : Halls S) : Type 0 where
    pub known : (place : ℕ) → HasSize size (get old.list place) → (new ≡ old) × (there : ℕ)
        × HasSize size (get old.list there) × (found ≡ number_at old.list there)
    pub full : HasNone size old.list → 8 ≤ slab_len old.list → (new ≡ old) × (there : ℕ)
        × IsStandIn size old.list there × (found ≡ number_at old.list there)
    pub opens : HasNone size old.list → slab_len old.list < 8 → (opened : Option ℕ)
        × Opens size old opened new × (found ≡ number_of new.list opened)

  -- a hall of the same size and place, which opens with a serial that none had before `next` and none has from `after`;
  -- or none if it can't be opened
  abbrev pub IsNewer : (next after place : ℕ) → Option (Hall S) → Option (Hall S) → Type 0
  IsNewer next after place None new = ⊥
  IsNewer next after place (Some old) None = IsStuck by.now old × IsTried place
  IsNewer next after place (Some old) (Some new) =
      IsStuck by.now old × (next ≤ new.serial) × (new.serial < after) × OpensAt place old.size old.watched new

  -- A hall that is stuck goes, and perhaps another one of its size comes for it. Every other one stays.
  abbrev pub Renews : (next after place : ℕ) → Option (Hall S) → Option (Hall S) → Type 0
  Renews next after place old new =
      ((IsStuckAt by.now old → ⊥) × (new ≡ old)) ⊎ IsNewer next after place old new

module _ {S : Type 0} where
  -- who watches it is noted
  abbrev pub noted : Duration → Hall S → Hall S
  noted now hall = record hall { watched = if nat_lt 0 hall.audience then now else hall.watched }

  -- its connection ended, the server let its client go, or nobody has watched it for 30 seconds
  abbrev pub IsOver : Duration → Hall S → Type 0
  IsOver now hall =
      (hall.is_lost ≡ true) ⊎ IsSome hall.client.client.display.told.gone
      ⊎ (as_nanos hall.watched + 30000000000 ≤ as_nanos now)

  -- A hall that is over closes, and every other one stays.
  abbrev pub Closes : Duration → Option (Hall S) → Option (Hall S) → Type 0
  Closes now None new = new ≡ None
  Closes now (Some hall) new =
      (IsOver now (noted now hall) × (new ≡ None))
      ⊎ ((IsOver now (noted now hall) → ⊥) × (new ≡ Some (noted now hall)))

-- ---- what is read and written, by what streams say of it

module _ {S : Type 0} (streams : Streams S) where
  -- one read of the server was made
  abbrev pub HallHears : Hall S → Hall S → Type 0
  HallHears old new =
      (came : ReadOutcome) × (left : S) × (c : SharedClient)
      × HearsRead streams.reads old.stream old.client.client.display came left c.client.display
      × (c.client.outgoing ≡ old.client.client.outgoing)
      × HallHearsAs came (record old { client = c; stream = left }) new

  -- what waits for the server was written; its connection ended if that is broken
  pub record HallWrites (old new : Hall S) : Type 0 where
    pub whole : Bool
    pub written : WritesOut streams.writes old.stream old.client.client.outgoing whole new.stream
        new.client.client.outgoing
    pub shown : new.client.client.display ≡ old.client.client.display
    pub lost : new.is_lost ≡ (old.is_lost || not whole)
    pub rest : new ≡ record old { client = new.client; stream = new.stream; is_lost = new.is_lost }

  -- What the server sent is heard, in up to 16 reads, and what waits for it written. Nobody counts as its audience yet.
  abbrev pub HallTurns : Hall S → Hall S → Type 0
  HallTurns old new =
      (mid : Hall S) × Repeats IsHallToHear HallHears 16 (record old { audience = 0 }) mid
      × HallWrites mid new
