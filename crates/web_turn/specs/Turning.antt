-- What a turn does: what is read of each browser, what goes to its own client and to nobody else's, which page it is
-- shown, and when it is let go.
use Rattle.std.specs.Prelude.{◌≡◌, ◌≢◌, ◌⊎◌, ◌+◌, ◌-◌, ◌<◌, ◌≤◌, ◌^◌, ℕ, zero, suc, min, Bool, true, false}
use Rattle.std.specs.Prelude.{◌↔◌, IsTrue, List, length, Option, Some, None, IsSome, IfSome}
use Rattle.std.specs.Borrow.{Bor}
use Rattle.std.specs.Duration.{as_nanos}
use Rattle.std.specs.String.{string_bytes}
use Rattle.std.specs.declared.time.Duration.{Duration}
use Rattle.slab.specs.Slab.{Slab, Updates, get, with_value}
use Rattle.web_client.specs.declared.identity.Identity.{Identity}
use Rattle.web_client.specs.declared.identity.Identity.TheVariants.{Link}
use Rattle.web_client.specs.Asking.{IsOwn}
use Rattle.web_client.specs.Rows.{Refuses, TellsLast, handed}
use Rattle.web_streams.specs.declared.stream.WebStream.{Ghosts as Streams}
use Rattle.web_requests.specs.declared.site.Site.{Site}
use Rattle.web_relay.specs.declared.halls.Halls.{Halls}
use Rattle.web_relay.specs.declared.relay.Relay.{Relay}
use Rattle.web_streams.specs.declared.connections.BridgeStream.{Ghosts as Makes}
use Rattle.web_relay.specs.Halls.{AtEach, Chooses, Closes, HallTurns, IsBusyHall, Opening, Renews}
use Rattle.web_relay.specs.Places.{IsTooMany}
use Rattle.web_relay.specs.Relaying.{Connects, EndsBy, HasPage, HearsServer, IsBusy, IsOpen, IsRefused, Looks}
use Rattle.web_relay.specs.Relaying.{ReadsBrowser, TurnsAway, WantsServer, WritesAll}
use Rattle.web_relay.specs.Seeing.{Seats, ShowsPage}
use Rattle.web_turn.specs.declared.bridge.Bridge.{Bridge}
use Rattle.web_turn.specs.Links.{StandsAt}
use Rattle.web_turn.specs.declared.links.TheConstants.{USED}
use Rattle.web_turn.specs.declared.turning.PageArrival.{PageArrival}
use Rattle.web_turn.specs.declared.turning.TheConstants.{FULL}

-- a page that opens, or says who it is
abbrev pub IsComing : PageArrival → Type 0
IsComing arrival = (arrival.opens ≡ true) ⊎ (arrival.begins ≡ true)

-- a page that shows the secret of a link
abbrev pub IsLink : Identity → Type 0
IsLink (Link secret) = Unit {0}
IsLink _ = ⊥

module _ {S : Type 0} where
  -- ---- what a browser sent

  -- its page says now who it is: a user, or one who watches
  abbrev pub IsToBegin : Relay S → Type 0
  IsToBegin r = HasPage r.visitor.identity × (r.has_begun ≡ false) × IsOpen r.visitor

  -- A page that comes is turned away if it is one too many. No other page is.
  pub record Admits (relays : Slab (Relay S)) (place most : ℕ) (arrival : PageArrival)
      (old new : Relay S) : Type 0 where
    pub full : IsComing arrival × IsTooMany relays place old most → TurnsAway arrival.opens FULL.now old new
    pub room : (IsComing arrival × IsTooMany relays place old most → ⊥) → new ≡ old

  -- ---- who it is

  -- A page is told the user and the token that the file of its link stands for, and ends; or that it stands for
  -- nothing.
  abbrev pub Gives : (text : List ℕ) (seconds : ℕ) (old new : Relay S) → Type 0
  Gives text seconds old new =
      ((name token : List ℕ) × StandsAt text seconds name token × EndsBy (TellsLast (handed name token)) old new)
      ⊎ (((name token : List ℕ) → StandsAt text seconds name token → ⊥) × EndsBy (Refuses USED.now) old new)

  -- the same of a file that was taken; one that wasn't stands for nothing
  abbrev pub GivesTaken : Option (List ℕ × ℕ) → Relay S → Relay S → Type 0
  GivesTaken None old new = EndsBy (Refuses USED.now) old new
  GivesTaken (Some taken) old new = Gives taken.0 taken.1 old new

  -- it is logged that it is there
  abbrev pub as_told : Relay S → Relay S
  as_told r = record r { is_told = true }

  -- that one who watches is there is logged if it has just begun to
  pub record TellsWatching (begins : Bool) (old new : Relay S) : Type 0 where
    pub told : begins ≡ true → new ≡ as_told old
    pub same : begins ≡ false → new ≡ old

  -- ---- what goes to whom

  -- the server has let its own client in
  abbrev pub IsLetIn : Relay S → Type 0
  IsLetIn r = IsOwn r.visitor.identity (λ c. c.display.told.is_welcome ≡ true)

  -- that a user is there is logged once, when the server has let it in
  pub record Tells (old new : Relay S) : Type 0 where
    pub told : old.is_told ≡ false → IsLetIn old → new ≡ as_told old
    pub same : (old.is_told ≡ true) ⊎ (IsLetIn old → ⊥) → new ≡ old

  -- ---- place by place

  -- nobody is there before and after, or a browser of which this holds
  abbrev pub Both : (Relay S → Relay S → Type 0) → Option (Relay S) → Option (Relay S) → Type 0
  Both P None new = new ≡ None
  Both P (Some old) None = ⊥
  Both P (Some old) (Some new) = P old new

  -- the browser at this place changes so, and nobody else does
  pub record ChangesAt (place : ℕ) (P : Relay S → Relay S → Type 0) (old new : Slab (Relay S)) : Type 0 where
    pub at : Both P (get old place) (get new place)
    pub others : (other : ℕ) → other ≢ place → get new other ≡ get old other

  -- how many logins were refused, with this one if it was
  abbrev pub Counts : Relay S → ℕ → ℕ → Type 0
  Counts r old new =
      (IsRefused r → new ≡ min (old + 1) (2 ^ 64 - 1)) × ((IsRefused r → ⊥) → new ≡ old)

  -- A browser is let go exactly if it is over, and counted if it was refused.
  pub record LetsGo (place : ℕ) (old new : Bridge S) : Type 0 where
    pub goes : (relay : Relay S) → get old.relays place ≡ Some relay → relay.is_over ≡ true
        → Updates old.relays new.relays place None × Counts relay old.refused new.refused
    pub stays : IfSome (get old.relays place) (λ relay. relay.is_over ≡ false) → new ≡ old
    pub rest : new ≡ record old { relays = new.relays; refused = new.refused }

  -- ---- all of them

  -- a second has passed since a line told how many logins were refused, and some were
  abbrev pub IsToTellRefused : Duration → Bridge S → Type 0
  IsToTellRefused now b = (0 < b.refused) × (as_nanos b.told_refused + 1000000000 ≤ as_nanos now)

  -- how many were refused is logged, once a second at most
  pub record TellsRefused (now : Duration) (old new : Bridge S) : Type 0 where
    pub none : old.log ≡ None → new ≡ record old { refused = 0 }
    pub told : IsSome old.log → IsToTellRefused now old → new ≡ record old { refused = 0; told_refused = now }
    pub early : IsSome old.log → (IsToTellRefused now old → ⊥) → new ≡ old

  -- what a hall of it opens by
  abbrev pub opening_of : Bridge S → Duration → Opening
  opening_of b now = record { socket = b.socket.now; watcher = b.site.watcher; now = now }

  -- something is left to do for a browser without an event
  abbrev pub IsBusyRelay : Option (Relay S) → Type 0
  IsBusyRelay None = ⊥
  IsBusyRelay (Some relay) = IsBusy relay

  -- something is left to do at once, for a browser or for a hall
  abbrev pub HasWork : Bridge S → Type 0
  HasWork b = ((place : ℕ) × IsBusyRelay (get b.relays place)) ⊎ ((place : ℕ) × IsBusyHall (get b.halls.list place))

-- ---- what was read, written, made and taken, by what is said of it

module _ (takes : (folder secret : List ℕ) → Option (List ℕ × ℕ) → Type 0) where
  -- what was taken of the folder of links for a secret, if there is a folder
  abbrev pub TakesFrom : Option (Bor (List ℕ)) → List ℕ → Option (List ℕ × ℕ) → Type 0
  TakesFrom None secret taken = taken ≡ None
  TakesFrom (Some folder) secret taken = takes folder.now secret taken

  -- An open page that shows a link is given what the file of its secret stands for. Nobody else is given a user.
  pub record Redeems {S : Type 0} (links : Option (Bor (List ℕ))) (old new : Relay S) : Type 0 where
    pub link : IsOpen old.visitor → (secret : List ℕ) → old.visitor.identity ≡ Link secret
        → (taken : Option (List ℕ × ℕ)) × TakesFrom links secret taken × GivesTaken taken old new
    pub other : (IsOpen old.visitor × IsLink old.visitor.identity → ⊥) → new ≡ old

-- Its own client is connected if its page has said who it is, and only once.
pub record MayConnect {S : Type 0} (makes : Makes S) (place : ℕ) (socket : List ℕ) (old new : Relay S) : Type 0 where
  pub wants : WantsServer old → Connects makes.reaches place socket old new
  pub other : (WantsServer old → ⊥) → new ≡ old

module _ {S : Type 0} (streams : Streams S) where
  -- What a browser sent is taken. It is noted whether its page opened by that, and whether it says who it is.
  pub record Hears (site : Site) (now : Duration) (old : Relay S) (arrival : PageArrival) (new : Relay S) : Type 0 where
    pub mid : Relay S
    pub reads : ReadsBrowser streams site now old mid
    pub opens : IsTrue arrival.opens ↔ ((IsOpen old.visitor → ⊥) × IsOpen mid.visitor)
    pub begins : IsTrue arrival.begins ↔ IsToBegin mid
    pub begun : arrival.begins ≡ true → new ≡ record mid { has_begun = true }
    pub same : arrival.begins ≡ false → new ≡ mid

  -- what the browser at a place sent is taken, and its page is admitted
  pub record Reads (site : Site) (now : Duration) (most : ℕ) (relays : Slab (Relay S)) (place : ℕ) (old new : Relay S)
      : Type 0 where
    pub arrival : PageArrival
    pub heard : Relay S
    pub hears : Hears site now old arrival heard
    pub admits : Admits (with_value relays place heard) place most arrival heard new

  -- the browser at a place is read
  pub record ReadsAt (now : Duration) (place : ℕ) (old new : Bridge S) : Type 0 where
    pub reads : ChangesAt place (Reads old.site now old.most old.relays place) old.relays new.relays
    pub rest : new ≡ record old { relays = new.relays; buffer = new.buffer }

  -- Its own client hears the server, and what the browser asked is written to that client's connection.
  pub record PassesOn (old new : Relay S) : Type 0 where
    pub heard : Relay S
    pub hears : HearsServer streams old heard
    pub told : Relay S
    pub tells : Tells heard told
    pub writes : WritesAll streams told new

  -- It is shown its page, and what it was sent is written.
  pub record IsShown (halls : Halls S) (old : Relay S) (after : Halls S) (new : Relay S) : Type 0 where
    pub shown : Relay S
    pub shows : ShowsPage halls old after shown
    pub writes : WritesAll streams shown new

  -- The halls hear the server. One that is stuck attaches again, and clients are sent to the chosen window.
  pub record BeginsHalls (makes : Makes S) (by : Opening) (old new : Halls S) : Type 0 where
    pub turned : Halls S
    pub turns : AtEach (HallTurns streams) old.list turned.list × (turned ≡ record old { list = turned.list })
    pub renewed : Halls S
    pub renews : ((place : ℕ)
        → Renews makes.reaches by turned.next renewed.next place (get turned.list place) (get renewed.list place))
        × (renewed ≡ record turned { list = renewed.list; next = renewed.next })
    pub none : renewed.choice ≡ None → new ≡ renewed
    pub chooses : IfSome renewed.choice (λ choice. AtEach (Chooses (string_bytes choice) by.now) renewed.list new.list)
    pub rest : new ≡ record renewed { list = new.list }

  module _ (makes : Makes S) (takes : (folder secret : List ℕ) → Option (List ℕ × ℕ) → Type 0) where
    -- Its client is connected, its link redeemed, and it sits in a hall if it watches.
    pub record Joins (b : Bridge S) (now : Duration) (place : ℕ) (old : Relay S) (after : Halls S) (new : Relay S)
        : Type 0 where
      pub connected : Relay S
      pub connects : MayConnect makes place b.socket.now old connected
      pub redeemed : Relay S
      pub redeems : Redeems takes b.links connected redeemed
      pub begins : Bool
      pub seated : Relay S
      pub seats : Seats makes.reaches (opening_of b now) b.halls redeemed begins after seated
      pub tells : TellsWatching begins seated new

    -- one turn of a browser
    pub record TurnsRelay (b : Bridge S) (now : Duration) (place : ℕ) (old : Relay S) (after : Halls S)
        (new : Relay S) : Type 0 where
      pub entered : Halls S
      pub joined : Relay S
      pub joins : Joins b now place old entered joined
      pub passed : Relay S
      pub passes : PassesOn joined passed
      pub shown : Relay S
      pub shows : IsShown entered passed after shown
      pub looks : Looks streams now shown new

    -- the browser at a place has its turn
    pub record TurnsAt (now : Duration) (place : ℕ) (old new : Bridge S) : Type 0 where
      pub turns : ChangesAt place (λ before after. TurnsRelay old now place before new.halls after) old.relays
          new.relays
      pub nobody : get old.relays place ≡ None → new.halls ≡ old.halls
      pub rest : new ≡ record old { relays = new.relays; halls = new.halls; buffer = new.buffer }

    -- the browser at a place is read, has its turn, and is let go if it is over
    pub record Visits (now : Duration) (place : ℕ) (old new : Bridge S) : Type 0 where
      pub read : Bridge S
      pub reads : ReadsAt now place old read
      pub turned : Bridge S
      pub turns : TurnsAt now place read turned
      pub leaves : LetsGo place turned new

    -- all places before this one are visited, in their order
    abbrev pub VisitsAll : Duration → ℕ → Bridge S → Bridge S → Type 0
    VisitsAll now zero old new = new ≡ old
    VisitsAll now (suc place) old new = (mid : Bridge S) × VisitsAll now place old mid × Visits now place mid new

    -- The halls begin, all places are visited, and halls that are over close.
    pub record Turns (now : Duration) (old new : Bridge S) : Type 0 where
      pub begun : Bridge S
      pub begins : BeginsHalls makes (opening_of old now) old.halls begun.halls
          × (begun ≡ record old { halls = begun.halls; buffer = begun.buffer })
      pub visited : Bridge S
      pub visits : (places : ℕ) × (length begun.relays.slots ≤ places) × VisitsAll now places begun visited
      pub closed : Bridge S
      pub closes : ((place : ℕ) → Closes now (get visited.halls.list place) (get closed.halls.list place))
          × (closed ≡ record visited { halls = record visited.halls { list = closed.halls.list } })
      pub tells : TellsRefused now closed new
