-- What a relay passes on: from a browser to its own client, and what the server sent this client to the browser.
use Rattle.std.specs.Prelude.{◌≡◌, ◌⊎◌, ◌+◌, ◌<◌, ◌≤◌, ℕ, Bool, true, false, List, [], IsSome, codes}
use Rattle.std.specs.Prelude.{◌||◌, not, MatchBool, Option, Some, None}
use Rattle.std.specs.Duration.{as_nanos}
use Rattle.std.specs.declared.time.Duration.{Duration}
use Rattle.web_client.specs.declared.identity.Identity.{Identity}
use Rattle.web_client.specs.declared.identity.Identity.TheVariants.{Nobody, Own, Watching, Link, Unknown, Left}
use Rattle.web_client.specs.declared.visitor.Visitor.{Visitor}
use Rattle.web_client.specs.declared.wire.Phase.TheVariants.{Socket, Last}
use Rattle.web_client.specs.declared.wire.Wire.{Wire}
use Rattle.web_client.specs.Asking.{AsksFor, HearsFor, IsOwn}
use Rattle.web_client.specs.Frames.{CanRead, TakesBytes}
use Rattle.web_client.specs.Rows.{TellsAway, TellsHere}
use Rattle.web_streams.specs.Streaming.{Receives, WritesOut}
use Rattle.web_streams.specs.Tokens.{ReachesFor}
use Rattle.web_streams.specs.declared.connections.Woken.TheVariants.{Server}
use Rattle.web_streams.specs.declared.stream.ReadOutcome.{ReadOutcome}
use Rattle.web_streams.specs.declared.stream.ReadOutcome.TheVariants.{More, Nothing, End}
use Rattle.web_streams.specs.declared.stream.WebStream.{Ghosts as Streams}
use Rattle.web_requests.specs.Serving.{refusal}
use Rattle.web_requests.specs.declared.site.Site.{Site}
use Rattle.web_relay.specs.Walking.{Repeats}
use Rattle.web_relay.specs.declared.relay.Relay.{Relay}
use Rattle.web_relay.specs.declared.relay.TheConstants.{NO_SERVER}
use Rattle.web_relay.specs.declared.relay.Upstream.{Upstream}
use Rattle.web_relay.specs.declared.relay.Upstream.TheVariants.{Unasked, Connected, Lost}
use Rattle.web_relay.specs.declared.upstream.TheConstants.{ENDED}

abbrev pub IsOpen : Visitor → Type 0
IsOpen v = v.wire.phase ≡ Socket

-- it has a client of its own
abbrev pub HasClient : Identity → Type 0
HasClient s = IsOwn s (λ _. Unit {0})

-- it is a user, or one who watches
abbrev pub HasPage : Identity → Type 0
HasPage Nobody = ⊥
HasPage (Own c) = Unit {0}
HasPage (Watching rows columns) = Unit {0}
HasPage (Link secret) = ⊥
HasPage Unknown = ⊥
HasPage Left = ⊥

-- the server has said why it lets the client go
abbrev pub HasGone : Identity → Type 0
HasGone s = IsOwn s (λ c. IsSome c.display.told.gone)

-- An open page is told a reason, and its connection ends. It is told once: one that isn't open is told nothing.
pub record Loses (reason : List ℕ) (old new : Visitor) : Type 0 where
  pub tells : IsOpen old → TellsAway reason old.wire new.wire
  pub other : (IsOpen old → ⊥) → new ≡ old
  pub identity : new.identity ≡ old.identity

module _ {S : Type 0} where
  -- the server has let its client go before anybody was told that it is there, or its name is nobody's
  abbrev pub IsRefused : Relay S → Type 0
  IsRefused r = (HasGone r.visitor.identity × (r.is_told ≡ false)) ⊎ (r.visitor.identity ≡ Unknown)

  -- A page is told why it ends; it is over if memory is refused. One that isn't open stays as it is: what it was told
  -- last is still sent.
  pub record LosesPage (reason : List ℕ) (old new : Relay S) : Type 0 where
    pub told : new.is_over ≡ false → Loses reason old.visitor new.visitor
    pub closed : (IsOpen old.visitor → ⊥) → new ≡ old
    pub identity : new.visitor.identity ≡ old.visitor.identity
    pub over : old.is_over ≡ true → new.is_over ≡ true
    pub rest : new ≡ record old { visitor = new.visitor; is_over = new.is_over }

  -- a page is told this, whatever it did before, and ends; it is over if memory is refused
  pub record EndsBy (tells : Wire → Wire → Type 0) (old new : Relay S) : Type 0 where
    pub told : new.is_over ≡ false → tells old.visitor.wire new.visitor.wire
    pub identity : new.visitor.identity ≡ old.visitor.identity
    pub over : old.is_over ≡ true → new.is_over ≡ true
    pub rest : new ≡ record old { visitor = new.visitor; is_over = new.is_over }

  -- There is no place for a page: one that opens now gets a refusal as its answer, and another one is told a reason.
  pub record TurnsAway (opens : Bool) (reason : List ℕ) (old new : Relay S) : Type 0 where
    pub told : opens ≡ false → LosesPage reason old new
    pub refused : opens ≡ true → new.is_over ≡ false → (new.visitor.wire.phase ≡ Last)
        × (new.visitor.identity ≡ Nobody)
        × (new.visitor.wire.output.items ≡ refusal (codes "503 Service Unavailable"))
    pub over : old.is_over ≡ true → new.is_over ≡ true
    pub rest : new ≡ record old { visitor = new.visitor; is_over = new.is_over }

-- ---- what comes of a browser

module _ {S : Type 0} where
  -- what waits was taken as far as it is whole; it is over if memory is refused, or if too much waits
  pub record TakesNow (site : Site) (now : Duration) (old new : Relay S) : Type 0 where
    pub taken : new.is_over ≡ false
        → TakesBytes site old.visitor.wire.phase old.visitor new.visitor new.has_more
    pub over : old.is_over ≡ true → new.is_over ≡ true
    pub rest : new ≡ record old {
      visitor = new.visitor;
      heard = now;
      has_more = new.has_more;
      is_over = new.is_over;
    }

  -- some of what came is left to be taken
  abbrev pub IsToTake : Relay S → Type 0
  IsToTake r = (r.has_more ≡ true) × CanRead r.visitor

  -- all that came is taken, and more may have come
  abbrev pub IsToRead : Relay S → Type 0
  IsToRead r = (r.has_more ≡ false) × (r.browser_ready ≡ true) × CanRead r.visitor

  -- what came is taken; or nothing comes now; or the connection ended
  abbrev pub ReadsAs : ReadOutcome → Site → Duration → Relay S → Relay S → Type 0
  ReadsAs More site now old new = TakesNow site now old new
  ReadsAs Nothing site now old new = new ≡ record old { browser_ready = false }
  ReadsAs End site now old new = new ≡ record old { browser_ready = false; is_over = true }

  -- what was left of frames that came is taken
  abbrev pub TakesRest : Site → Duration → Relay S → Relay S → Type 0
  TakesRest site now old new =
      ((IsToTake old → ⊥) × (new ≡ old)) ⊎ (IsToTake old × TakesNow site now old new)

-- ---- the connection of its own client

module _ {S : Type 0} where
  abbrev pub IsConnected : Upstream S → Type 0
  IsConnected Unasked = ⊥
  IsConnected (Connected stream) = Unit {0}
  IsConnected Lost = ⊥

  -- its page has said who it is, and its client wasn't connected yet
  abbrev pub WantsServer : Relay S → Type 0
  WantsServer r =
      HasClient r.visitor.identity × IsOpen r.visitor × (r.has_begun ≡ true) × (r.server ≡ Unasked)

  -- its client is connected, or the page is told that it can't be
  abbrev pub ConnectsTo : Option S → Relay S → Relay S → Type 0
  ConnectsTo None old new = LosesPage NO_SERVER.now old new
  ConnectsTo (Some stream) old new = new ≡ record old { server = Connected stream }

  -- the same, by what came of reaching the server's socket for the place of a browser
  abbrev pub Connects : (List ℕ → ℕ → Option S → Type 0) → ℕ → List ℕ → Relay S → Relay S → Type 0
  Connects reaches place socket old new =
      (reached : Option S) × ReachesFor reaches Server place socket reached × ConnectsTo reached old new

  -- its client has no connection any more
  abbrev pub parted : Relay S → Relay S
  parted r = record r { server = Lost; server_ready = false }

  -- The connection of its client ended. The page is told that, unless the server said why, or it isn't open: then it
  -- stays as it is, and what it was told last is still sent.
  pub record LosesServer (old new : Relay S) : Type 0 where
    pub gone : HasGone old.visitor.identity → new ≡ parted old
    pub closed : (IsOpen old.visitor → ⊥) → new ≡ parted old
    pub told : (HasGone old.visitor.identity → ⊥) → new.is_over ≡ false → Loses ENDED.now old.visitor new.visitor
    pub identity : new.visitor.identity ≡ old.visitor.identity
    pub over : old.is_over ≡ true → new.is_over ≡ true
    pub rest : new ≡ record old {
      visitor = new.visitor;
      is_over = new.is_over;
      server = Lost;
      server_ready = false;
    }

  -- what came was heard; or nothing comes now; or the connection ended
  abbrev pub HearsAs : ReadOutcome → Relay S → Relay S → Type 0
  HearsAs More old new = new ≡ old
  HearsAs Nothing old new = new ≡ record old { server_ready = false }
  HearsAs End old new = LosesServer old new

  abbrev pub IsToHear : Relay S → Type 0
  IsToHear r = r.server_ready ≡ true

-- ---- when it ends, and when it is asked

-- a page that can be read, and has taken all that it was sent
abbrev pub HasTakenAll : Visitor → Type 0
HasTakenAll v = CanRead v × (v.wire.output.items ≡ [])

-- what it was told last is written
abbrev pub IsDone : Visitor → Type 0
IsDone v = (v.wire.phase ≡ Last) × (v.wire.output.items ≡ [])

module _ {S : Type 0} where
  -- One that hasn't said who it is has 20 seconds. Another one is silent for 10 seconds at most if it has taken all,
  -- and else for 60.
  abbrev pub IsSilent : Duration → Relay S → Identity → Type 0
  IsSilent now r Nobody = as_nanos r.began + 20000000000 < as_nanos now
  IsSilent now r _ =
      (HasTakenAll r.visitor × (as_nanos r.heard + 10000000000 < as_nanos now))
      ⊎ ((HasTakenAll r.visitor → ⊥) × (as_nanos r.heard + 60000000000 < as_nanos now))

  abbrev pub IsLate : Duration → Relay S → Type 0
  IsLate now r = IsSilent now r r.visitor.identity

  -- it wasn't asked for 4 seconds whether it is there
  abbrev pub IsToAsk : Duration → Relay S → Type 0
  IsToAsk now r = (r.has_begun ≡ true) × (as_nanos r.asked + 4000000000 ≤ as_nanos now)

  -- an open page is told that the bridge is there, and asked whether it is; it is over if memory is refused
  pub record Pings (now : Duration) (old new : Relay S) : Type 0 where
    pub told : IsOpen old.visitor → new.is_over ≡ false → TellsHere old.visitor.wire new.visitor.wire
    pub other : (IsOpen old.visitor → ⊥) → new.visitor ≡ old.visitor
    pub over : old.is_over ≡ true → new.is_over ≡ true
    pub rest : new ≡ record old {
      visitor = record old.visitor { wire = new.visitor.wire };
      asked = now;
      is_over = new.is_over;
    }

  -- something is left to do without an event
  abbrev pub IsBusy : Relay S → Type 0
  IsBusy r =
      (r.is_over ≡ false)
      × (((((r.has_more ≡ true) ⊎ (r.browser_ready ≡ true)) × CanRead r.visitor))
      ⊎ ((r.server_ready ≡ true) × IsConnected r.server))

-- ---- what is read and written, by what streams say of it

module _ {S : Type 0} (streams : Streams S) where
  -- one read of the browser was made
  abbrev pub ReadsOnce : Site → Duration → Relay S → Relay S → Type 0
  ReadsOnce site now old new =
      (came : ReadOutcome) × (left : S) × (v : Visitor) × (v ≡ record old.visitor { input = v.input })
      × Receives streams.reads old.browser old.visitor.input.items came left v.input.items
      × ReadsAs came site now (record old { visitor = v; browser = left }) new

  -- What was left is taken, and then the browser is read, up to 16 times. So frames are taken in order, and each once.
  abbrev pub ReadsBrowser : Site → Duration → Relay S → Relay S → Type 0
  ReadsBrowser site now old new =
      (mid : Relay S) × TakesRest site now old mid × Repeats IsToRead (ReadsOnce site now) 16 mid new

  -- one read of the server was made; there is nothing to read where no connection is
  abbrev pub HearsOnce : Relay S → Relay S → Type 0
  HearsOnce old new =
      ((IsConnected old.server → ⊥) × (new ≡ record old { server_ready = false }))
      ⊎ ((stream : S) × (old.server ≡ Connected stream) × (came : ReadOutcome) × (left : S) × (v : Visitor)
      × (v ≡ record old.visitor { identity = v.identity })
      × HearsFor streams.reads stream old.visitor.identity came left v.identity
      × HearsAs came (record old { visitor = v; server = Connected left }) new)

  -- what the server sent is heard, in up to 16 reads
  abbrev pub HearsServer : Relay S → Relay S → Type 0
  HearsServer old new = Repeats IsToHear HearsOnce 16 old new

  -- what waits for the server was written, and its connection ended if that is broken
  abbrev pub WritesServer : Relay S → Relay S → Type 0
  WritesServer old new =
      ((IsConnected old.server → ⊥) × (new ≡ old))
      ⊎ ((stream : S) × (old.server ≡ Connected stream) × (whole : Bool) × (left : S) × (v : Visitor)
      × (v ≡ record old.visitor { identity = v.identity })
      × AsksFor streams.writes stream old.visitor.identity whole left v.identity
      × MatchBool whole (new ≡ record old { visitor = v; server = Connected left })
      (LosesServer (record old { visitor = v; server = Connected left }) new))

  -- what waits for the browser was written; it is over if its connection is broken
  pub record WritesBrowser (old new : Relay S) : Type 0 where
    pub whole : Bool
    pub written : WritesOut streams.writes old.browser old.visitor.wire.output.items whole new.browser
        new.visitor.wire.output.items
    pub over : new.is_over ≡ (old.is_over || not whole)
    pub rest : new ≡ record old {
      visitor = record old.visitor { wire = record old.visitor.wire { output = new.visitor.wire.output } };
      browser = new.browser;
      is_over = new.is_over;
    }

  abbrev pub WritesAll : Relay S → Relay S → Type 0
  WritesAll old new = (mid : Relay S) × WritesServer old mid × WritesBrowser mid new

  abbrev pub AsksWhetherThere : Duration → Relay S → Relay S → Type 0
  AsksWhetherThere now old new = (mid : Relay S) × Pings now old mid × WritesAll mid new

  -- One whose last words are written is over, and one that is late. Another one may be asked whether it is there.
  pub record Looks (now : Duration) (old new : Relay S) : Type 0 where
    pub ends : IsLate now old ⊎ IsDone old.visitor → new ≡ record old { is_over = true }
    pub asks : (IsLate now old ⊎ IsDone old.visitor → ⊥) → HasTakenAll old.visitor × IsToAsk now old
        → AsksWhetherThere now old new
    pub stays : (IsLate now old ⊎ IsDone old.visitor → ⊥) → (HasTakenAll old.visitor × IsToAsk now old → ⊥)
        → new ≡ old
