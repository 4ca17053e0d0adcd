-- What becomes of browsers that listeners hand over.
use Rattle.std.specs.Prelude.{◌≡◌, ◌⊎◌, ◌<◌, ◌+◌, ◌||◌, ℕ, zero, suc, Bool, true, false, List, [], ◌∷◌, MatchBool, min}
use Rattle.std.specs.declared.time.Duration.{Duration}
use Rattle.slab.specs.Slab.{Slab}
use Rattle.web_relay.specs.declared.relay.Relay.{Relay}
use Rattle.web_streams.specs.declared.connections.Accepted.{Accepted}
use Rattle.web_streams.specs.declared.connections.Accepted.TheVariants.{Came, Nothing, Refused}
use Rattle.web_streams.specs.declared.connections.Asked.{Asked}
use Rattle.web_streams.specs.declared.connections.BridgeStream.{Ghosts as Makes}
use Rattle.web_streams.specs.declared.connections.WebListener.{WebListener}
use Rattle.web_relay.specs.Places.{IsClosed, LetsIn}
use Rattle.web_turn.specs.declared.bridge.Bridge.{Bridge}

-- how many browsers may be there: as many pages as may be, and 256 who haven't said who they are
abbrev pub room_for : ℕ → ℕ
room_for most = min (most + 256) 18446744073709551615

module _ {S : Type 0} (makes : Makes S) where
  -- One browser is let in or closed. Each of both makes room first, and nobody else goes or changes.
  abbrev pub Accepts : ℕ → S → Duration → Slab (Relay S) → Slab (Relay S) → Type 0
  Accepts most browser now old new =
      LetsIn makes.wakes most browser now old new ⊎ IsClosed makes.wakes most browser old new

  -- One who waited came; nobody waits; or the listener is to be asked again soon.
  abbrev pub TakesComer : Accepted S → Duration → Bridge S → Bool → Bridge S → Type 0
  TakesComer (Came browser) now old came new =
      (came ≡ true) × Accepts (room_for old.most) browser now old.relays new.relays
      × (new ≡ record old { relays = new.relays })
  TakesComer Nothing now old came new = (came ≡ false) × (new ≡ old)
  TakesComer Refused now old came new = (came ≡ false) × (new ≡ record old { has_comers = true })

  -- a listener was asked once, and no answer was left out
  abbrev pub AcceptsOne : WebListener → Duration → Bridge S → Bool → Bridge S → Type 0
  AcceptsOne listener now old came new =
      (answer : Accepted S) × (asked : Asked) × makes.comes listener old.asked answer asked
      × TakesComer answer now (record old { asked = asked }) came new

  -- that many browsers came in through a listener, one after another
  abbrev pub AcceptsEach : WebListener → Duration → ℕ → Bridge S → Bridge S → Type 0
  AcceptsEach listener now zero old new = new ≡ old
  AcceptsEach listener now (suc count) old new =
      (mid : Bridge S) × AcceptsEach listener now count old mid × AcceptsOne listener now mid true new

  -- All who wait at a listener come in, but 64 at most: then more may be taken at once.
  abbrev pub AcceptsAt : WebListener → Duration → Bridge S → Bool → Bridge S → Type 0
  AcceptsAt listener now old more new =
      (count : ℕ) × (mid : Bridge S) × AcceptsEach listener now count old mid
      × MatchBool more ((count ≡ 64) × (new ≡ record mid { has_comers = true }))
      ((count < 64) × AcceptsOne listener now mid false new)

  -- one listener after another
  abbrev pub AcceptsAll : List WebListener → Duration → Bridge S → Bool → Bridge S → Type 0
  AcceptsAll [] now old more new = (more ≡ false) × (new ≡ old)
  AcceptsAll (listener ∷ later) now old more new =
      (mid : Bridge S) × (first : Bool) × (rest : Bool) × AcceptsAt listener now old first mid
      × AcceptsAll later now mid rest new × (more ≡ (first || rest))

  -- the same if somebody may wait, and else nothing
  abbrev pub AcceptsIf : List WebListener → Duration → Bridge S → Bool → Bridge S → Type 0
  AcceptsIf listeners now old more new =
      MatchBool old.has_comers (AcceptsAll listeners now (record old { has_comers = false }) more new)
      ((more ≡ false) × (new ≡ old))
