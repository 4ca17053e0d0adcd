-- Browsers at their places.
use Rattle.std.specs.Prelude.{◌≡◌, ◌≢◌, ◌⊎◌, ◌&&◌, ◌==◌, ◌-◌, ◌/◌, ◌≤◌, ℕ, zero, suc, Bool, not, true, false}
use Rattle.std.specs.Prelude.{if◌then◌else◌, List, [], Option, Some, None, bytes_eq, IsTrue, ◌↔◌, IsSomeAnd, ◌<◌}
use Rattle.std.specs.Prelude.{Result, Ok, Err, ⊤}
use Rattle.std.specs.declared.io.Error.{Error}
use Rattle.std.specs.Duration.{as_nanos}
use Rattle.std.specs.declared.time.Duration.{Duration}
use Rattle.slab.specs.Slab.{Slab, HasRoomFor, SameValues, Updates, get, with_value, slab_len}
use Rattle.web_client.specs.declared.wire.Phase.{Phase}
use Rattle.web_client.specs.declared.wire.Phase.TheVariants.{Request, Socket, Last}
use Rattle.web_client.specs.Frames.{page, begun}
use Rattle.web_streams.specs.Tokens.{WakesFor}
use Rattle.web_streams.specs.declared.connections.Woken.TheVariants.{Browser}
use Rattle.web_relay.specs.declared.relay.Relay.{Relay}
use Rattle.web_relay.specs.declared.relay.Upstream.TheVariants.{Unasked}
use Rattle.web_relay.specs.Relaying.{IsRefused}

-- ---- what an event changes

abbrev pub put_at : {T : Type 0} → Slab T → ℕ → (T → T) → Option T → Slab T
put_at s place change None = s
put_at s place change (Some old) = with_value s place (change old)

-- who is at this place changes, and nobody else
abbrev pub changed_at : {T : Type 0} → Slab T → ℕ → (T → T) → Slab T
changed_at s place change = put_at s place change (get s place)

module _ {S : Type 0} where
  abbrev pub heeds_browser : Relay S → Relay S
  heeds_browser r = record r { browser_ready = true }

  abbrev pub heeds_server : Relay S → Relay S
  heeds_server r = record r { server_ready = true }

-- ---- who may be there

module _ {S : Type 0} where
  -- a browser that hasn't said who it is
  abbrev pub IsSilent : Option (Relay S) → Type 0
  IsSilent None = ⊥
  IsSilent (Some relay) = relay.has_begun ≡ false

  -- a browser that is let go
  abbrev pub IsOver : Option (Relay S) → Type 0
  IsOver None = ⊥
  IsOver (Some relay) = relay.is_over ≡ true

abbrev pub is_socket : Phase → Bool
is_socket Request = false
is_socket Socket = true
is_socket Last = false

module _ {S : Type 0} where
  -- a page that has said who it is, and is open
  abbrev pub has_page : Relay S → Bool
  has_page r = r.has_begun && is_socket r.visitor.wire.phase

-- ---- whether there is room

module _ {S : Type 0} where
  -- the open page of another browser
  abbrev pub is_other : ℕ → (ℕ × Relay S) → Bool
  is_other place at = not (at.0 == place) && has_page at.1

  -- the same of a page of this address
  abbrev pub shares : List ℕ → Relay S → Bool
  shares address r = has_page r && bytes_eq r.visitor.address.items address

  abbrev pub is_neighbour : ℕ → List ℕ → (ℕ × Relay S) → Bool
  is_neighbour place address at = not (at.0 == place) && shares address at.1

  abbrev pub holds_at : (ℕ × Relay S → Bool) → ℕ → Option (Relay S) → Bool
  holds_at P place None = false
  holds_at P place (Some relay) = P (place, relay)

  -- how many of the places before one have a browser of which this holds
  abbrev pub count_below : (ℕ × Relay S → Bool) → Slab (Relay S) → ℕ → ℕ
  count_below P relays zero = 0
  count_below P relays (suc place) =
      if holds_at P place (get relays place) then suc (count_below P relays place) else count_below P relays place

  -- As many open pages as there may be are others', or three quarters of them are others' of its address.
  abbrev pub IsTooMany : Slab (Relay S) → ℕ → Relay S → ℕ → Type 0
  IsTooMany relays place relay most =
      (most ≤ count_below (is_other place) relays relays.capacity)
      ⊎ ((relay.visitor.address.items ≢ [])
      × (most - most / 4 ≤ count_below (is_neighbour place relay.visitor.address.items) relays relays.capacity))

-- ---- who comes and goes

module _ {S : Type 0} where
  -- it is over, and this is said of it: whether it was logged, and whether it was refused
  abbrev pub LeavesAs : (Bool × Bool) → Option (Relay S) → Type 0
  LeavesAs said None = ⊥
  LeavesAs said (Some relay) =
      (relay.is_over ≡ true) × (said.0 ≡ relay.is_told) × (IsTrue said.1 ↔ IsRefused relay)

  -- a browser that has just come: nothing was read of it, and it was sent nothing
  pub record IsNew (browser : S) (now : Duration) (relay : Relay S) : Type 0 where
    pub page : page relay.visitor ≡ begun
    pub output : (relay.visitor.wire.output.items ≡ []) × (relay.visitor.wire.sent ≡ 0)
    pub view : relay.visitor.view ≡ record { is_welcomed = false; since = 0 }
    pub address : relay.visitor.address.items ≡ []
    pub rest : relay ≡ record {
      visitor = relay.visitor;
      browser = browser;
      server = Unasked;
      hall = None;
      browser_ready = true;
      server_ready = false;
      has_more = false;
      has_begun = false;
      is_told = false;
      began = now;
      heard = now;
      asked = now;
      is_over = false;
    }

  -- one who hasn't said who it is came no earlier than this
  abbrev pub IsNoOlder : Duration → Option (Relay S) → Type 0
  IsNoOlder began None = Unit {0}
  IsNoOlder began (Some relay) = relay.has_begun ≡ false → as_nanos began ≤ as_nanos relay.began

  -- the oldest of those who haven't said who they are is at this place
  abbrev pub IsOldest : Slab (Relay S) → ℕ → Type 0
  IsOldest relays place =
      IsSomeAnd (get relays place) (λ oldest. (oldest.has_begun ≡ false)
      × ((other : ℕ) → IsNoOlder oldest.began (get relays other)))

  -- of those that were looked at the oldest is this one, or now the one at this place
  abbrev pub IsOlderOf : ℕ → Relay S → Option (ℕ × Duration) → Option (ℕ × Duration) → Type 0
  IsOlderOf place relay None new =
      (relay.has_begun ≡ false → new ≡ Some (place, relay.began)) × (relay.has_begun ≡ true → new ≡ None)
  IsOlderOf place relay (Some old) new =
      ((relay.has_begun ≡ false) × (as_nanos relay.began ≤ as_nanos old.1) × (new ≡ Some (place, relay.began)))
      ⊎ ((relay.has_begun ≡ false → as_nanos old.1 ≤ as_nanos relay.began) × (new ≡ Some old))

  -- the oldest of those goes, and no other one; nobody goes if all have said who they are
  abbrev pub OldestGoes : Slab (Relay S) → Slab (Relay S) → Type 0
  OldestGoes old new =
      ((place : ℕ) × IsOldest old place × Updates old new place None)
      ⊎ (((place : ℕ) → IsSilent (get old place) → ⊥) × (new ≡ old))

  -- nobody goes as long as fewer than `most` are there
  pub record MakesRoom (most : ℕ) (old new : Slab (Relay S)) : Type 0 where
    pub few : slab_len old < most → new ≡ old
    pub many : most ≤ slab_len old → OldestGoes old new

module _ {S : Type 0} (wakes : S → ℕ → Result ⊤ Error → Type 0) (most : ℕ) (browser : S) where
  -- One who comes gets a place that is free after room was made. Its events are for this place.
  pub record LetsIn (now : Duration) (old new : Slab (Relay S)) : Type 0 where
    pub room : Slab (Relay S)
    pub makes : MakesRoom most old room
    pub place : ℕ
    pub vacant : get room place ≡ None
    pub woken : WakesFor wakes Browser place browser (Ok tt)
    pub relay : Relay S
    pub comes : IsNew browser now relay
    pub placed : Updates room new place (Some relay)

  -- one who comes is closed: there is no memory, or the system doesn't watch the connection
  pub record IsClosed (old new : Slab (Relay S)) : Type 0 where
    pub room : Slab (Relay S)
    pub makes : MakesRoom most old room
    pub same : SameValues room new
    pub cause : (HasRoomFor room 1 → ⊥) ⊎ ((place : ℕ) × (e : Error) × WakesFor wakes Browser place browser (Err e))
