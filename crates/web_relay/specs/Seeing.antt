-- What browsers see: of their own client, or of a hall.
use Rattle.std.specs.Prelude.{◌≡◌, ◌≢◌, ◌⊎◌, ◌+◌, ◌-◌, ◌^◌, ◌≤◌, ℕ, Bool, true, false, min, MatchBool}
use Rattle.std.specs.Prelude.{List, Option, Some, None, is_none}
use Rattle.slab.specs.Slab.{with_value}
use Rattle.web_client.specs.declared.visitor.Visitor.{Visitor}
use Rattle.web_client.specs.declared.identity.Identity.TheVariants.{Watching}
use Rattle.web_client.specs.Asking.{IsOwn, IfOwn, IsWatcher, OnlyShows, ShowsFor}
use Rattle.web_client.specs.Frames.{IsWithin}
use Rattle.web_client.specs.Rows.{IsDue, Shows, SendsAll}
use Rattle.web_relay.specs.declared.hall.Hall.{Hall}
use Rattle.web_relay.specs.declared.halls.Halls.{Halls}
use Rattle.web_relay.specs.declared.halls.HallNumber.{HallNumber}
use Rattle.web_relay.specs.declared.relay.Relay.{Relay}
use Rattle.web_relay.specs.declared.relay.TheConstants.{NO_SERVER}
use Rattle.web_relay.specs.Halls.{Enters, Opening, hall_of}
use Rattle.web_relay.specs.Relaying.{HasClient, IsOpen, LosesPage}
use Rattle.web_relay.specs.declared.upstream.TheConstants.{ENDED}

-- ---- a seat

module _ {S : Type 0} where
  -- a browser that watches is told that there is no hall for it, if none was found
  abbrev pub MissesHall : Option HallNumber → Relay S → Relay S → Type 0
  MissesHall None old new = LosesPage NO_SERVER.now old new
  MissesHall (Some number) old new = new ≡ old

  -- a browser that was sent nothing of its hall's page
  abbrev pub seated_afresh : Option HallNumber → Relay S → Relay S
  seated_afresh found r =
      record r { hall = found; visitor = record r.visitor { view = record { is_welcomed = false; since = 0 } } }

  -- It stays in the hall that it has, or sits in another one; and whether it had none before.
  abbrev pub SitsIn : Option HallNumber → Relay S → Bool → Relay S → Type 0
  SitsIn found old begins new =
      (mid : Relay S) × MissesHall found old mid
      × (((found ≡ old.hall) × (new ≡ mid) × (begins ≡ false))
      ⊎ ((found ≢ old.hall) × (new ≡ seated_afresh found mid) × (begins ≡ is_none old.hall)))

  -- Only an open page that watches sits, in a hall for its size.
  pub record Seats (reaches : List ℕ → ℕ → Option S → Type 0) (by : Opening) (halls : Halls S) (old : Relay S)
      (begins : Bool) (after : Halls S) (new : Relay S) : Type 0 where
    pub apart : (IsWatcher old.visitor.identity × IsOpen old.visitor → ⊥)
        → (new ≡ old) × (after ≡ halls) × (begins ≡ false)
    pub sits : (rows columns : ℕ) → old.visitor.identity ≡ Watching rows columns → IsOpen old.visitor
        → (found : Option HallNumber) × Enters reaches by (rows, columns) halls found after
        × SitsIn found old begins new

-- ---- a page

-- A browser with a client of its own is sent what that client's display shows, and one without a client nothing.
pub record SeesOwn (old new : Visitor) : Type 0 where
  pub shows : IsOpen old → IfOwn old.identity (λ before. IsDue before.display old.wire
      → IsOwn new.identity (λ after.
      Shows before.display old.view.since old.wire after.display new.view.since new.wire))
  pub sends : IsOpen old
      → IfOwn old.identity (λ before. SendsAll before.display.told old.view new.view old.wire new.wire)
  pub needed : IfOwn new.identity (λ after. after.display.sheet.moment ≤ old.view.since
      → new.wire.sent ≡ old.wire.sent)
  pub later : IfOwn old.identity (λ before. (IsDue before.display old.wire → ⊥)
      → (new.view.since ≡ old.view.since) × IsOwn new.identity (λ after. after ≡ before))
  pub apart : (HasClient old.identity → ⊥) → new ≡ old
  pub rest : new ≡ record old { wire = new.wire; view = new.view; identity = new.identity }

module _ {S : Type 0} where
  -- The same; it is over if memory is refused, or too much waits. One that isn't open stays as it is, and so does one
  -- without a client if little waits.
  pub record ShowsOwn (old new : Relay S) : Type 0 where
    pub closed : (IsOpen old.visitor → ⊥) → new ≡ old
    pub apart : (HasClient old.visitor.identity → ⊥) → IsWithin old.visitor.wire → new ≡ old
    pub sees : new.is_over ≡ false → SeesOwn old.visitor new.visitor
    pub keeps : ShowsFor old.visitor.identity new.visitor.identity
    pub over : old.is_over ≡ true → new.is_over ≡ true
    pub rest : new ≡ record old { visitor = new.visitor; is_over = new.is_over }

  -- A browser that watches is sent what its hall shows.
  pub record SeesHall (hall after : Hall S) (old new : Visitor) : Type 0 where
    pub shows : IsOpen old → IsDue hall.client.client.display old.wire
        → Shows hall.client.client.display old.view.since old.wire after.client.client.display new.view.since new.wire
    pub sends : IsOpen old → SendsAll hall.client.client.display.told old.view new.view old.wire new.wire
    pub needed : after.client.client.display.sheet.moment ≤ old.view.since → new.wire.sent ≡ old.wire.sent
    pub later : (IsDue hall.client.client.display old.wire → ⊥)
        → (new.view.since ≡ old.view.since) × (after.client ≡ hall.client)
    pub closed : (IsOpen old → ⊥) → (new ≡ old) × (after.client ≡ hall.client)
    pub rest : new ≡ record old { wire = new.wire; view = new.view }

  -- The same, and it counts as the hall's audience. One that isn't open stays as it is.
  pub record ShowsHall (hall after : Hall S) (old new : Relay S) : Type 0 where
    pub closed : (IsOpen old.visitor → ⊥) → new ≡ old
    pub sees : new.is_over ≡ false → SeesHall hall after old.visitor new.visitor
    pub identity : new.visitor.identity ≡ old.visitor.identity
    pub over : old.is_over ≡ true → new.is_over ≡ true
    pub rest : new ≡ record old { visitor = new.visitor; is_over = new.is_over }
    pub shown : OnlyShows hall.client.client after.client.client
    pub counted : after
        ≡ record hall { client = after.client; audience = min (hall.audience + 1) (2 ^ 64 - 1) }

  -- If its connection had ended, the browser is told that afterwards.
  abbrev pub Watches : (hall after : Hall S) (old new : Relay S) → Type 0
  Watches hall after old new =
      (mid : Relay S) × ShowsHall hall after old mid × MatchBool hall.is_lost (LosesPage ENDED.now mid new) (new ≡ mid)

  -- A browser is shown the page of its hall if it watches, and else of its own client. No other page is shown to it.
  pub record ShowsPage (halls : Halls S) (old : Relay S) (after : Halls S) (new : Relay S) : Type 0 where
    pub own : (IsWatcher old.visitor.identity → ⊥) → (after ≡ halls) × ShowsOwn old new
    pub none : IsWatcher old.visitor.identity → old.hall ≡ None → (after ≡ halls) × LosesPage ENDED.now old new
    pub gone : IsWatcher old.visitor.identity → (number : HallNumber) → old.hall ≡ Some number
        → hall_of halls.list number ≡ None → (after ≡ halls) × LosesPage ENDED.now old new
    pub hall : IsWatcher old.visitor.identity → (number : HallNumber) (hall : Hall S) → old.hall ≡ Some number
        → hall_of halls.list number ≡ Some hall → (then : Hall S)
        × (after ≡ record halls { list = with_value halls.list number.place then }) × Watches hall then old new
