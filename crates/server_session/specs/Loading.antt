-- How much was typed into the open windows, which their loops haven't seen yet.
use Rattle.std.specs.Prelude.{◌≡◌, ℕ, ◌+◌, ◌-◌, ◌^◌, ◌<◌, Bool, length, Option, Some, None, Ok}
use Rattle.std.specs.Prelude.{IsSomeAnd, min, if◌then◌else◌}
use Rattle.std.specs.Ordering.{nat_cmp}
use Rattle.std.specs.BTreeMap as tree
use Rattle.session.specs.Trace.{EventValue, Keys, Command, Open, Reply}
use Rattle.session.specs.event.Effect.{Effect}
use Rattle.session.specs.event.Effect.TheVariants.{Gone}
use Rattle.session.specs.event.Peer.TheVariants.{Window}
use Rattle.server_session.specs.declared.loads.Loads.{Loads}

-- how many bytes count as typed into a window since its loop looked; None if the window isn't open
abbrev pub typed_into : Loads → ℕ → Option ℕ
typed_into loads window = tree.get nat_cmp loads.typed window

-- a step typed these bytes more, in a frame of 64
abbrev pub with_typed : ℕ → ℕ → ℕ
with_typed bytes typed = min (typed + (bytes + 64)) (2 ^ 64 - 1)

-- its loop looked: it has seen all that was typed, or more waits than can be typed
abbrev pub looked_at : Bool → ℕ → ℕ
looked_at full typed = if full then 2 ^ 64 - 1 else 0

-- what is typed next has to wait
abbrev pub IsFull : Option ℕ → Type 0
IsFull typed = IsSomeAnd typed (λ bytes. 262144 < bytes)

-- each other window is counted as before
abbrev pub SameBut : ℕ → Loads → Loads → Type 0
SameBut window old new = (w : ℕ) → (w ≡ window → ⊥) → typed_into new w ≡ typed_into old w

-- ---- what a step and its effects say of windows

-- the most bytes that an event's step types
abbrev pub size_of : EventValue → ℕ
size_of (Keys client bytes) = length bytes
size_of (Command user window line) = length line
size_of other = 0

-- the window that an event opened
abbrev pub opened_by : EventValue → Reply → Option ℕ
opened_by (Open user rows columns keep title) (Ok done) = Some done.made
opened_by event reply = None

-- the window that is gone by an effect
abbrev pub closed_by : Effect → Option ℕ
closed_by (Gone (Window window) why) = Some window
closed_by other = None
