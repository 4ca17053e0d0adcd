-- The keys and the size of one connection, before and after a step of them. Times are in milliseconds.
use Rattle.std.specs.Prelude.{◌≡◌, ◌&&◌, ◌||◌, ℕ, Bool, true, false, Option, Some, None, is_none, is_some}
use Rattle.std.specs.Prelude.{if◌then◌else◌, unwrap_or}
use Rattle.slab.specs.Slab.{get}
use Rattle.server_connections.specs.Lending.{touched}
use Rattle.server_connections.specs.Peers.{is_open}
use Rattle.server_connections.specs.Streaming.{Gathers}
use Rattle.server_connections.specs.declared.connections.Connections.{Connections}
use Rattle.server_connections.specs.declared.peer.Peer.{Peer}
use Rattle.server_inbox.specs.Asking.{is_taken}
use Rattle.server_typing.specs.Sized.{after_size, next_size}
use Rattle.server_typing.specs.Typed.{Typed, after_news, begins_command, drains, holding, is_news, let_go, untyped}
use Rattle.server_users.specs.declared.user.Shown.{Shown}
use Rattle.server_steps.specs.Settling.{Tried, progress_of, settled, window_after}
use Rattle.server_steps.specs.declared.progress.Progress.{Progress}
use Rattle.server_steps.specs.declared.progress.Progress.TheVariants as progress
use Rattle.server_steps.specs.declared.typing.Target.{Target}

-- a user types into this window, as far as it is known
abbrev pub target_in : Option ℕ → Option Shown → Typed → Option Target
target_in (Some window) (Some user) t = Some (record {
  window = window;
  user = user;
  begins_command = begins_command t;
  is_held = t.held;
})
target_in window user t = None

-- what waits doesn't keep more from being taken in
abbrev pub unless_more : Bool → Progress → Progress
unless_more false progress.Held = progress.Part
unless_more is_through p = p

module _ {S : Type 0} where
  -- a connection is there, and is read
  abbrev pub is_open_at : Option (Peer S) → Bool
  is_open_at None = false
  is_open_at (Some peer) = is_open peer.stage

  abbrev pub with_typed : Typed → Peer S → Peer S
  with_typed t peer = record peer { inbox = record peer.inbox { typed = t } }

  -- the keys that wait
  abbrev pub typed_at : Option (Peer S) → Typed
  typed_at None = untyped
  typed_at (Some peer) = peer.inbox.typed

  -- who showed their token
  abbrev pub user_at : Option (Peer S) → Option Shown
  user_at None = None
  user_at (Some peer) = peer.user

  -- keys and sizes that come next were taken in, into the connection of a key and into no other, unless it isn't read
  abbrev pub GathersAt : ℕ → ℕ → Connections S → Option (Option Bool) → Connections S → Type 0
  GathersAt now key old (Some None) new = (is_open_at (get old.peers key) ≡ false) × (new ≡ old)
  GathersAt now key old far new = (peer : Peer S) × (left : Peer S) × (get old.peers key ≡ Some peer)
      × (is_open peer.stage ≡ true) × Gathers now peer (unwrap_or far None) left × (new ≡ touched old key left)

  -- the size that is to be told now
  abbrev pub size_at : ℕ → Option (Peer S) → Option (ℕ × ℕ)
  size_at now None = None
  size_at now (Some peer) = next_size now peer.inbox.sizing

  abbrev pub sized : ℕ → Peer S → Peer S
  sized now peer = record peer { inbox = record peer.inbox { sizing = after_size now peer.inbox.sizing } }

  -- a size waits that was told
  abbrev pub wants_size : Option (Peer S) → Bool
  wants_size None = false
  wants_size (Some peer) = is_some peer.inbox.sizing.wanted

  -- its user is to be told now that keys were dropped
  abbrev pub is_news_at : ℕ → Option (Peer S) → Bool
  is_news_at now None = false
  is_news_at now (Some peer) = is_news now peer.inbox.typed

  abbrev pub told_news : ℕ → Peer S → Peer S
  told_news now peer = with_typed (after_news now peer.inbox.typed) peer

  -- where its keys go
  abbrev pub target_at : Option (Peer S) → Option Target
  target_at None = None
  target_at (Some peer) = target_in peer.types_into peer.user peer.inbox.typed

  -- its keys wait as long as it takes; if its other end is gone, they are as old as they are
  abbrev pub held_keys : Peer S → Peer S
  held_keys peer =
      with_typed (if peer.has_hung_up then let_go peer.inbox.typed else holding peer.inbox.typed) peer

  abbrev pub freed_keys : Peer S → Peer S
  freed_keys peer = with_typed (let_go peer.inbox.typed) peer

  -- keys that wait on are held only for a window that is known
  abbrev pub strayed_keys : Peer S → Peer S
  strayed_keys peer = if is_none peer.types_into then freed_keys peer else peer

  -- these keys are left, and the next ones go into this window; if they wait on that doesn't change
  abbrev pub put_keys : Typed → Option ℕ → Progress → Peer S → Peer S
  put_keys t window progress.Held peer = strayed_keys (with_typed t peer)
  put_keys t window p peer = record (with_typed t peer) { types_into = window }

  -- it after the answer to a step of these keys
  abbrev pub answered : Tried → Typed → Peer S → Peer S
  answered answer t = put_keys (settled answer t) (window_after t.keys answer) (progress_of answer (settled answer t))

  -- It has no keys that wait: a size waits, or keys that come are dropped; or more is to be taken in.
  abbrev pub idle_at : Bool → Option (Peer S) → Option Progress
  idle_at is_through None = None
  idle_at is_through (Some peer) =
      if (is_some peer.inbox.sizing.wanted || drains peer.inbox.typed) && is_taken peer.inbox
      then Some (unless_more is_through progress.Held)
      else (if is_through then None else Some progress.Part)
