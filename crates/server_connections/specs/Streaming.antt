-- How a connection is written to: what its stream holds of what was put, write after write.
use Rattle.std.specs.Prelude.{◌≡◌, ◌⊎◌, ◌<◌, ◌≤◌, ℕ, zero, suc, Bool, true, false, List, Option, Some, None, MatchOption}
use Rattle.std.specs.Prelude.{drop, if◌then◌else◌, length}
use Rattle.std.specs.declared.io.ErrorKind.{ErrorKind}
use Rattle.std.specs.declared.io.ErrorKind.TheVariants.{WouldBlock, Interrupted}
use Rattle.server_inbox.specs.Joining.{IsGathered}
use Rattle.server_inbox.specs.declared.inbox.Inbox.{Inbox}
use Rattle.server_sending.specs.Written.{IsWritten, Waiting, unbegun}
use Rattle.server_typing.specs.Typed.{expired}
use Rattle.server_connections.specs.Life.{given_up}
use Rattle.server_connections.specs.declared.peer.Peer.{Peer}
use Rattle.server_connections.specs.declared.peer.Stage.{Stage}
use Rattle.server_connections.specs.declared.peer.Stage.TheVariants as stage
use Rattle.server_connections.specs.declared.peer_stream.Arrival.{Arrival}
use Rattle.server_connections.specs.declared.peer_stream.Arrival.TheVariants as arrived
use Rattle.server_connections.specs.declared.peer_stream.Wrote.{Wrote}
use Rattle.server_connections.specs.declared.peer_stream.Wrote.TheVariants as wrote

-- it is to be closed once all was written
abbrev pub is_last : Stage → Bool
is_last stage.Ending = true
is_last stage.Cut = true
is_last other = false

-- it is to be closed once all was written, or once it takes no more
abbrev pub is_cut : Stage → Bool
is_cut stage.Cut = true
is_cut other = false

-- a stream that fails has ended, unless it only has to be asked again
abbrev pub lack_of : ErrorKind → Arrival
lack_of WouldBlock = arrived.Nothing
lack_of Interrupted = arrived.Some
lack_of _ = arrived.End

-- the same of a write
abbrev pub stop_of : ErrorKind → Wrote
stop_of WouldBlock = wrote.Full
stop_of Interrupted = wrote.Nothing
stop_of _ = wrote.Broken

-- how many bytes a write took
abbrev pub count_of : Wrote → ℕ
count_of (wrote.Some count) = count
count_of other = 0

-- what waits after this many of its bytes were written
abbrev pub sent : ℕ → Waiting → Waiting
sent count turn = record turn { unsent = drop count turn.unsent; typed = unbegun count turn.typed }

-- after a write
abbrev pub sent_by : Wrote → Waiting → Waiting
sent_by (wrote.Some count) turn = sent count turn
sent_by other turn = turn

-- another write is made after it
abbrev pub goes_on : Wrote → Bool
goes_on (wrote.Some count) = true
goes_on wrote.Nothing = true
goes_on other = false

module _ {S : Type 0} where
  -- of the bytes that were put, its stream holds those that were written; of one that was given up nothing is said
  abbrev pub IsWrittenTo : (S → Option (List ℕ)) → List ℕ → Peer S → Type 0
  IsWrittenTo holds put peer =
      MatchOption peer.stream (Unit {0}) (λ (stream : S). IsWritten put (holds stream) peer.turn)

  -- it takes no more for now, and isn't to be closed for that
  abbrev pub IsFull : Peer S → Type 0
  IsFull peer = (peer.is_full ≡ true) × (is_cut peer.stage ≡ false)

  -- if nothing waits, one that is to go is given up
  abbrev pub emptied : Peer S → Peer S
  emptied peer = if is_last peer.stage then given_up peer else peer

  -- one that takes no more waits until it does, unless it is to be closed for that
  abbrev pub filled : Peer S → Peer S
  filled peer = if is_cut peer.stage then given_up peer else peer

  -- after a write that came to this
  abbrev pub after_write : Wrote → Peer S → Peer S
  after_write wrote.Full peer = filled (record peer { is_full = true })
  after_write wrote.Broken peer = given_up peer
  after_write other peer = peer

  -- keys and sizes that come next were taken in, and then keys dropped that waited too long
  abbrev pub Gathers : ℕ → Peer S → Option Bool → Peer S → Type 0
  Gathers now old far new = (mid : Inbox)
      × IsGathered now old.inbox old.reader mid new.reader far
      × (new ≡ record old { inbox = record mid { typed = expired now mid.typed }; reader = new.reader })

-- what is written through a stream, by what that says of its writes
module _ {S : Type 0} (writes : S → List ℕ → Wrote → S → Type 0) where
  -- of one with this stream: nothing waits, or one write of what waits was made
  abbrev pub WritesTo : S → Peer S → Bool → Peer S → Type 0
  WritesTo stream old goes new =
      ((length old.turn.unsent ≡ 0) × (goes ≡ false) × (new ≡ emptied old))
      ⊎ ((0 < length old.turn.unsent) × (took : Wrote) × (left : S) × writes stream old.turn.unsent took left
      × (goes ≡ goes_on took)
      × (new ≡ after_write took (record old { stream = Some left; turn = sent_by took old.turn })))

  abbrev pub WritesOnce : Peer S → Bool → Peer S → Type 0
  WritesOnce old goes new = ((old.stream ≡ None) × (goes ≡ false) × (new ≡ old))
      ⊎ ((stream : S) × (old.stream ≡ Some stream) × WritesTo stream old goes new)

  -- this many writes were made, one after the other, and after each it may take more
  abbrev pub WritesFor : ℕ → Peer S → Peer S → Type 0
  WritesFor zero old new = new ≡ old
  WritesFor (suc count) old new = (mid : Peer S) × WritesFor count old mid × WritesOnce mid true new

  -- write after write was made, until it takes no more for now; after 2 ^ 64 - 1 of them it is given up
  abbrev pub WritesAll : Peer S → Peer S → Type 0
  WritesAll old new = (count : ℕ) × (mid : Peer S) × WritesFor count old mid
      × (WritesOnce mid false new ⊎ ((18446744073709551615 ≤ count) × (new ≡ given_up mid)))
