-- What the system says of files and does with connections, and the mark beside a socket.
use Rattle.std.specs.Prelude.{◌≡◌, ◌⊎◌, ℕ, ℤ, ◌<ℤ◌, ◌≤ℤ◌, Bool, false, MatchBool, List, [], ◌++◌, codes, Option, Some, None}
use Rattle.std.specs.Arc.{arc_value}
use Rattle.std.specs.declared.sync.Arc.{Arc}
use Rattle.std.specs.declared.net.unix.UnixStream.{UnixStream}
use Rattle.client_peer.specs.declared.meeting.SessionMark.{SessionMark}

-- a time, in seconds and nanoseconds, that isn't before another one
abbrev pub IsNoEarlier : (ℤ × ℤ) → (ℤ × ℤ) → Type 0
IsNoEarlier it other = (other.0 <ℤ it.0) ⊎ ((it.0 ≡ other.0) × (other.1 ≤ℤ it.1))

-- both files are there, and one was written no earlier than the other
abbrev pub IsAsNew : Option (ℤ × ℤ) → Option (ℤ × ℤ) → Type 0
IsAsNew (Some it) (Some other) = IsNoEarlier it other
IsAsNew it other = ⊥

-- What files say: whether one is there, this was read of one, nothing was, one was written at this time, if there is
-- one, and whether the mode of one has some of these bits. What was done with connections: one was made to a socket, one
-- took these bytes, the sending side of one was ended, and whether the other end of one is still there.
pub record Disk : Type 1 where
  pub stands : List ℕ → Bool → Type 0
  pub has : List ℕ → List ℕ → Type 0
  pub lacks : List ℕ → Type 0
  pub is_of : List ℕ → Option (ℤ × ℤ) → Type 0
  pub has_mode : List ℕ → ℕ → Bool → Type 0
  pub reached : List ℕ → UnixStream → Type 0
  pub took : UnixStream → List ℕ → Type 0
  pub ended : UnixStream → Type 0
  pub is_open : UnixStream → Bool → Type 0

abbrev pub anything : Disk
anything = record {
  stands = λ path is. Unit {0};
  has = λ path bytes. Unit {0};
  lacks = λ path. Unit {0};
  is_of = λ path time. Unit {0};
  has_mode = λ path mode has. Unit {0};
  reached = λ path stream. Unit {0};
  took = λ stream bytes. Unit {0};
  ended = λ stream. Unit {0};
  is_open = λ stream is. Unit {0};
}

-- whether the server is there that a connection was made to; without a connection none is
abbrev pub IsHere : {Z : Type 0} → Disk → Option (Arc UnixStream Z) → Bool → Type 0
IsHere disk (Some stream) is_here = disk.is_open (arc_value stream) is_here
IsHere disk None is_here = is_here ≡ false

-- The answer is what the times say at which two files were written.
pub record Compares (disk : Disk) (path other : List ℕ) (is_new : Bool) : Type 0 where
  pub it : Option (ℤ × ℤ)
  pub made : Option (ℤ × ℤ)
  pub path_is : disk.is_of path it
  pub other_is : disk.is_of other made
  pub says : MatchBool is_new (IsAsNew it made) (IsAsNew it made → ⊥)

-- the file that names the session which is served at a socket
abbrev pub session_file : List ℕ → List ℕ
session_file socket = socket ++ codes ".session"

-- The mark is what was read of that file of this socket. It is the server's own exactly if it was written no earlier
-- than the socket was made; one that can't be read has no name and is no server's.
pub record IsMarkOf (disk : Disk) (socket : List ℕ) (mark : SessionMark) : Type 0 where
  pub is : (disk.has (session_file socket) mark.name.items
      × Compares disk (session_file socket) socket mark.is_current)
      ⊎ (disk.lacks (session_file socket) × (mark.name.items ≡ []) × (mark.is_current ≡ false))
