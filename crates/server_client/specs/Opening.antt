-- The connection that a peer makes, and what it sends first.
use Rattle.std.specs.declared.net.unix.UnixStream.{UnixStream}
use Rattle.std.specs.Prelude.{◌≡◌, ◌≢◌, ◌⊎◌, ◌==◌, ◌-◌, cond, List, ℕ, [], take, length, slice_index, true, false, Some}
use Rattle.std.specs.Prelude.{is_some, string_bytes}
use Rattle.attach_proto.specs.Texts.{token_of}
use Rattle.client_words.specs.Beginning.{first_message, IsFrameOf}
use Rattle.client_words.specs.declared.arguments.Arguments.{Arguments}
use Rattle.client_words.specs.declared.arguments.Subcommand.TheVariants.{Attach, Window, Ping}
use Rattle.client_peer.specs.declared.meeting.SessionMark.{SessionMark}
use Rattle.server_client.specs.Marks.{Disk, IsMarkOf}
use Rattle.server_client.specs.declared.opening.Door.{Door}

-- a file's bytes without a line feed at their end
abbrev pub line_of : List ℕ → List ℕ
line_of file = cond (slice_index file (length file - 1) == 0x0A) (take (length file - 1) file) file

-- the modes of a file that others may write
abbrev pub others_write : ℕ
others_write = 0o022

-- The token was read of this file, and others may not write it.
pub record IsTokenOf (disk : Disk) (path token : List ℕ) : Type 0 where
  pub file : List ℕ
  pub read : disk.has path file
  pub is : token_of (line_of file) ≡ Some token
  pub own : disk.has_mode path others_write false

-- the frame of the first message that the arguments mean, with the token of the file that they name; a ping has none
abbrev pub BeginsWith : Disk → Arguments → List ℕ → Type 0
BeginsWith disk a frame =
    ((a.subcommand ≡ Ping) × (frame ≡ []))
    ⊎ ((token : List ℕ) × IsTokenOf disk a.token.now token × IsFrameOf (first_message a token) frame)

-- it leads to the socket that the arguments name, and what is sent first is what they mean
pub record LeadsTo (disk : Disk) (a : Arguments) (door : Door) : Type 0 where
  pub frame : BeginsWith disk a door.frame.items
  pub socket : string_bytes door.socket ≡ a.socket.now
  pub can_leave : door.can_leave ≡ is_some a.leave

-- the first time nothing is waited for, and any session will do
abbrev pub LeadsAtOnce : Disk → Arguments → Door → Type 0
LeadsAtOnce disk a door = LeadsTo disk a door × (door.session.items ≡ []) × (door.grace ≡ 0)

-- Only a window comes back to a session by its name. A client lets windows go first, for 300 ms.
pub record LeadsBack (disk : Disk) (a : Arguments) (session : List ℕ) (door : Door) : Type 0 where
  pub leads : LeadsTo disk a door
  pub window : a.subcommand ≡ Window → door.session.items ≡ session
  pub other : (a.subcommand ≡ Window → ⊥) → door.session.items ≡ []
  pub client : a.subcommand ≡ Attach → door.grace ≡ 300
  pub soon : (a.subcommand ≡ Attach → ⊥) → door.grace ≡ 0

-- A window is at the session that it comes back to: the mark beside the socket names it, and is that of whoever made
-- the socket.
abbrev pub IsAtSession : Disk → Door → Type 0
IsAtSession disk door =
    door.session.items ≢ [] → (mark : SessionMark) × IsMarkOf disk (string_bytes door.socket) mark
    × (mark.name.items ≡ door.session.items) × (mark.is_current ≡ true)

-- the connection took the frame, or if there is none, its sending side was ended
abbrev pub Begins : Disk → List ℕ → UnixStream → Type 0
Begins disk frame stream = (frame ≡ [] → disk.ended stream) × (frame ≢ [] → disk.took stream frame)

abbrev pub IsOpened : Disk → Door → UnixStream → Type 0
IsOpened disk door stream =
    disk.reached (string_bytes door.socket) stream × IsAtSession disk door × Begins disk door.frame.items stream
