-- What a message of a connection means to a loop.
use Rattle.std.specs.Prelude.{ℕ, Bool, true, false, List, Option, Some, None, Ok, Err, codes, nat_le}
use Rattle.attach_proto.specs.declared.message.Message.{Message}
use Rattle.attach_proto.specs.declared.message.Message.TheVariants as message
use Rattle.session.specs.Trace.{EventValue, Attach, Command, Open, Reply}
use Rattle.session.specs.event.Done.{Done}
use Rattle.server_connections.specs.declared.peer.Peer.{Peer}
use Rattle.server_connections.specs.declared.peer.Role.{Role}
use Rattle.server_connections.specs.declared.peer.Role.TheVariants as role
use Rattle.server_seat.specs.declared.news.Guest.{Guest}
use Rattle.server_seat.specs.declared.news.News.{News}
use Rattle.server_seat.specs.declared.news.News.TheVariants as news
use Rattle.server_seat.specs.declared.seat.GuestKind.{GuestKind}
use Rattle.server_seat.specs.declared.seat.GuestKind.TheVariants as kind
use Rattle.server_users.specs.Entries.{Entry}
use Rattle.server_users.specs.declared.user.Shown.{Shown}
use Rattle.server_steps.specs.declared.meaning.Meaning.{Meaning}
use Rattle.server_steps.specs.declared.meaning.Meaning.TheVariants as meaning

-- what a message is, by what its connection is to the session
abbrev pub meaning_of : Role → Message → Meaning
meaning_of role.Stranger m = meaning.First
meaning_of (role.Window window) (message.Output bytes) = meaning.Output window
meaning_of (role.Window window) message.Detach = meaning.Leave
meaning_of (role.Client client) message.Detach = meaning.Leave
meaning_of role m = meaning.Misfit

-- ---- first messages

-- the user's name and the token that a first message shows
abbrev pub shown_in : Message → Option Entry
shown_in (message.Attach rows columns token name) = Some (record { name = name; token = token })
shown_in (message.Window rows columns keep token name title) = Some (record { name = name; token = token })
shown_in (message.Command window token name line) = Some (record { name = name; token = token })
shown_in other = None

-- the event that it means for the user who showed them
abbrev pub event_of : Shown → Message → Option EventValue
event_of shown (message.Attach rows columns token name) = Some (Attach shown.user rows columns)
event_of shown (message.Window rows columns keep token name title) =
    Some (Open shown.user rows columns keep title)
event_of shown (message.Command window token name line) = Some (Command shown.user window line)
event_of shown other = None

-- what its connection asks to become; None for a command
abbrev pub kind_of : Message → Option GuestKind
kind_of (message.Attach rows columns token name) = Some kind.Client
kind_of (message.Window rows columns keep token name title) = Some kind.Window
kind_of other = None

-- what the session made of it
abbrev pub role_of : GuestKind → Done → Role
role_of kind.Client done = role.Client done.made
role_of kind.Window done = role.Window done.made

-- a client is known by its serial, a window by its number
abbrev pub guest_of : GuestKind → Shown → Done → Guest
guest_of kind.Client shown done = record { kind = kind.Client; user = shown.user; number = done.made }
guest_of kind.Window shown done = record { kind = kind.Window; user = shown.user; number = done.number }

-- the first words of what a user is told who has as many as a user may have
abbrev pub many_of : GuestKind → List ℕ
many_of kind.Client = codes "too many clients of "
many_of kind.Window = codes "too many windows of "

-- what the log is told of a user's command
abbrev pub news_of : Shown → Reply → News
news_of shown (Ok done) = news.Done shown.user
news_of shown (Err refusal) = news.Refused shown.user

-- the look was that one or an earlier one
abbrev pub came_before : ℕ → Option ℕ → Bool
came_before looked None = false
came_before looked (Some look) = nat_le look looked

module _ {S : Type 0} where
  -- what the connection of a key is to the session
  abbrev pub role_at : Option (Peer S) → Role
  role_at None = role.Stranger
  role_at (Some peer) = peer.role

  -- the users' file was looked at since its first message came, or nobody looks
  abbrev pub may_judge : Option ℕ → Option (Peer S) → Bool
  may_judge None peer = true
  may_judge (Some looked) None = false
  may_judge (Some looked) (Some peer) = came_before looked peer.look

  -- it was taken in though no more are to stay
  abbrev pub is_extra_at : Option (Peer S) → Bool
  is_extra_at None = false
  is_extra_at (Some peer) = peer.is_extra

  -- it is a guest of this user, and this to the session
  abbrev pub joined : Shown → Role → Guest → Peer S → Peer S
  joined shown role guest peer = record peer { user = Some shown; role = role; guest = Some guest }
