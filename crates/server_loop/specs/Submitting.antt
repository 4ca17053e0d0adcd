-- What a loop submits.
use Rattle.std.specs.Prelude.{◌≡◌, ℕ, Bool, true, List, Option, Result, vec_len}
use Rattle.std.specs.declared.time.Duration.{Duration}
use Rattle.acl.specs.declared.user_id.UserId.{UserId}
use Rattle.slab.specs.Slab.{get}
use Rattle.session.specs.Trace.{EventValue}
use Rattle.server_connections.specs.Changing.{changed}
use Rattle.server_connections.specs.declared.connections.Connections.{Connections}
use Rattle.server_connections.specs.declared.peer.Peer.{Peer}
use Rattle.server_seat.specs.declared.news.News.{News}
use Rattle.server_seat.specs.declared.seat.GuestKind.{GuestKind}
use Rattle.server_seat.specs.declared.seat.SeatAnswer.{SeatAnswer}
use Rattle.server_seat.specs.declared.seat.SeatFault.{SeatFault}
use Rattle.server_seat.specs.declared.seat.ServerEnd.{ServerEnd}
use Rattle.server_seat.specs.declared.seat.SessionSeat.{Ghosts as Calls}
use Rattle.server_steps.specs.Ending.{end_by}
use Rattle.server_steps.specs.Submitted.{noted}
use Rattle.server_steps.specs.Telling.{filled_by, with_any, with_news}
use Rattle.server_steps.specs.declared.submitted.Submitted.{Submitted}
use Rattle.server_users.specs.Entries.{Entry}
use Rattle.server_users.specs.declared.ration.Rations.{Rations}
use Rattle.server_loop.specs.declared.own.Drawn.{Drawn}
use Rattle.server_loop.specs.declared.own.Loop.{Loop}

-- what the session answers
abbrev pub Answer : Type 0
Answer = Result SeatAnswer SeatFault

-- what a loop has of the session, its connections, the users' file, the time, what it counts, and what it still has to
-- do
pub record State (S J : Type 0) : Type 0 where
  pub seat : J
  pub connections : Connections S
  pub users : Option (List Entry)
  pub looked : Option ℕ
  pub rations : Rations
  pub now : Duration
  -- so many bytes a read takes at most
  pub room : ℕ
  pub has_typed : Bool
  pub has_much : Bool
  pub output_left : ℕ
  pub next : ℕ
  pub submitted : Submitted
  pub is_behind : Bool
  pub has_refused : Bool
  pub draws : Drawn
  pub may_have_lost : Bool
  pub end : Option ServerEnd
  -- what is to be told to the log
  pub news : List News

abbrev pub state_of : {S G J : Type 0} → Loop S G J → State S J
state_of own = record {
  seat = own.seat;
  connections = own.connections;
  users = own.users;
  looked = own.looked;
  rations = own.rations;
  now = own.now;
  room = vec_len own.reading.buffer;
  has_typed = own.reading.has_typed;
  has_much = own.reading.has_much;
  output_left = own.reading.output_left;
  next = own.reading.next;
  submitted = own.submitted;
  is_behind = own.is_behind;
  has_refused = own.has_refused;
  draws = own.draws;
  may_have_lost = own.may_have_lost;
  end = own.end;
  news = own.news;
}

module _ {S J : Type 0} where
  -- its peer
  abbrev pub peer_at : ℕ → State S J → Option (Peer S)
  peer_at key s = get s.connections.peers key

  -- the connection of a key is changed, and nothing else
  abbrev pub with_peer : (Peer S → Peer S) → ℕ → State S J → State S J
  with_peer change key s = record s { connections = changed change key s.connections }

  -- this is to be told to the log
  abbrev pub told : News → State S J → State S J
  told one s = record s { news = with_news one s.news }

  -- after a step with this event: effects may wait, and how full the trail is, is told if it is news
  abbrev pub after_step : EventValue → Answer → J → State S J → State S J
  after_step event answer seat s = record s {
    seat = seat;
    submitted = noted event s.submitted;
    is_behind = true;
    end = end_by answer s.end;
    news = with_any (filled_by answer) s.news;
  }

  -- one guest of a user was counted less, and nothing else changed
  abbrev pub CountsOff : Calls J → UserId → GuestKind → State S J → State S J → Type 0
  CountsOff calls user kind old new =
      calls.uncounts old.seat user kind new.seat × (new ≡ record old { seat = new.seat })

  -- one step was made, with this event; no connection changed
  abbrev pub Submits : Calls J → EventValue → State S J → Answer → State S J → Type 0
  Submits calls event old answer new =
      calls.submits old.seat event answer new.seat × (new ≡ after_step event answer new.seat old)
