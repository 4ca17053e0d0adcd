-- What a peer does next.
use Rattle.std.specs.Prelude.{◌≡◌, ◌⊎◌, ◌<◌, ◌≤◌, ◌-◌, ◌*◌, ◌==◌, ℕ, true, false, [], if◌then◌else◌, Option, None, Some}
use Rattle.std.specs.Prelude.{Result, Ok, Err, IsSome, IsSomeAnd}
use Rattle.client_words.specs.declared.arguments.Subcommand.TheVariants.{Attach, Window, Command, Ping}
use Rattle.client_words.specs.declared.fault.PeerFault.{PeerFault}
use Rattle.client_words.specs.declared.fault.PeerFault.TheVariants.{NoAnswer}
use Rattle.client_words.specs.declared.leaving.InputStage.{InputStage}
use Rattle.client_words.specs.declared.leaving.InputStage.TheVariants.{Reading, Waiting, Left}
use Rattle.client_notice.specs.Notices.{IsToShow}
use Rattle.client_typing.specs.Following.{Rests, stage_of}
use Rattle.client_peer.specs.declared.looking.PeerTask.{PeerTask}
use Rattle.client_peer.specs.declared.looking.PeerTask.TheVariants as task
use Rattle.client_peer.specs.declared.peer.Peer.{Peer}
use Rattle.client_peer.specs.Returning.{GivesUp, IsOver}
use Rattle.client_peer.specs.Sending.{MaySend}

-- an answer is waited for, but not without limit
abbrev pub IsAsked : Peer → Type 0
IsAsked p = ((p.subcommand ≡ Command) ⊎ (p.subcommand ≡ Ping)) × (0 < p.times.wait)

-- something is due after a time
abbrev pub IsDue : Peer → Type 0
IsDue p =
    IsToShow p.notice.stage ⊎ (IsSome p.times.paired ⊎ (IsSome p.loss
    ⊎ (((p.times.wants_fit ≡ true) × Rests p.typing)
    ⊎ ((IsSome p.typing.leave × (p.times.has_begun ≡ false)) ⊎ IsAsked p))))

-- the user left, or the peer doesn't come back
abbrev pub IsOut : Peer → Type 0
IsOut p = IsSome p.times.left_at ⊎ (p.is_final ≡ true)

-- Nothing is to be done: an end is waited for, or no frame may be sent and no window opened again.
abbrev pub IsIdle : Peer → Type 0
IsIdle p =
    (IsSome p.end × IsOut p)
    ⊎ ((p.end ≡ None) × (MaySend p → ⊥) × (p.times.left_at ≡ None → p.is_reopening ≡ false))

-- The byte that leaves came before another one, or alone: nothing was read since, for 250 ms.
abbrev pub IsToLeave : Peer → ℕ → Type 0
IsToLeave p now =
    (stage_of p.typing.leave ≡ Left)
    ⊎ ((stage_of p.typing.leave ≡ Waiting)
    × IsSomeAnd p.times.paired (λ pair. (pair.1 ≡ p.typing.reads) × (250 ≤ now - pair.0)))

-- when the byte that leaves was seen first, and as which read
abbrev pub seen : Option (ℕ × ℕ) → ℕ → ℕ → Option (ℕ × ℕ)
seen None reads now = Some (now, reads)
seen (Some pair) reads now = if pair.1 == reads then Some pair else Some (now, reads)

abbrev pub kept_of : InputStage → Option (ℕ × ℕ) → Option (ℕ × ℕ)
kept_of Reading pair = None
kept_of other pair = pair

abbrev pub paired_after : Peer → ℕ → Option (ℕ × ℕ)
paired_after p now = kept_of (stage_of p.typing.leave) (seen p.times.paired p.typing.reads now)

-- The user leaves exactly if the byte that leaves says so. What is typed later is left out.
pub record MayLeave (old : Peer) (now : ℕ) (new : Peer) : Type 0 where
  pub left : IsSome old.times.left_at → new ≡ old
  pub leaves : old.times.left_at ≡ None → IsToLeave old now
      → (new.times.left_at ≡ Some now) × (stage_of new.typing.leave ≡ Left)
  pub stays : old.times.left_at ≡ None → (IsToLeave old now → ⊥)
      → new ≡ record old { times = record old.times { paired = paired_after old now } }

-- the same of all that a look does
pub record LeavesInTime (old : Peer) (now : ℕ) (new : Peer) : Type 0 where
  pub left : IsSome old.times.left_at → new.times.left_at ≡ old.times.left_at
  pub leaves : old.times.left_at ≡ None → IsToLeave old now
      → (new.times.left_at ≡ Some now) × (stage_of new.typing.leave ≡ Left)
  pub stays : old.times.left_at ≡ None → (IsToLeave old now → ⊥) → (new.times.left_at ≡ None)
      × (new.times.paired ≡ paired_after old now) × (new.typing.leave ≡ old.typing.leave)

-- standard input may be read: a client's or a window's, once it is let in, or after 50 ms if the user can leave
abbrev pub MayBegin : Peer → ℕ → Type 0
MayBegin p now =
    ((p.subcommand ≡ Attach) ⊎ (p.subcommand ≡ Window))
    × ((p.is_welcome ≡ true) ⊎ (IsSome p.typing.leave × (50 ≤ now)))

-- Standard input is begun as soon as it may be, and once.
pub record BeginsInTime (old : Peer) (now : ℕ) (next : Result PeerTask PeerFault) (new : Peer) : Type 0 where
  pub once : next ≡ Ok task.Begin → old.times.has_begun ≡ false
  pub soon : new.end ≡ None → new.times.left_at ≡ None → MayBegin new now → new.times.has_begun ≡ true
  pub rest : (next ≡ Ok task.Begin → ⊥) → new.times.has_begun ≡ old.times.has_begun

-- an answer was waited for too long
abbrev pub IsLate : Peer → ℕ → Type 0
IsLate p now = IsAsked p × (p.times.wait * 1000 ≤ now)

-- As time goes by a peer ends by a loss that it gives up, or for want of an answer, and in no other way.
pub record EndsInTime (old : Peer) (now : ℕ) (new : Peer) : Type 0 where
  pub end : (new.end ≡ old.end)
      ⊎ ((GivesUp old now × (new.end ≡ old.loss)) ⊎ (IsLate old now × (new.end ≡ Some (Err NoAnswer))))
  pub final : new.is_final ≡ true → (old.is_final ≡ true) ⊎ IsOver old now
  pub lasts : old.is_final ≡ true → new.is_final ≡ true
  pub over : new.times.left_at ≡ None → IsOver old now → (new.is_final ≡ true) × (new.end ≡ old.loss)
  pub late : new.times.left_at ≡ None → IsLate old now → IsSome new.end

-- a peer whose user leaves, perhaps
abbrev pub leaving : Peer → Peer → Peer
leaving old new = record old {
  frames = new.frames;
  typing = record old.typing { leave = new.typing.leave };
  times = record old.times { paired = new.times.paired; left_at = new.times.left_at };
}

-- a peer that acts of its own, perhaps
abbrev pub acting : Peer → Peer → Peer
acting old new = record old {
  frames = new.frames;
  bytes = new.bytes;
  typing = new.typing;
  notice = new.notice;
  times = record old.times {
    has_begun = new.times.has_begun;
    has_typed = new.times.has_typed;
    wants_fit = new.times.wants_fit;
    fit_at = new.times.fit_at;
  };
}

abbrev pub unbegun : Peer → Peer → Peer
unbegun old new = record new { times = record new.times { has_begun = old.times.has_begun } }

-- a peer with what time may have changed of it
abbrev pub in_time : Peer → Peer → Peer
in_time old new = record old {
  frames = new.frames;
  bytes = new.bytes;
  typing = new.typing;
  notice = new.notice;
  times = record new.times { again = old.times.again; wait = old.times.wait; lost_at = old.times.lost_at };
  is_final = new.is_final;
  end = new.end;
}

-- all that waits for standard output and for the sizes' file is written
abbrev pub IsWritten : Peer → Type 0
IsWritten p = (p.is_writing ≡ false) × (p.bytes.items ≡ []) × (p.sizes.items ≡ [])

-- A peer is done once its output is written; without a server it doesn't wait for that, and a window waits for 500 ms.
-- A user who left waits for 100 ms, as long as the server is there.
abbrev pub IsDone : Peer → ℕ → Type 0
IsDone p now =
    IsSomeAnd p.times.left_at (λ left. IsSome p.end ⊎ (IsSome p.loss ⊎ (100 ≤ now - left)))
    ⊎ (IsSome p.end × (p.is_final ≡ true)
    × (IsWritten p ⊎ (IsSome p.loss
    ⊎ ((p.subcommand ≡ Window) × IsSomeAnd p.times.ended_at (λ ended. 500 ≤ now - ended)))))

-- when a task is the next one
abbrev pub DoesNext : Peer → ℕ → PeerTask → Type 0
DoesNext p now task.Wait =
    IsIdle p × (IsDone p now → ⊥) × (p.times.left_at ≡ None) × (p.end ≡ None → IsDue p → ⊥)
    × (IsSome p.end → p.subcommand ≡ Window → ⊥)
DoesNext p now task.WaitShortly = IsIdle p × (IsDone p now → ⊥)
DoesNext p now task.Begin = (p.end ≡ None) × (p.times.left_at ≡ None) × (p.times.has_begun ≡ true) × MayBegin p now
DoesNext p now task.Reopen = (p.end ≡ None) × (p.times.left_at ≡ None) × (p.is_reopening ≡ true)
DoesNext p now task.Send = MaySend p × (p.end ≡ None) × (IsDone p now → ⊥)
DoesNext p now task.Ask = IsSome p.end × (p.times.left_at ≡ None) × (p.is_final ≡ false)
DoesNext p now task.End = IsDone p now
