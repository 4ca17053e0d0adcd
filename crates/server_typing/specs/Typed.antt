-- Keys of a client that wait until a step judges them. Times are in milliseconds.
use Rattle.std.specs.Prelude.{◌⊎◌, ◌≡◌, ◌==◌, ◌&&◌, ◌||◌, ◌++◌, ◌+◌, ◌-◌, ◌<◌, ℕ, Bool, true, false, not, List, []}
use Rattle.std.specs.Prelude.{length, drop, get_or, if◌then◌else◌, nat_le, nat_lt}

pub record Typed : Type 0 where
  pub keys : List ℕ
  -- no key came before this
  pub since : ℕ
  -- keys were dropped, and their user wasn't told yet
  pub lost : Bool
  -- when their user was told last
  pub told : ℕ
  -- the last step was denied, or had to wait for its user's ration
  pub denied : Bool
  -- the last read found all that was there
  pub drained : Bool
  -- when the last read was
  pub read : ℕ
  -- nothing that the last read found, or that is still to be read, came before this
  pub earliest : ℕ
  -- the window that they are for takes no more for now, so they wait as long as it takes
  pub held : Bool

abbrev pub untyped : Typed
untyped = record {
  keys = [];
  since = 0;
  lost = false;
  told = 0;
  denied = false;
  drained = true;
  read = 0;
  earliest = 0;
  held = false;
}

abbrev pub is_idle : Typed → Bool
is_idle t = length t.keys == 0

-- keys wait for this time or longer, and aren't held
abbrev pub waits : ℕ → ℕ → Typed → Bool
waits now time t = (not (is_idle t) && not t.held) && nat_le time (now - t.since)

-- none wait for a second or more, unless they are held
abbrev pub IsYoung : ℕ → Typed → Type 0
IsYoung now t = (t.held ≡ true) ⊎ ((t.keys ≡ []) ⊎ (now - t.since < 1000))

-- they are held.  Until it was read again, the socket may hold keys that are as old as these
abbrev pub holding : Typed → Typed
holding t = record t { held = true; drained = false }

-- their user may not type any more: those that were held, and those in the socket, are as old as they are
abbrev pub let_go : Typed → Typed
let_go t = if t.held then record t { held = false; denied = true } else t

-- the first of them begins a command
abbrev pub begins_command : Typed → Bool
begins_command t = get_or t.keys 0 0 == 1

-- so many more make at most one step
abbrev pub has_room : ℕ → Typed → Bool
has_room count t = nat_le (length t.keys + count) 8192

-- so many more are taken in, or dropped if the others wait for a tenth of a second; else they stay where they are
abbrev pub takes : ℕ → ℕ → Typed → Bool
takes now count t = has_room count t || waits now 100 t

-- keys come after those that wait; those that make more than one step are dropped.  After a denial they are as old as
-- they may be.
abbrev pub typed_at : ℕ → List ℕ → Typed → Typed
typed_at now bytes t =
    if has_room (length bytes) t then record t {
      keys = t.keys ++ bytes;
      since = if is_idle t then (if t.denied then t.earliest else now) else t.since;
    } else record t { lost = true }

-- all that wait for a second are dropped
abbrev pub expired : ℕ → Typed → Typed
expired now t = if waits now 1000 t then record t { keys = []; lost = true } else t

-- the first of them were judged
abbrev pub judged : ℕ → Typed → Typed
judged count t = record t { keys = drop count t.keys; held = t.held && nat_lt count (length t.keys) }

-- more is there to be read than one read finds, and what comes is denied
abbrev pub drains : Typed → Bool
drains t = t.denied && not t.drained

-- the socket is to be read: no key waits; or it drains, or a size or keys of a tenth of a second ago wait, and the last
-- read is 20 milliseconds ago
abbrev pub may_read : ℕ → Bool → Typed → Bool
may_read now sizes t =
    if (sizes || drains t) || waits now 100 t then nat_le 20 (now - t.read) else is_idle t

-- the socket was read, and may hold much more
abbrev pub after_read : ℕ → Bool → Typed → Typed
after_read now is_much t = record t {
  drained = not is_much;
  read = now;
  earliest = if t.drained then now else t.earliest;
}

-- its user is to be told that keys were dropped, at most once a second
abbrev pub is_news : ℕ → Typed → Bool
is_news now t = t.lost && nat_le 1000 (now - t.told)

abbrev pub after_news : ℕ → Typed → Typed
after_news now t = if is_news now t then record t { lost = false; told = now } else t
