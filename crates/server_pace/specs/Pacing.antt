-- When a loop's draws wait, and how long it sleeps. Times are in nanoseconds.
use Rattle.std.specs.Prelude.{◌||◌, ◌-◌, ℕ, Bool, true, false, Option, Some, None, if◌then◌else◌, is_some}
use Rattle.std.specs.Prelude.{nat_le, nat_lt}
use Rattle.std.specs.Duration.{as_nanos}
use Rattle.std.specs.declared.time.Duration.{Duration}
use Rattle.server_pace.specs.declared.pace.Pace.{Pace}

-- this time, if it is less than so many nanoseconds ago; without a clock it is over
abbrev pub within : ℕ → Option Duration → Option Duration → Option Duration
within most (Some at) (Some now) = if nat_lt (as_nanos now - as_nanos at) most then Some at else None
within most at now = None

-- when much came last: now, or less than a millisecond ago
abbrev pub much_by : Option Duration → Bool → Option Duration → Option Duration
much_by now true was = now
much_by now false was = within 1000000 was now

-- a crowd of 8 clients or more was drawn
abbrev pub drawn_by : Option Duration → ℕ → Pace → Pace
drawn_by now clients pace = if nat_le 8 clients then record pace { drawn = now } else pace

-- since when draws wait, if more may come at once: from now on, or as before for less than 20 milliseconds
abbrev pub since_by : Bool → Option Duration → Option Duration → Option Duration
since_by true now None = now
since_by true now (Some was) = within 20000000 (Some was) now
since_by false now was = None

-- while much comes to a loop, after keys were typed, whose echo may come, and for a millisecond after a crowd
abbrev pub paced : Bool → Option Duration → Bool → Pace → Pace
paced is_flooded now echo pace =
    let drawn : Option Duration = within 1000000 pace.drawn now in
    record pace {
      awaits_echo = echo;
      drawn = drawn;
      since = since_by (echo || (is_some drawn || is_flooded)) now pace.since;
    }

-- how long it sleeps at most with no more to come: until draws are due, or while other loops are flooded
abbrev pub sleep_since : Bool → ℕ → Option Duration → Option ℕ
sleep_since is_flooded now (Some since) = Some (20000000 - (now - as_nanos since))
sleep_since is_flooded now None = if is_flooded then Some 1000000 else None

abbrev pub longest_sleep : Bool → ℕ → Pace → Option ℕ
longest_sleep is_flooded now pace = if is_some pace.much || (pace.awaits_echo || is_some pace.drawn) then Some 1000000
    else sleep_since is_flooded now pace.since
