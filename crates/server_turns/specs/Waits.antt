-- How long a loop waits, and for how many strangers.
use Rattle.std.specs.Prelude.{ℕ, ◌-◌, ◌/◌, Bool, true, false, Option, Some, None, if◌then◌else◌, max, min, nat_le}
use Rattle.server_steps.specs.declared.turns.Pending.{Pending}
use Rattle.server_steps.specs.declared.turns.Pending.TheVariants as pending

-- the peers have had two seconds to read that the server ends, or a hundred looks without a clock
abbrev pub is_late : Option ℕ → Option ℕ → ℕ → Bool
is_late (Some began) (Some now) looks = nat_le 2000000000 (now - began)
is_late _ _ looks = nat_le 100 looks

-- whether a loop has something to do, to try again, or to wait for within a time limit
abbrev pub wants : Pending → Bool × Bool × Bool
wants pending.Work = (true, false, false)
wants pending.Retry = (false, true, false)
wants pending.Patience = (false, false, true)
wants pending.Nothing = (false, false, false)

-- the nanoseconds that a loop sleeps at most: none with work, not beyond the time at which draws and other loops want
-- a look, and else until what was refused is tried again, or connections used up their time
abbrev pub sleep_for : Bool → Bool → Bool → Option ℕ → Option ℕ
sleep_for true retries waits longest = Some 0
sleep_for false retries waits (Some longest) = Some longest
sleep_for false true waits None = Some 20000000
sleep_for false false waits None = if waits then Some 1000000000 else None

-- how many connections of a loop may wait for their first message: 256 by all loops together, but one at least; of
-- those that aren't to stay one
abbrev pub most_new : ℕ → Bool → ℕ
most_new loops true = 1
most_new loops false = 256 / min 256 (max 1 loops)
