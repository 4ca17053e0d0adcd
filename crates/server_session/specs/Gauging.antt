-- How large a session's trail is.
use Rattle.std.specs.Prelude.{◌≡◌, ℕ, ◌+◌, ◌-◌, ◌*◌, ◌/◌, ◌^◌, ◌&&◌, length, Option, Some, None, if◌then◌else◌}
use Rattle.std.specs.Prelude.{MatchOption, min, nat_le, nat_lt}
use Rattle.std.specs.Option.{option_or}
use Rattle.hub.specs.Seats.{Told}
use Rattle.hub.specs.Trails.{Entry}
use Rattle.hub.specs.kept.Kept.{Kept}
use Rattle.hub.specs.kept.Kept.TheVariants as kept

-- this percentage of the most, if it was passed: it hadn't been, and is now
abbrev pub if_passed : ℕ → ℕ → ℕ → ℕ → Option ℕ
if_passed before after most mark =
    if nat_le before (most / 100 * mark) && nat_lt (most / 100 * mark) after then Some mark else None

-- the first mark that was passed
abbrev pub mark_between : ℕ → ℕ → ℕ → Option ℕ
mark_between before after most =
    option_or (option_or (if_passed before after most 50) (if_passed before after most 75))
    (option_or (if_passed before after most 90) (if_passed before after most 99))

-- the bytes of an event's line or title
abbrev pub text_size : Kept → ℕ
text_size (kept.Command user window line) = length line
text_size (kept.Open user rows columns keep title) = length title
text_size other = 0

-- the bytes of an entry in memory: 128 of its own, its text, 52 for each check, and 44 for each act
abbrev pub entry_size : Entry → ℕ
entry_size e = min (128 + text_size e.event + length e.verdicts * 52 + length e.acts * 44) (2 ^ 64 - 1)

-- without memory for its copy it counts as none
abbrev pub size_if : Option Entry → ℕ
size_if None = 0
size_if (Some e) = entry_size e

-- an entry at this place was counted; a mark of 4,194,304 entries that it passed is told, else one of 2 GiB
abbrev pub Gauges : (ℕ → ℕ → Type 0) → ℕ → Option Entry → Option ℕ → Type 0
Gauges adds place entry filled = (before : ℕ) × adds (size_if entry) before
    × (filled ≡ option_or (mark_between place (min (place + 1) (2 ^ 64 - 1)) 4194304)
    (mark_between before (min (before + size_if entry) (2 ^ 64 - 1)) 2147483648))

-- the entry of a step was counted, and what that tells is told; a step without one tells nothing
abbrev pub IsGauged : (ℕ → ℕ → Type 0) → Told → Option ℕ → Type 0
IsGauged adds told filled =
    MatchOption told.place (filled ≡ None) (λ place. Gauges adds place told.entry filled)
