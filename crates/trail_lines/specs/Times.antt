-- Times that run backwards.
use Rattle.std.specs.Prelude.{ℕ, ◌-◌, Bool, if◌then◌else◌, List, [], ◌∷◌, Option, Some, None, nat_lt}
use Rattle.trail_lines.specs.Entries.{Said}
use Rattle.trail_lines.specs.declared.audit.Times.{Times}

abbrev pub no_times : Times
no_times = record { last = 0; back = None }

-- a time is more than a second before the time of the entry above
abbrev pub is_back : ℕ → ℕ → Bool
is_back above ms = nat_lt 1000 (above - ms)

-- the first place that was found stays
abbrev pub back_after : Option ℕ → ℕ → Bool → Option ℕ
back_after (Some first) place is = Some first
back_after None place is = if is then Some place else None

abbrev pub time_after : Times → ℕ → ℕ → Times
time_after t place ms = record {
  last = ms;
  back = back_after t.back place (is_back t.last ms);
}

-- after these entries: the time of the last one, and the place of the first entry whose time is more
-- than a second before that of the entry above
abbrev pub times_after : Times → List Said → Times
times_after t [] = t
times_after t (x ∷ said) = times_after (time_after t x.0 x.1) said

abbrev pub times_of : List Said → Times
times_of said = times_after no_times said
