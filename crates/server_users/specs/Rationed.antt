-- Which users may cause more entries of the trail. Times are in nanoseconds.
use Rattle.std.specs.Prelude.{ℕ, ◌+◌, ◌*◌, ◌≤◌, List, [], ◌∷◌, Option, Some, None, if◌then◌else◌, max, min}
use Rattle.std.specs.Duration.{as_nanos, max_nanos}
use Rattle.acl.specs.Same.{same_user}
use Rattle.acl.specs.declared.user_id.UserId.{UserId}
use Rattle.server_users.specs.declared.ration.Ration.{Ration}

-- when the entries of a user end; none if they caused none
abbrev pub end_of : List Ration → UserId → Option ℕ
end_of [] u = None
end_of (r ∷ more) u = if same_user r.user u then Some (as_nanos r.until) else end_of more u

-- one more may come while those that are left take the time of at most 8,192
abbrev pub MayCause : ℕ → ℕ → ℕ → Type 0
MayCause now period end = end ≤ now + 8192 * period

-- more entries begin now or after those that are left, and each takes a period.  The last time is that of the clock.
abbrev pub later_end : ℕ → ℕ → ℕ → ℕ → ℕ
later_end now period entries end = min (max now end + entries * period) max_nanos
