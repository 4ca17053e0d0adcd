-- Who types, and whether a user may type into a window.
use Rattle.std.specs.Prelude.{ℕ, Bool}
use Rattle.std.specs.List.{list_all}
use Rattle.acl.specs.declared.user_id.UserId.{UserId}
use Rattle.session_model.specs.Checks.{passes, typing_checks}
use Rattle.session_model.specs.Tables.{Tables, window_at}
pub use Rattle.session_laws.specs.Locking.{client_user}

-- all checks pass of bytes that a user types into this window
abbrev pub may_type : Tables → UserId → ℕ → Bool
may_type t user window = list_all (passes t) (typing_checks user (window_at t window))
