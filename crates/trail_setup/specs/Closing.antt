-- Closed masks: a window that is born gives nobody more than they had.
use Rattle.std.specs.Prelude.{ℕ, Bool, true, false, ◌&&◌, ◌≡◌, ◌∷◌, List}
use Rattle.std.specs.List.{list_all, AllByRecursion}
use Rattle.acl.specs.declared.act.Act.TheVariants.{Opened}
use Rattle.acl.specs.declared.act.Object.TheVariants.{Window}
use Rattle.acl.specs.declared.bits.Bit.{Bit}
use Rattle.acl.specs.declared.user_id.UserId.{UserId}
use Rattle.acl.specs.History.{History, has, is_known, mask}
use Rattle.acl.specs.Same.{same_user}

-- whether a closed mask leaves the bit: the mask does, and the user has it on each of these windows
abbrev pub closed : UserId → History → UserId → UserId → Bit → List ℕ → Bool
closed owner h by u bit windows =
    mask h by u bit && list_all (λ w. has owner h u bit (Window w)) windows

-- if the masks of `by` are the closed masks of an earlier session, a known user who gets a bit on a window
-- that `by` opens had it on each of these windows
abbrev pub BornClosed : Type 0
BornClosed =
    (owner : UserId) (h now : History) (by u : UserId) (bit : Bit) (windows : List ℕ) (w : ℕ)
    → same_user by u ≡ false → is_known owner now u ≡ true
    → mask now by u bit ≡ closed owner h by u bit windows
    → has owner (Opened by w ∷ now) u bit (Window w) ≡ true
    → AllByRecursion (λ old. has owner h u bit (Window old) ≡ true) windows
