-- Who holds the write lock of a window, by the acts of a history. The entries of the GNU Screen
-- manual are writelock and defwritelock. When entering a window takes its lock, and what frees the
-- lock, are this project's own rules.
use Rattle.std.specs.Prelude.{ℕ, Bool, true, false, not, ◌||◌, ◌&&◌, ◌==◌, List, [], ◌∷◌, Option}
use Rattle.std.specs.Prelude.{Some, None, filter, is_none, if◌then◌else◌}
use Rattle.std.specs.List.{list_any}
use Rattle.acl.specs.Same.{same_user}
use Rattle.acl.specs.History.{History, may, decided, latest}
use Rattle.acl.specs.declared.user_id.UserId.{UserId}
use Rattle.acl.specs.declared.leaders.Edition.{Edition}
use Rattle.acl.specs.declared.bits.Bit.TheVariants.{Write}
use Rattle.acl.specs.declared.act.Object.TheVariants.{Window}
use Rattle.acl.specs.declared.act.LockMode.{LockMode}
use Rattle.acl.specs.declared.act.LockMode.TheVariants.{Off, Auto, On}
use Rattle.acl.specs.declared.act.Act.{Act}
use Rattle.acl.specs.declared.act.Act.TheVariants.{Gone, Set, Opened, Closed, Attached, Parted}
use Rattle.acl.specs.declared.act.Act.TheVariants.{Entered, Left, Mode, Default}

abbrev pub is_off : LockMode → Bool
is_off Off = true
is_off Auto = false
is_off On = false

abbrev pub is_auto : LockMode → Bool
is_auto Off = false
is_auto Auto = true
is_auto On = false

abbrev pub is_on : LockMode → Bool
is_on Off = false
is_on Auto = false
is_on On = true

abbrev pub decides_default : Act → Option LockMode
decides_default (Default mode) = Some mode
decides_default _ = None

-- defwritelock: the mode of windows that open from now on
abbrev pub default_of : History → LockMode
default_of h = latest decides_default Off h

-- writelock: the mode of a window
abbrev pub mode_after : Act → History → ℕ → LockMode → LockMode
mode_after (Mode by v mode) h w before = if v == w then mode else before
mode_after (Opened by v) h w before = if v == w then default_of h else before
mode_after _ h w before = before

abbrev pub mode_of : History → ℕ → LockMode
mode_of [] w = Off
mode_of (a ∷ h) w = mode_after a h w (mode_of h w)

-- the attached clients, with their users
abbrev pub clients_after : Act → List (ℕ × UserId) → List (ℕ × UserId)
clients_after (Attached client user) before = (client, user) ∷ before
clients_after (Parted client) before = filter (λ c. not (c.0 == client)) before
clients_after _ before = before

abbrev pub clients_of : History → List (ℕ × UserId)
clients_of [] = []
clients_of (a ∷ h) = clients_after a (clients_of h)

abbrev pub has_client : History → UserId → Bool
has_client h u = list_any (λ c. same_user c.1 u) (clients_of h)

-- whether u has a client, and has none after this client goes
abbrev pub loses_last : History → ℕ → UserId → Bool
loses_last h client u = has_client h u && not (has_client (Parted client ∷ h) u)

-- whether an act by itself, coming after the history h, releases the lock that u holds on w
abbrev pub ends : Act → History → UserId → ℕ → Bool
ends (Mode by v mode) h u w = v == w && is_off mode
ends (Left v x) h u w = same_user v u && x == w && is_auto (mode_of h w)
ends (Set v Write (Window x) false) h u w = same_user v u && x == w
ends (Gone v) h u w = same_user v u
ends (Parted client) h u w = loses_last h client u
ends (Closed x) h u w = x == w
ends _ h u w = false

-- whether an act releases the lock: it does so by itself, or u may not write after it
abbrev pub releases : Edition → UserId → Act → History → UserId → ℕ → Bool
releases edition owner a h u w = ends a h u w || not (may edition owner (a ∷ h) u Write (Window w))

-- the user to whom an act after h gives the lock of w; `held` is the holder before the act
abbrev pub given : Edition → UserId → Act → History → ℕ → Option UserId → Option UserId
given edition owner (Mode by v mode) h w held = decided (v == w && not (is_off mode)) by
given edition owner (Opened by v) h w held = decided (v == w && is_on (default_of h)) by
given edition owner (Entered u v) h w held =
    decided
    (v == w && is_auto (mode_of h w) && is_none held && may edition owner h u Write (Window w))
    u
given edition owner _ h w held = None

-- the holder after an act: the user whom it gives the lock, or the former holder, if it doesn't
-- release their lock
abbrev pub kept : Edition → UserId → Act → History → ℕ → Option UserId → Option UserId
kept edition owner a h w None = None
kept edition owner a h w (Some u) = if releases edition owner a h u w then None else Some u

abbrev pub or_else : Option UserId → Option UserId → Option UserId
or_else (Some u) held = Some u
or_else None held = held

-- the holder of w: the user to whom an act gave the lock, if no act released it since
abbrev pub holder : Edition → UserId → History → ℕ → Option UserId
holder edition owner [] w = None
holder edition owner (a ∷ h) w =
    or_else
    (given edition owner a h w (holder edition owner h w))
    (kept edition owner a h w (holder edition owner h w))
