-- Which acts may follow which.
use Rattle.std.specs.Prelude.{ℕ, Bool, true, not, nat_lt, ◌&&◌, ◌||◌, ◌==◌, ◌≡◌}
use Rattle.std.specs.Prelude.{List, [], ◌∷◌, Option, Some, None, is_none}
use Rattle.std.specs.List.{list_any}
use Rattle.acl.specs.declared.act.Act.{Act}
use Rattle.acl.specs.declared.act.Act.TheVariants as act
use Rattle.acl.specs.declared.act.Object.TheVariants.{Window}
use Rattle.acl.specs.declared.bits.Bit.TheVariants.{Write}
use Rattle.acl.specs.declared.leaders.Edition.{Edition}
use Rattle.acl.specs.declared.entries.NewLeader.{NewLeader}
use Rattle.acl.specs.declared.entries.NewLeader.TheVariants.{Nobody, Named}
use Rattle.acl.specs.declared.user_id.UserId.{UserId}
use Rattle.acl.specs.slots.TheConstants.{WINDOWS}
use Rattle.acl.specs.Commands.{new_name_fault, known_name_fault, group_fault}
use Rattle.acl.specs.History.{History, is_known, is_open, open_count, there, may, users_of, among, leaders_of}
use Rattle.writelock.specs.Holding.{is_off, clients_of}

abbrev pub leader_in : Option UserId → NewLeader
leader_in None = Nobody
leader_in (Some u) = Named (Some u)

-- whether a client with this serial is attached
abbrev pub is_client : History → ℕ → Bool
is_client h client = list_any (λ c. c.0 == client) (clients_of h)

-- whether the act may come after these: a list command with one name does it, a known user opens a
-- window that isn't open, a client attaches that isn't attached, or a lock is of an open window
abbrev pub can_follow : Edition → UserId → History → Act → Bool
can_follow edition owner h (act.Known u) =
    not (among (users_of owner h) u)
    && is_none (new_name_fault owner (users_of owner h) (Some u))
can_follow edition owner h (act.Gone u) =
    is_none (known_name_fault owner (users_of owner h) (Some u))
can_follow edition owner h (act.Set u bit object value) =
    is_none (known_name_fault owner (users_of owner h) (Some u)) && there h object
can_follow edition owner h (act.Grouped u leader) =
    is_none (group_fault edition owner (users_of owner h) (leaders_of edition h) (Some u)
    (leader_in leader))
can_follow edition owner h (act.Masked by u bit value) =
    is_none (known_name_fault owner (users_of owner h) (Some u))
can_follow edition owner h (act.Opened by w) =
    is_known owner h by && (not (is_open h w) && nat_lt (open_count h) WINDOWS)
can_follow edition owner h (act.Attached client user) = not (is_client h client)
can_follow edition owner h (act.Entered u w) = is_open h w
can_follow edition owner h (act.Mode by w mode) =
    is_open h w && (is_off mode || may edition owner h by Write (Window w))
can_follow edition owner h a = true

-- each of these acts may come after the acts before it
abbrev pub CanFollow : Edition → UserId → History → List Act → Type 0
CanFollow edition owner h [] = Unit {0}
CanFollow edition owner h (a ∷ acts) =
    (can_follow edition owner h a ≡ true) × CanFollow edition owner (a ∷ h) acts
