-- Who may do what in a session: the rules of its access lists and locks, for its owner, its edition
-- of groups and the acts of all its steps.
use Rattle.std.specs.Prelude.{ℕ, Bool, List, Option}
use Rattle.acl.specs.declared.user_id.UserId.{UserId}
use Rattle.acl.specs.declared.bits.Bit.{Bit}
use Rattle.acl.specs.declared.act.Act.{Act}
use Rattle.acl.specs.declared.act.Object.{Object}
use Rattle.acl.specs.declared.entries.NewLeader.{NewLeader}
use Rattle.acl.specs.declared.entries.AclFault.{AclFault}
use Rattle.acl.specs.History.{may, has, leaders_of}
use Rattle.acl.specs.Commands.{add_acts, group_fault}
use Rattle.writelock.specs.Holding.{holder}
use Rattle.session_model.specs.Tables.{Tables, known_users}

-- whether a user has a bit on an object: the user is the owner, or their own entry or that of one
-- of their leaders gives it
abbrev pub may_in : Tables → UserId → Bit → Object → Bool
may_in t user bit object = may t.edition t.owner t.acts user bit object

-- whether the user's own entry gives the bit
abbrev pub has_in : Tables → UserId → Bit → Object → Bool
has_in t user bit object = has t.owner t.acts user bit object

-- the user's leaders, in the order in which they became leaders of the user
abbrev pub leaders_in : Tables → UserId → List UserId
leaders_in t user = leaders_of t.edition t.acts user

-- who holds a window's write lock
abbrev pub holder_in : Tables → ℕ → Option UserId
holder_in t window = holder t.edition t.owner t.acts window

-- the acts of an acladd: every new name becomes known, and then each user is granted +rwx
abbrev pub add_acts_in : Tables → List (Option UserId) → List Object → List Act
add_acts_in t names objects = add_acts (known_users t) names objects

-- why an aclgrp is refused
abbrev pub group_fault_in : Tables → Option UserId → NewLeader → Option AclFault
group_fault_in t name leader =
    group_fault t.edition t.owner (known_users t) (leaders_in t) name leader
