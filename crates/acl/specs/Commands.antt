-- The list commands of the GNU Screen manual (acladd, aclchg, acldel, aclgrp, aclumask): the fault
-- that refuses a command, which is the first from the left, and the acts of a command that is done.
-- A name is `None` if its word is no name.
use Rattle.std.specs.Prelude.{◌≡◌, ◌≤◌, Bool, true, false, not, ◌||◌, ◌&&◌, nat_lt, nat_le, List, [], ◌∷◌, ◌++◌, Option}
use Rattle.std.specs.Prelude.{Some, None, Result, Ok, Err, map, length, if◌then◌else◌}
use Rattle.std.specs.Option.{option_or}
use Rattle.acl_words.specs.Same.{same_user}
pub use Rattle.acl_words.specs.Faults.{number_of_fault}
use Rattle.acl_words.specs.declared.slots.TheConstants.{USERS}
use Rattle.acl.specs.History.{History, is_known, among, there, leaders_of, leaders_with}
use Rattle.acl_words.specs.declared.user_id.UserId.{UserId}
use Rattle.acl_words.specs.declared.bits.Bit.{Bit}
use Rattle.acl_words.specs.declared.bits.Bit.TheVariants.{Read, Write, Execute}
use Rattle.acl_words.specs.declared.bits.BitChange.{BitChange}
use Rattle.acl_words.specs.declared.act.Object.{Object}
use Rattle.acl_words.specs.declared.act.Act.{Act}
use Rattle.acl_words.specs.declared.act.Act.TheVariants.{Known, Gone, Set, Grouped, Masked, Preset, Attached, Parted}
use Rattle.acl_words.specs.declared.act.Act.TheVariants.{Entered, Left, Mode, Default}
use Rattle.acl_words.specs.declared.entries.AclFault.{AclFault}
use Rattle.acl_words.specs.declared.entries.AclFault.TheVariants.{UnknownUser, OwnerKept, TooManyUsers, ReservedName}
use Rattle.acl_words.specs.declared.entries.AclFault.TheVariants.{NoSuchGroup, NoMemory, TooManyGroups}
use Rattle.acl_words.specs.declared.leaders.Edition.{Edition}
use Rattle.acl_words.specs.declared.entries.NewLeader.{NewLeader}
use Rattle.acl_words.specs.declared.entries.NewLeader.TheVariants.{Nobody, Named}
use Rattle.acl_words.specs.declared.entries.MaskEntry.{MaskEntry}
use Rattle.acl_words.specs.declared.entries.MaskScope.{MaskScope}
use Rattle.acl_words.specs.declared.entries.MaskScope.TheVariants as scope

-- the result is the fault, if there is one; else it is Ok, or NoMemory
abbrev pub Answers : {X : Type 0} → Result X AclFault → Option AclFault → Type 0
Answers (Ok x) fault = fault ≡ None
Answers (Err NoMemory) fault = Unit {0}
Answers (Err f) fault = fault ≡ Some f

-- the list of acts begins with the old list; acts may have been added at its end
abbrev pub Keeps : List Act → List Act → Type 0
Keeps before after = (more : List Act) × (after ≡ before ++ more)

-- the user whom a word names, not the owner
abbrev pub new_name : UserId → Option UserId → Result UserId AclFault
new_name owner None = Err ReservedName
new_name owner (Some u) = if same_user owner u then Err OwnerKept else Ok u

-- whether a word names the user
abbrev pub names_user : UserId → Option UserId → Bool
names_user u None = false
names_user u (Some v) = same_user u v

-- acladd, aclchg: why a name can't become known
abbrev pub new_name_fault : UserId → List UserId → Option UserId → Option AclFault
new_name_fault owner users None = Some ReservedName
new_name_fault owner users (Some u) =
    if same_user owner u then Some OwnerKept
    else (if among users u || nat_lt (length users) USERS then None else Some TooManyUsers)

-- the known users, after those whom the name adds are known
abbrev pub with_name : List UserId → Option UserId → List UserId
with_name users None = users
with_name users (Some u) = if among users u then users else users ++ u ∷ []

-- the known users, after those of each of these names are known
abbrev pub with_names : List UserId → List (Option UserId) → List UserId
with_names users [] = users
with_names users (name ∷ names) = with_names (with_name users name) names

abbrev pub change_fault : UserId → List UserId → List (Option UserId) → Option AclFault
change_fault owner users [] = None
change_fault owner users (name ∷ names) =
    option_or (new_name_fault owner users name) (change_fault owner (with_name users name) names)

-- the acts that set a user's bits on one object, in the order in which they are written
abbrev pub sets_on : UserId → List BitChange → Object → List Act
sets_on u changes object = map (λ change. Set u change.bit object change.value) changes

-- the acts that set a user's bits, object by object
abbrev pub sets : UserId → List BitChange → List Object → List Act
sets u changes [] = []
sets u changes (object ∷ objects) = sets_on u changes object ++ sets u changes objects

-- the acts for one user; a name that isn't known becomes known first
abbrev pub user_acts : Bool → UserId → List BitChange → List Object → List Act
user_acts true u changes objects = sets u changes objects
user_acts false u changes objects = Known u ∷ sets u changes objects

abbrev pub name_acts : List UserId → Option UserId → List BitChange → List Object → List Act
name_acts users None changes objects = []
name_acts users (Some u) changes objects = user_acts (among users u) u changes objects

-- the acts of a change of bits, user by user
abbrev pub change_acts : List UserId → List (Option UserId) → List BitChange → List Object
    → List Act
change_acts users [] changes objects = []
change_acts users (name ∷ names) changes objects =
    name_acts users name changes objects ++ change_acts (with_name users name) names changes objects

-- acladd: the act by which a name that isn't known becomes known
abbrev pub new_acts : List UserId → Option UserId → List Act
new_acts users None = []
new_acts users (Some u) = if among users u then [] else Known u ∷ []

abbrev pub known_acts : List UserId → List (Option UserId) → List Act
known_acts users [] = []
known_acts users (name ∷ names) = new_acts users name ++ known_acts (with_name users name) names

-- acladd: what each name is granted, which is +rwx
abbrev pub added : List BitChange
added =
    record { bit = Read; value = true }
    ∷ record { bit = Write; value = true }
    ∷ record { bit = Execute; value = true }
    ∷ []

abbrev pub name_sets : List BitChange → List Object → Option UserId → List Act
name_sets changes objects None = []
name_sets changes objects (Some u) = sets u changes objects

-- acladd: the acts that grant these bits, user by user
abbrev pub names_sets : List Object → List (Option UserId) → List Act
names_sets objects [] = []
names_sets objects (name ∷ names) = name_sets added objects name ++ names_sets objects names

abbrev pub add_acts : List UserId → List (Option UserId) → List Object → List Act
add_acts users names objects = known_acts users names ++ names_sets objects names

-- acldel, aclgrp, aclumask: the fault of a name that must be known
abbrev pub known_name_fault : UserId → List UserId → Option UserId → Option AclFault
known_name_fault owner users None = Some ReservedName
known_name_fault owner users (Some u) =
    if same_user owner u then Some OwnerKept else (if among users u then None else Some UnknownUser)

abbrev pub removal_acts : Option UserId → List Act
removal_acts None = []
removal_acts (Some u) = Gone u ∷ []

-- aclgrp: a leader must be known, and be neither the owner nor the user who is to follow. At most
-- eight users lead one
abbrev pub leader_fault : Edition → UserId → List UserId → (UserId → List UserId) → Option UserId
    → NewLeader → Option AclFault
leader_fault edition owner users leaders name Nobody = None
leader_fault edition owner users leaders name (Named None) = Some NoSuchGroup
leader_fault edition owner users leaders None (Named (Some leader)) = None
leader_fault edition owner users leaders (Some u) (Named (Some leader)) =
    if same_user owner leader then Some OwnerKept
    else (if not (among users leader && not (same_user u leader)) then Some NoSuchGroup
    else (if nat_le (length (leaders_with edition (Some leader) (leaders u))) 8
    then None else Some TooManyGroups))

abbrev pub group_fault : Edition → UserId → List UserId → (UserId → List UserId) → Option UserId
    → NewLeader → Option AclFault
group_fault edition owner users leaders name leader =
    option_or
    (known_name_fault owner users name)
    (leader_fault edition owner users leaders name leader)

abbrev pub chosen_leader : NewLeader → Option UserId
chosen_leader Nobody = None
chosen_leader (Named leader) = leader

abbrev pub group_acts : Option UserId → NewLeader → List Act
group_acts None leader = []
group_acts (Some u) leader = Grouped u (chosen_leader leader) ∷ []

-- aclumask: the fault of one bit of a mask
abbrev pub scope_fault : UserId → List UserId → MaskScope → Option AclFault
scope_fault owner users (scope.Preset kind) = None
scope_fault owner users (scope.User name) = known_name_fault owner users name

abbrev pub mask_fault : UserId → List UserId → List MaskEntry → Option AclFault
mask_fault owner users [] = None
mask_fault owner users (e ∷ entries) =
    option_or (scope_fault owner users e.scope) (mask_fault owner users entries)

abbrev pub scope_acts : UserId → MaskScope → Bit → Bool → List Act
scope_acts by (scope.Preset kind) bit value = Preset kind bit value ∷ []
scope_acts by (scope.User None) bit value = []
scope_acts by (scope.User (Some u)) bit value = Masked by u bit value ∷ []

abbrev pub mask_acts : UserId → List MaskEntry → List Act
mask_acts by [] = []
mask_acts by (e ∷ entries) = scope_acts by e.scope e.bit e.value ++ mask_acts by entries

-- whether an act of a list command may come after h: the users whom it names are known (or, for
-- acts that make a name known, not yet known), and its objects are there
abbrev pub MayFollow : Edition → UserId → History → Act → Type 0
MayFollow edition owner h (Known u) = is_known owner h u ≡ false
MayFollow edition owner h (Gone u) = same_user owner u ≡ false
MayFollow edition owner h (Set u bit object value) =
    (is_known owner h u ≡ true) × (there h object ≡ true)
MayFollow edition owner h (Grouped u leader) =
    (is_known owner h u ≡ true)
    × (length (leaders_with edition leader (leaders_of edition h u)) ≤ 8)
MayFollow edition owner h (Masked by u bit value) = Unit {0}
MayFollow edition owner h (Preset kind bit value) = Unit {0}
MayFollow edition owner h _ = ⊥

-- each of these acts may come after the acts before it
abbrev pub AllMayFollow : Edition → UserId → History → List Act → Type 0
AllMayFollow edition owner h [] = Unit {0}
AllMayFollow edition owner h (a ∷ acts) =
    MayFollow edition owner h a × AllMayFollow edition owner (a ∷ h) acts

-- an act of clients or locks, which leaves all rights unchanged
abbrev pub IsAside : Act → Type 0
IsAside (Attached client user) = Unit {0}
IsAside (Parted client) = Unit {0}
IsAside (Entered user window) = Unit {0}
IsAside (Left user window) = Unit {0}
IsAside (Mode by window mode) = Unit {0}
IsAside (Default mode) = Unit {0}
IsAside _ = ⊥

-- whether the act needs a new row, or a new mask
abbrev pub makes_known : Act → Bool
makes_known (Known u) = true
makes_known _ = false

abbrev pub sets_mask : Act → Bool
sets_mask (Masked by u bit value) = true
sets_mask _ = false
