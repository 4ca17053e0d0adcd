-- The users that are kept, as entries, and the meaning of faults.
use Rattle.std.specs.Prelude.{◌≡◌, ℕ, List, map, Some, Contains}
use Rattle.acl.specs.Names.{name_of, named_by}
use Rattle.acl.specs.declared.user_id.UserId.{UserId}
use Rattle.server_users.specs.declared.user.User.{User}
use Rattle.server_users.specs.declared.fault.UsersFault.{UsersFault}
use Rattle.server_users.specs.declared.fault.UsersFault.TheVariants.{BadLine, NoMemory}
use Rattle.server_users.specs.declared.fault.AuthFault.{AuthFault}
use Rattle.server_users.specs.declared.fault.AuthFault.TheVariants.{BadUser, BadToken}
use Rattle.server_users.specs.Entries.{Entry, BreaksAt, names}

abbrev pub entry_of : User → Entry
entry_of u = record { name = name_of u.id; token = u.token }

-- the user whom their own name names
abbrev pub IsNamed : UserId → Type 0
IsNamed u = named_by (name_of u) ≡ Some u

abbrev pub entries_of : List User → List Entry
entries_of us = map entry_of us

-- the meaning of a fault of a file
abbrev pub Breaks : List ℕ → UsersFault → Type 0
Breaks file (BadLine n) = BreaksAt file n
Breaks file NoMemory = Unit {0}

abbrev pub Refuses : List Entry → List ℕ → AuthFault → Type 0
Refuses us name BadUser = Contains (names us) name → ⊥
Refuses us name BadToken = Contains (names us) name

abbrev pub number_of_auth : AuthFault → ℕ
number_of_auth BadUser = 1
number_of_auth BadToken = 2

abbrev pub number_of_users : UsersFault → ℕ
number_of_users (BadLine n) = 1
number_of_users NoMemory = 2
