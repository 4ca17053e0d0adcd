-- The number of each fault.
use Rattle.std.specs.Prelude.{ℕ}
use Rattle.acl_words.specs.declared.entries.AclFault.{AclFault}
use Rattle.acl_words.specs.declared.entries.AclFault.TheVariants.{UnknownUser, OwnerKept, TooManyUsers, ReservedName}
use Rattle.acl_words.specs.declared.entries.AclFault.TheVariants.{NoSuchGroup, NoMemory, TooManyGroups}

-- the number of a fault
abbrev pub number_of_fault : AclFault → ℕ
number_of_fault UnknownUser = 1
number_of_fault OwnerKept = 2
number_of_fault TooManyUsers = 3
number_of_fault ReservedName = 4
number_of_fault NoSuchGroup = 5
number_of_fault NoMemory = 6
number_of_fault TooManyGroups = 7
