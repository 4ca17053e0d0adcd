-- Worked rows of a guest among four users: own, the owner, and ann, bob and eve.
use Rattle.std.specs.Prelude.{◌≡◌, ℕ, true, false, List, [], ◌∷◌, Some, None, codes}
use Rattle.acl.specs.declared.leaders.Edition.TheVariants.{Second}
use Rattle.acl.specs.declared.bits.Bit.TheVariants.{Write, Execute}
use Rattle.acl.specs.declared.command_name.CommandName.TheVariants as name
use Rattle.acl.specs.declared.act.LockMode.TheVariants.{On}
use Rattle.acl.specs.declared.act.Object.TheVariants as object
use Rattle.acl.specs.Same.{same_user}
use Rattle.command_lang.specs.declared.command.Command.TheVariants as command
use Rattle.session_model.specs.Trace.{Keys}
use Rattle.session_model.specs.Tables.{Tables, client_at}
use Rattle.session_model.specs.Rights.{may_in, holder_in}
use Rattle.session_laws.specs.Contained.{AreGuests}
use Rattle.session_laws.specs.Locking.{IsPowerless}
use Rattle.session_laws.specs.WorkedSetup.{bob, eve, several, ordered, after, changes, takes, gives, then_comes}

abbrev pub of_bob : List (List ℕ)
of_bob = codes "bob" ∷ []

abbrev pub five : List (List ℕ)
five =
    codes "acladd" ∷ codes "aclchg" ∷ codes "acldel" ∷ codes "aclgrp" ∷ codes "aclumask" ∷ []

-- aclchg bob -x acladd,aclchg,acldel,aclgrp,aclumask
abbrev pub contained : Tables
contained = after (several Second) (changes of_bob (takes Execute) five)

-- ---- rights

abbrev pub BobIsGuest : Type 0
BobIsGuest = AreGuests contained (same_user bob)

-- bob: aclchg bob +x aclgrp
abbrev pub InVain : Type 0
InVain =
    (ordered contained bob None (changes of_bob (gives Execute) (codes "aclgrp" ∷ []))).tables
    ≡ contained

-- bob has x only on aclchg, and gives himself x on aclgrp
abbrev pub with_aclchg : Tables
with_aclchg = after contained (changes of_bob (gives Execute) (codes "aclchg" ∷ []))

abbrev pub ByHimself : Type 0
ByHimself =
    let t : Tables =
    (ordered with_aclchg bob None (changes of_bob (gives Execute) (codes "aclgrp" ∷ []))).tables in
    (may_in with_aclchg bob Execute (object.Command name.Aclgrp) ≡ false)
    × (may_in t bob Execute (object.Command name.Aclgrp) ≡ true)

-- the owner gives bob x on aclchg
abbrev pub ByAnother : Type 0
ByAnother =
    (may_in contained bob Execute (object.Command name.Aclchg) ≡ false)
    × (may_in with_aclchg bob Execute (object.Command name.Aclchg) ≡ true)

-- ---- locks

-- eve: writelock on, on window 2; after that, aclchg bob -w 2
abbrev pub locked : Tables
locked =
    after (ordered contained eve (Some 2) (command.Writelock On)).tables
    (changes of_bob (takes Write) (codes "2" ∷ []))

abbrev pub BobIsPowerless : Type 0
BobIsPowerless = IsPowerless locked bob 2

-- bob: C-a 0
abbrev pub Stays : Type 0
Stays =
    (holder_in locked 2 ≡ Some eve)
    × (holder_in (then_comes locked (Keys 2 (0x01 ∷ 0x30 ∷ []))) 2 ≡ Some eve)

-- bob: multiuser off
abbrev pub single : Tables
single = (ordered locked bob None (command.Multiuser false)).tables

abbrev pub Freed : Type 0
Freed = holder_in single 2 ≡ None

abbrev pub Parted : Type 0
Parted = client_at single 3 ≡ None
