-- What rights stand for, and what it stands for after one act more.
use Rattle.std.specs.Prelude.{Bool, true, ◌≡◌, ◌↔◌, List, ◌∷◌, ◌++◌, Option, Some, Ok, IfOk, Result, is_none}
use Rattle.std.specs.List.{AllByRecursion}
use Rattle.std.specs.declared.alloc.AllocError.{AllocError}
use Rattle.acl.specs.declared.act.Act.{Act}
use Rattle.acl.specs.declared.act.Object.{Object}
use Rattle.acl.specs.declared.bits.BitChange.{BitChange}
use Rattle.acl.specs.declared.leaders.Edition.{Edition}
use Rattle.acl.specs.declared.entries.AclFault.{AclFault}
use Rattle.acl.specs.declared.user_id.UserId.{UserId}
use Rattle.acl.specs.Commands.{Answers, known_name_fault, sets}
use Rattle.acl.specs.History.{History, followed_by, open_count, users_of}
use Rattle.acl.specs.Table.{StandsFor}
use Rattle.writelock.specs.Holding.{clients_of}
use Rattle.writelock.specs.LockTable.{LocksStandFor}
use Rattle.rights.specs.Acts.{can_follow, CanFollow}
use Rattle.rights.specs.Runs.{IsUnlocked}
use Rattle.rights.specs.declared.rights.Rights.{Rights}
use Rattle.rights.specs.Clients.{Differ}

-- rights, locks, clients and the number of windows are those after these acts
pub record StandsAfter (r : Rights) (edition : Edition) (owner : UserId) (h : History)
    : Type 0 where
  pub acl : StandsFor r.acl edition owner h
  pub locks : LocksStandFor r.locks edition owner h
  pub clients : r.clients.items ≡ clients_of h
  pub differ : Differ r.clients.items
  pub count : r.windows ≡ open_count h

-- the answer is whether the act can follow; if it can, the rights stands after it
abbrev pub Follows : Rights → Rights → Bool → Act → Type 0
Follows old new done act =
    (edition : Edition) (owner : UserId) (h : History) → StandsAfter old edition owner h
    → (done ≡ can_follow edition owner h act)
    × (done ≡ true → StandsAfter new edition owner (act ∷ h))

-- unless memory was refused
abbrev pub Redoes : Rights → Rights → Result Bool AllocError → Act → Type 0
Redoes old new result act = IfOk result (λ done. Follows old new done act)

-- of acts in order: each can follow those before it
abbrev pub FollowsAll : Rights → Rights → Bool → List Act → Type 0
FollowsAll old new done acts =
    (edition : Edition) (owner : UserId) (h : History) → StandsAfter old edition owner h
    → ((done ≡ true) ↔ CanFollow edition owner h acts)
    × (done ≡ true → StandsAfter new edition owner (followed_by h acts))

abbrev pub RedoesAll : Rights → Rights → Result Bool AllocError → List Act → Type 0
RedoesAll old new result acts = IfOk result (λ done. FollowsAll old new done acts)

-- ---- list commands

-- whether a list command was done, unless memory was refused
abbrev pub Tells : Result (Unit {0}) AclFault → Result Bool AllocError → Type 0
Tells done result =
    IfOk result (λ b. (b ≡ true → done ≡ Ok tt)
    × ((fault : Option AclFault) → Answers done fault → b ≡ is_none fault))

-- whether a list command may name the user: the user is known, and isn't the owner
abbrev pub is_nameable : UserId → History → UserId → Bool
is_nameable owner h u = is_none (known_name_fault owner (users_of owner h) (Some u))

-- a user's bits are set on objects, if the user may be named and nobody holds a lock of the objects: the
-- acts can follow, and the rights stands after them
abbrev pub SetsAll : Rights → Rights → UserId → List BitChange → List Object → Type 0
SetsAll old new u changes objects =
    (edition : Edition) (owner : UserId) (h : History) → StandsAfter old edition owner h
    → is_nameable owner h u ≡ true → AllByRecursion (IsUnlocked old.locks) objects
    → CanFollow edition owner h (sets u changes objects)
    × StandsAfter new edition owner (followed_by h (sets u changes objects))

-- of acts, those before the rest can follow, and the rights stands after them
abbrev pub FollowsFront : Rights → Rights → List Act → List Act → Type 0
FollowsFront old new acts rest =
    (edition : Edition) (owner : UserId) (h : History) → StandsAfter old edition owner h
    → (front : List Act) × (acts ≡ front ++ rest) × CanFollow edition owner h front
    × StandsAfter new edition owner (followed_by h front)
