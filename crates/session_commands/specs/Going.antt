-- Which clients go, and what they leave.
use Rattle.std.specs.Prelude.{ℕ, ◌==◌, Bool, true, not, List, Result, OnOk, map, filter}
use Rattle.acl.specs.declared.user_id.UserId.{UserId}
use Rattle.acl.specs.declared.act.Act.{Act}
use Rattle.acl.specs.declared.act.Act.TheVariants.{Parted}
use Rattle.acl.specs.declared.leaders.Edition.{Edition}
use Rattle.acl.specs.History.{History, followed_by}
use Rattle.acl.specs.Same.{same_user}
use Rattle.writelock.specs.LockTable.{LocksStandFor}
use Rattle.writelock.specs.declared.locks.Locks.{Locks}
use Rattle.rights.specs.Clients.{ClientsStandFor}
use Rattle.session_model.specs.declared.event.Effect.{Effect}
use Rattle.session_model.specs.declared.event.Effect.TheVariants.{Gone}
use Rattle.session_model.specs.declared.event.Peer.TheVariants as peer
use Rattle.session_model.specs.declared.event.Reason.{Reason}
use Rattle.session_model.specs.Tables as model
use Rattle.session_model.specs.Tables.{Tables}
use Rattle.session_model.specs.Sound.{AreFit}
use Rattle.session_model.specs.Deeds.{parts}
use Rattle.session_state.specs.declared.client.Client.{Client}
use Rattle.session_state.specs.Stands.{Stands}
use Rattle.session_state.specs.Doing.{HasDone}
use Rattle.session_commands.specs.declared.giver.Context.{Context}
use Rattle.session_commands.specs.Contexts.{IsWhole}
use Rattle.session_commands.specs.declared.going.Going.{Going}
use Rattle.session_commands.specs.declared.going.Going.TheVariants.{One, Of, AllBut, All}

-- whether a client of this serial and this user goes
abbrev pub takes : Going → ℕ → UserId → Bool
takes (One n) serial user = serial == n
takes (Of u) serial user = same_user user u
takes (AllBut u) serial user = not (same_user user u)
takes All serial user = true

abbrev pub goes : Going → model.Client → Bool
goes g c = takes g c.serial c.user

-- ---- from the rows of the code

abbrev pub goes_now : Going → Client → Bool
goes_now g c = takes g c.serial c.user

abbrev pub gone_now : Reason → Client → Effect
gone_now why c = Gone (peer.Client c.serial) why

abbrev pub parting : Client → Act
parting c = Parted c.serial

abbrev pub parted_now : Going → List Client → List Act
parted_now g clients = map parting (filter (goes_now g) clients)

-- serials and users
abbrev pub attached_now : List Client → List (ℕ × UserId)
attached_now clients = map (λ (c : Client). (c.serial, c.user)) clients

-- what the locks are told by these acts of clients that go; the rows are those of all that are attached
abbrev pub TellsLocks : List Act → List (ℕ × UserId) → Locks → Locks → Type 0
TellsLocks acts rows old new =
    (edition : Edition) (owner : UserId) (h : History) → LocksStandFor old edition owner h
    → ClientsStandFor rows h → LocksStandFor new edition owner (followed_by h acts)

-- ---- the tables

-- the clients that go have gone, for all tables that the state stood for
abbrev pub Goes : {E : Type 0} → Going → Reason → Context → Result (Unit {0}) E → Context → Type 0
Goes g why old result new =
    IsWhole old result new
    × OnOk result ((t : Tables) → Stands t old.state.now → AreFit t
    → HasDone t (parts (goes g) why t) new.state.now old.made.now new.made.now)
