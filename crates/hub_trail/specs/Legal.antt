-- When a trail is legal. What an entry says of rights and locks is judged by the acts of the
-- entries before it.
use Rattle.std.specs.Prelude.{ℕ, Bool, true, false, not, ◌&&◌, ◌==◌, ◌≡◌, ◌⊎◌, List, [], ◌∷◌}
use Rattle.std.specs.Prelude.{Option, Some, None, Ok, Err, if◌then◌else◌, map, filter, find}
use Rattle.std.specs.List.{AllByRecursion, list_any, list_all}
use Rattle.std.specs.Option.{option_map_or}
use Rattle.acl.specs.declared.act.Act.{Act}
use Rattle.acl.specs.declared.act.Act.TheVariants as act
use Rattle.acl.specs.declared.act.Object.{Object}
use Rattle.acl.specs.declared.act.Object.TheVariants as object
use Rattle.acl.specs.declared.bits.Bit.TheVariants.{Execute}
use Rattle.acl.specs.declared.command_name.CommandName.{CommandName}
use Rattle.acl.specs.declared.leaders.Edition.{Edition}
use Rattle.acl.specs.declared.user_id.UserId.{UserId}
use Rattle.acl.specs.History.{History, followed_by, is_known, users_of, may}
use Rattle.acl.specs.Names.{named_by}
use Rattle.acl.specs.Same.{same_user, same_bit, same_command}
use Rattle.writelock.specs.Holding.{holder, clients_of}
use Rattle.writelock.specs.LockTable.{stops_nobody_but}
use Rattle.command_lang.specs.declared.command.Command.{Command}
use Rattle.command_lang.specs.declared.command.Command.TheVariants as command
use Rattle.command_lang.specs.declared.command.Users.TheVariants as users
use Rattle.command_lang.specs.Names.{name_of}
use Rattle.command_lang.specs.Relation.{Relates}
use Rattle.session.specs.refusal.Denied.{Denied}
use Rattle.session.specs.refusal.Denied.TheVariants as denied
use Rattle.session.specs.refusal.Refusal.{Refusal}
use Rattle.session.specs.refusal.Refusal.TheVariants.{EntryDenied, LockDenied}
use Rattle.session.specs.refusal.Verdict.{Verdict}
use Rattle.session.specs.refusal.Verdict.TheVariants.{Right as right, Lock as lock}
use Rattle.hub_trail.specs.declared.kept.Kept.{Kept}
use Rattle.hub_trail.specs.declared.kept.Kept.TheVariants as kept
use Rattle.hub_trail.specs.declared.kept.Finished.{Finished}
use Rattle.hub_trail.specs.Trails.{Ending, Entry, Trail}
use Rattle.hub_trail.specs.Fitting.{made_by, attaches_one, opens_one, detaches, shuts}
use Rattle.hub_trail.specs.Saying.{says}

-- ---- verdicts

-- the verdict is what rights or locks say after these acts
abbrev pub IsTrue : Edition → UserId → History → Verdict → Type 0
IsTrue edition owner h (right user bit object answer) =
    answer ≡ may edition owner h user bit object
IsTrue edition owner h (lock user window held) = held ≡ holder edition owner h window

-- whether the verdict lets its user go on
abbrev pub passes : Verdict → Bool
passes (right user bit object answer) = answer
passes (lock user window held) = stops_nobody_but user held

-- the first verdict that doesn't
abbrev pub failed : List Verdict → Option Verdict
failed verdicts = find (λ v. not (passes v)) verdicts

abbrev pub user_of : Verdict → UserId
user_of (right user bit object answer) = user
user_of (lock user window held) = user

-- whether the client with this serial is attached and is the user's
abbrev pub is_client_of : History → ℕ → UserId → Bool
is_client_of h client user = list_any (λ c. (c.0 == client) && same_user c.1 user) (clients_of h)

-- whether the verdict is on this user
abbrev pub is_of_user : UserId → Verdict → Bool
is_of_user user v = same_user (user_of v) user

-- the verdicts of a Command or an Open are on its user, and those of Keys on their client's user
abbrev pub AreOfUser : History → Kept → List Verdict → Type 0
AreOfUser h (kept.Keys client) verdicts =
    AllByRecursion (λ v. is_client_of h client (user_of v) ≡ true) verdicts
AreOfUser h (kept.Command user window line) verdicts =
    AllByRecursion (λ v. is_of_user user v ≡ true) verdicts
AreOfUser h (kept.Open user rows columns keep title) verdicts =
    AllByRecursion (λ v. is_of_user user v ≡ true) verdicts
AreOfUser h event verdicts = Unit {0}

-- ---- a command's first verdict

abbrev pub AsksFirst : UserId → CommandName → List Verdict → Type 0
AsksFirst user name [] = ⊥
AsksFirst user name (v ∷ verdicts) =
    (answer : Bool) × (v ≡ right user Execute (object.Command name) answer)

-- the first verdict of a known user's Command, if its line is a command, asks for x on that command
abbrev pub AsksForCommand : UserId → History → Kept → List Verdict → Type 0
AsksForCommand owner h (kept.Command user window line) verdicts =
    is_known owner h user ≡ true → (c : Command) → Relates line c
    → AsksFirst user (name_of c) verdicts
AsksForCommand owner h event verdicts = Unit {0}

-- ---- acts

abbrev pub asks_for_command : Verdict → Bool
asks_for_command (right user Execute (object.Command name) answer) = true
asks_for_command v = false

-- the verdicts, from the first one on that asks for x on a command
abbrev pub from_command : List Verdict → List Verdict
from_command [] = []
from_command (v ∷ verdicts) = if asks_for_command v then v ∷ verdicts else from_command verdicts

-- a command was asked for, and all verdicts pass
abbrev pub is_granted : List Verdict → Bool
is_granted [] = false
is_granted (v ∷ verdicts) = asks_for_command v && list_all passes (v ∷ verdicts)

-- whether the verdicts let the event act: all of them must pass; among keys only those of the
-- command, which come after those of the typed bytes
abbrev pub is_let : Kept → List Verdict → Bool
is_let (kept.Command user window line) verdicts = is_granted verdicts
is_let (kept.Keys client) verdicts = is_granted (from_command verdicts)
is_let event verdicts = list_all passes verdicts

-- there are acts only if the verdicts let the event act
abbrev pub AreLet : Kept → List Verdict → List Act → Type 0
AreLet event verdicts acts = (acts ≡ []) ⊎ (is_let event verdicts ≡ true)

-- ---- denials

abbrev pub is_denial : Refusal → Bool
is_denial (EntryDenied d) = true
is_denial (LockDenied d) = true
is_denial r = false

-- whether a denial names the object; a window is compared by its serial, since its number is for
-- the text alone
abbrev pub is_named : Denied → Object → Bool
is_named (denied.Window serial number) (object.Window window) = serial == window
is_named (denied.Command c) (object.Command d) = same_command c d
is_named d o = false

-- whether a denial agrees with the verdict: in its user, bit and object, or in its window and
-- holder
abbrev pub is_of : Refusal → Verdict → Bool
is_of (EntryDenied d) (right user bit object answer) =
    same_user d.user user && (same_bit d.bit bit && is_named d.on object)
is_of (LockDenied d) (lock user window (Some u)) = (d.serial == window) && same_user d.holder u
is_of r v = false

-- a reply that denies carries the verdict that failed
abbrev pub CarriesFailed : Option Verdict → Ending → Type 0
CarriesFailed v (Ok finished) = Unit {0}
CarriesFailed v (Err r) = is_denial r ≡ true → option_map_or (is_of r) v false ≡ true

abbrev pub denies : Ending → Bool
denies (Ok finished) = false
denies (Err r) = is_denial r

-- if a verdict failed, the reply of a Command or an Open is that denial
abbrev pub IsDenied : Kept → Option Verdict → Ending → Type 0
IsDenied (kept.Command user window line) (Some v) reply = denies reply ≡ true
IsDenied (kept.Open user rows columns keep title) (Some v) reply = denies reply ≡ true
IsDenied event v reply = Unit {0}

-- ---- what is done has its acts

-- whether the act makes the user known or gone, or changes the user's entries or leaders
abbrev pub is_act_of : UserId → Act → Bool
is_act_of u (act.Known v) = same_user v u
is_act_of u (act.Gone v) = same_user v u
is_act_of u (act.Set v bit object value) = same_user v u
is_act_of u (act.Grouped v leader) = same_user v u
is_act_of u a = false

abbrev pub has_act_of : List Act → Option UserId → Bool
has_act_of acts None = false
has_act_of acts (Some u) = list_any (is_act_of u) acts

-- the names in the first word of acladd, of acldel, and of aclgrp with a leader or `none`; `*`
-- means all known users but the owner
abbrev pub first_names : UserId → History → Command → List (Option UserId)
first_names owner h (command.Acladd users.All) =
    map (λ u. Some u) (filter (λ u. not (same_user owner u)) (users_of owner h))
first_names owner h (command.Acladd (users.Listed words)) = map named_by words
first_names owner h (command.Acldel word) = named_by word ∷ []
first_names owner h (command.Aclgrp word (Some leader)) = named_by word ∷ []
first_names owner h c = []

abbrev pub is_attached : ℕ → UserId → Act → Bool
is_attached client user (act.Attached c u) = (c == client) && same_user u user
is_attached client user a = false

abbrev pub is_parted : ℕ → Act → Bool
is_parted client (act.Parted c) = c == client
is_parted client a = false

abbrev pub is_opened : ℕ → UserId → Act → Bool
is_opened window user (act.Opened u w) = (w == window) && same_user u user
is_opened window user a = false

abbrev pub is_closed : ℕ → Act → Bool
is_closed window (act.Closed w) = w == window
is_closed window a = false

abbrev pub HasActs : UserId → History → Kept → Finished → List Act → Type 0
HasActs owner h (kept.Attach user rows columns) finished acts =
    list_any (is_attached finished.made user) acts ≡ true
HasActs owner h (kept.Detach client) finished acts = list_any (is_parted client) acts ≡ true
HasActs owner h (kept.Keys client) finished acts = Unit {0}
HasActs owner h (kept.Command user window line) finished acts =
    (c : Command) → Relates line c
    → AllByRecursion (λ name. has_act_of acts name ≡ true) (first_names owner h c)
HasActs owner h (kept.Open user rows columns keep title) finished acts =
    list_any (is_opened finished.made user) acts ≡ true
HasActs owner h (kept.Closed window) finished acts = list_any (is_closed window) acts ≡ true

abbrev pub HasItsActs : UserId → History → Kept → Ending → List Act → Type 0
HasItsActs owner h event (Ok finished) acts = HasActs owner h event finished acts
HasItsActs owner h event (Err r) acts = Unit {0}

-- ---- what is done has no other acts

-- whether an event that was done can have these acts
abbrev pub can_have : History → Kept → Finished → List Verdict → List Act → Bool
can_have h (kept.Attach user rows columns) finished vs acts =
    attaches_one finished.made user acts
can_have h (kept.Detach client) finished vs acts =
    list_all (detaches (is_client_of h client) client) acts
can_have h (kept.Keys client) finished vs acts = made_by (Some client) (from_command vs) acts
can_have h (kept.Command user window line) finished vs acts =
    made_by None (from_command vs) acts
can_have h (kept.Open user rows columns keep title) finished vs acts =
    opens_one finished.made user acts
can_have h (kept.Closed window) finished vs acts = list_all (shuts window) acts

-- the acts of an entry are some that its event can have; a refused event has none
abbrev pub Fits : History → Kept → Ending → List Verdict → List Act → Type 0
Fits h event (Ok finished) vs acts = can_have h event finished vs acts ≡ true
Fits h event (Err r) vs acts = acts ≡ []

-- the line of a Command that was done is a command, and says everything that is done to users and
-- rights
abbrev pub IsSaid : UserId → History → Kept → Ending → List Act → Type 0
IsSaid owner h (kept.Command user window line) (Ok finished) acts =
    (c : Command) × Relates line c × AllByRecursion (λ a. says owner h c a ≡ true) acts
IsSaid owner h event reply acts = Unit {0}

-- an Attach, a Command or an Open that was done is one of a known user
abbrev pub IsOfKnown : UserId → History → Kept → Ending → Type 0
IsOfKnown owner h (kept.Attach user rows columns) (Ok finished) = is_known owner h user ≡ true
IsOfKnown owner h (kept.Command user window line) (Ok finished) = is_known owner h user ≡ true
IsOfKnown owner h (kept.Open user rows columns keep title) (Ok finished) =
    is_known owner h user ≡ true
IsOfKnown owner h event reply = Unit {0}

-- ---- legal

-- an entry is legal after these acts
pub record IsLegalEntry (edition : Edition) (owner : UserId) (h : History) (e : Entry)
    : Type 0 where
  pub verdicts : AllByRecursion (IsTrue edition owner h) e.verdicts
  pub user : AreOfUser h e.event e.verdicts
  pub first : AsksForCommand owner h e.event e.verdicts
  pub acts : AreLet e.event e.verdicts e.acts
  pub denial : CarriesFailed (failed e.verdicts) e.reply
  pub denied : IsDenied e.event (failed e.verdicts) e.reply
  pub done : HasItsActs owner h e.event e.reply e.acts
  pub fits : Fits h e.event e.reply e.verdicts e.acts
  pub says : IsSaid owner h e.event e.reply e.acts
  pub known : IsOfKnown owner h e.event e.reply

-- each of these entries is legal after the acts of those before it
abbrev pub AreLegal : Edition → UserId → History → List Entry → Type 0
AreLegal edition owner h [] = Unit {0}
AreLegal edition owner h (e ∷ entries) =
    IsLegalEntry edition owner h e × AreLegal edition owner (followed_by h e.acts) entries

-- a trail is legal if its entries are, beginning without acts
abbrev pub IsLegal : Trail → Type 0
IsLegal trail = AreLegal trail.edition trail.owner [] trail.entries

-- the history, followed by the acts of all these entries
abbrev pub acts_after : History → List Entry → History
acts_after h [] = h
acts_after h (e ∷ entries) = acts_after (followed_by h e.acts) entries

abbrev pub acts_of : Trail → History
acts_of trail = acts_after [] trail.entries
