-- When a denial is true, and what a step may say.
use Rattle.std.specs.Prelude.{ℕ, ◌==◌, true, false, List, ◌++◌, ◌≡◌, ◌⊎◌, Option, Some, None, Ok, Err, if◌then◌else◌}
use Rattle.std.specs.Prelude.{MatchOption, codes}
use Rattle.std.specs.List.{AllByRecursion}
use Rattle.std.specs.Option.{option_map, option_and_then}
use Rattle.acl.specs.declared.user_id.UserId.{UserId}
use Rattle.acl.specs.declared.bits.Bit.{Bit}
use Rattle.acl.specs.declared.bits.Bit.TheVariants.{Write, Execute}
use Rattle.acl.specs.declared.act.Object.{Object}
use Rattle.acl.specs.declared.act.Object.TheVariants as object
use Rattle.acl.specs.declared.command_name.CommandName.TheVariants.{Screen}
use Rattle.acl.specs.Names.{name_of, named_by}
use Rattle.acl.specs.Same.{same_user}
use Rattle.command_lang.specs.declared.command.Command.{Command as Order}
use Rattle.command_lang.specs.declared.command.Command.TheVariants as command
use Rattle.command_lang.specs.Names as names
use Rattle.session_model.specs.declared.event.Effect.{Effect}
use Rattle.session_model.specs.declared.event.Effect.TheVariants.{Say}
use Rattle.session_model.specs.declared.refusal.Denied.{Denied}
use Rattle.session_model.specs.declared.refusal.Denied.TheVariants as denied
use Rattle.session_model.specs.declared.refusal.EntryDenied.{EntryDenied as EntryDenial}
use Rattle.session_model.specs.declared.refusal.LockDenied.{LockDenied as LockDenial}
use Rattle.session_model.specs.declared.refusal.Refusal.{Refusal}
use Rattle.session_model.specs.declared.refusal.Refusal.TheVariants.{EntryDenied, LockDenied}
use Rattle.session_model.specs.Trace.{EventValue, Keys, Open, Reply, Entry}
use Rattle.session_model.specs.Tables.{Window, Tables, window_at}
use Rattle.session_model.specs.Rights.{may_in, has_in, leaders_in, holder_in}
use Rattle.session_model.specs.Texts.{text_of, windows_text, clients_text, group_text}
use Rattle.session_model.specs.Given.{Given, commands_of, has_x, Typed, keys_typed}
use Rattle.session_model.specs.Promises.{SomeOf}

-- ---- what an event asks for

abbrev pub IsWindow : Option Window → Object → Type 0
IsWindow None o = ⊥
IsWindow (Some w) o = o ≡ object.Window w.serial

-- a command asks for x on itself, and for any bit on its window
abbrev pub AsksFor : UserId → Bit → Object → Given → Type 0
AsksFor user bit o g =
    (user ≡ g.caller.user)
    × (((bit ≡ Execute) × (o ≡ object.Command (names.name_of g.order)))
    ⊎ IsWindow g.caller.window o)

-- typed bytes ask for w on their window
abbrev pub TypesOn : UserId → Bit → Object → Typed → Type 0
TypesOn user bit o typed = (user ≡ typed.user) × (bit ≡ Write) × IsWindow typed.window o

-- what an event asks for: Open asks for x on `screen`; other events ask for what their commands and
-- their typed bytes need
abbrev pub Asks : Tables → EventValue → UserId → Bit → Object → Type 0
Asks t (Open who rows columns keep title) user bit o =
    (user ≡ who) × (bit ≡ Execute) × (o ≡ object.Command Screen)
Asks t event user bit o =
    SomeOf (AsksFor user bit o) (commands_of t event)
    ⊎ SomeOf (TypesOn user bit o) (keys_typed t event)

-- ---- what a denial names

-- an object as a denial names it: a command, or a window by its serial and its number
abbrev pub numbered : ℕ → Window → Option Object
numbered number w = if w.number == number then Some (object.Window w.serial) else None

abbrev pub object_named : Tables → Denied → Option Object
object_named t (denied.Window serial number) =
    option_and_then (numbered number) (window_at t serial)
object_named t (denied.Command c) = Some (object.Command c)

-- a denial is true: the user asks for the bit and may not have it; the entry of the user and those
-- of all leaders are false; and exactly the user's leaders are named
pub record IsEntryMissing
    (t : Tables) (asks : UserId → Bit → Object → Type 0) (d : EntryDenial) (o : Object)
    : Type 0 where
  pub asked : asks d.user d.bit o
  pub may_not : may_in t d.user d.bit o ≡ false
  pub entry : has_in t d.user d.bit o ≡ false
  pub entries : AllByRecursion (λ leader. has_in t leader d.bit o ≡ false) (leaders_in t d.user)
  pub leaders : d.leaders ≡ leaders_in t d.user

-- a denial is true: a user asks for w on the window, and the named user, who is another one, holds
-- its lock
pub record IsLockHeld
    (t : Tables) (asks : UserId → Bit → Object → Type 0) (d : LockDenial) (o : Object)
    : Type 0 where
  pub user : UserId
  pub asked : asks user Write o
  pub held : holder_in t d.serial ≡ Some d.holder
  pub other : same_user d.holder user ≡ false

abbrev pub NamesTruly : Tables → (UserId → Bit → Object → Type 0) → Refusal → Type 0
NamesTruly t asks (EntryDenied d) = MatchOption (object_named t d.on) ⊥ (IsEntryMissing t asks d)
NamesTruly t asks (LockDenied d) =
    MatchOption (object_named t (denied.Window d.serial d.number)) ⊥ (IsLockHeld t asks d)
NamesTruly t asks _ = Unit {0}

abbrev pub ReplyNamesTruly : Tables → EventValue → Reply → Type 0
ReplyNamesTruly t event (Err r) = NamesTruly t (Asks t event) r
ReplyNamesTruly t event (Ok done) = Unit {0}

-- ---- what is said

-- the window in focus of the client that asks
abbrev pub focus_in : Given → Option ℕ
focus_in g =
    option_and_then (λ client. option_map (λ (w : Window). w.serial) g.caller.window)
    g.caller.client

-- the text that a command sends to clients
abbrev pub told_by : Tables → Given → Order → Option (List ℕ)
told_by t g (command.Wall text) = Some (name_of g.caller.user ++ (codes ": " ++ text))
told_by t g (command.Aclgrp word None) =
    option_map (λ user. group_text user (leaders_in t user)) (named_by word)
told_by t g command.Screen = Some (codes "windows are opened by mux window")
told_by t g command.Windows = Some (windows_text t g.caller.user (focus_in g))
told_by t g command.Displays = Some (clients_text t)
told_by t g _ = None

-- the text is what a command sends whose x is granted
abbrev pub TellsByRight : Tables → List ℕ → Given → Type 0
TellsByRight t said g = (has_x t g ≡ true) × (told_by t g g.order ≡ Some said)

abbrev pub AreKeysOf : ℕ → EventValue → Type 0
AreKeysOf to (Keys client bytes) = to ≡ client
AreKeysOf to _ = ⊥

abbrev pub IsTrueRefusal : Tables → EventValue → List ℕ → Refusal → Type 0
IsTrueRefusal t event said r = (said ≡ text_of r) × NamesTruly t (Asks t event) r

-- a Say is true: it tells the client of the keys a refusal that names its cause truly, or it is the
-- text of a command
abbrev pub IsTrueSay : Tables → EventValue → Effect → Type 0
IsTrueSay t event (Say to said) =
    (AreKeysOf to event × ((r : Refusal) × IsTrueRefusal t event said r))
    ⊎ SomeOf (TellsByRight t said) (commands_of t event)
IsTrueSay t event _ = Unit {0}

-- DENIALS: each denial names the entry or the holder of the lock that prevents what the event asks
-- for
pub record DenialsName (t : Tables) (e : Entry) : Type 0 where
  pub reply : ReplyNamesTruly t e.event e.reply
  pub says : AllByRecursion (IsTrueSay t e.event) e.effects
