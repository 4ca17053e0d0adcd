-- The windows and clients of one session under the serials that they have in another.
use Rattle.std.specs.Prelude.{◌≡◌, ℕ, map}
use Rattle.std.specs.Option.{option_map}
use Rattle.acl.specs.declared.act.Act.{Act}
use Rattle.acl.specs.declared.act.Act.TheVariants as act
use Rattle.acl.specs.declared.act.Object.{Object}
use Rattle.acl.specs.declared.act.Object.TheVariants as object
use Rattle.regions.specs.declared.layout.Shown.{Shown}
use Rattle.regions.specs.Layouts.{Arrangement}
use Rattle.session_model.specs.declared.event.Effect.{Effect}
use Rattle.session_model.specs.declared.event.Effect.TheVariants.{Input, Deliver, Say, Size, Gone}
use Rattle.session_model.specs.declared.event.Peer.{Peer}
use Rattle.session_model.specs.declared.event.Peer.TheVariants as peer
use Rattle.session_model.specs.declared.refusal.Denied.{Denied}
use Rattle.session_model.specs.declared.refusal.Denied.TheVariants as denied
use Rattle.session_model.specs.declared.refusal.Refusal.{Refusal}
use Rattle.session_model.specs.declared.refusal.Refusal.TheVariants.{EntryDenied, LockDenied}
use Rattle.session_model.specs.declared.refusal.Verdict.{Verdict}
use Rattle.session_model.specs.declared.refusal.Verdict.TheVariants.{Right, Lock}
use Rattle.session_model.specs.Trace.{EventValue, Detach, Keys, Resize, Output, Closed, Draw}

-- for each serial of a window and of a client, the serial in the other session; different windows
-- and clients stay different
pub record Renaming : Type 0 where
  pub window : ℕ → ℕ
  pub client : ℕ → ℕ
  pub windows_differ : (v w : ℕ) → window v ≡ window w → v ≡ w
  pub clients_differ : (c d : ℕ) → client c ≡ client d → c ≡ d

-- ---- rights

abbrev pub object_as : Renaming → Object → Object
object_as n (object.Window w) = object.Window (n.window w)
object_as n (object.Command c) = object.Command c

abbrev pub act_as : Renaming → Act → Act
act_as n (act.Set user bit o value) = act.Set user bit (object_as n o) value
act_as n (act.Opened by w) = act.Opened by (n.window w)
act_as n (act.Closed w) = act.Closed (n.window w)
act_as n (act.Attached client user) = act.Attached (n.client client) user
act_as n (act.Parted client) = act.Parted (n.client client)
act_as n (act.Entered user w) = act.Entered user (n.window w)
act_as n (act.Left user w) = act.Left user (n.window w)
act_as n (act.Mode by w mode) = act.Mode by (n.window w) mode
act_as n a = a

abbrev pub verdict_as : Renaming → Verdict → Verdict
verdict_as n (Right user bit o answer) = Right user bit (object_as n o) answer
verdict_as n (Lock user w holder) = Lock user (n.window w) holder

abbrev pub denied_as : Renaming → Denied → Denied
denied_as n (denied.Window w number) = denied.Window (n.window w) number
denied_as n (denied.Command c) = denied.Command c

abbrev pub refusal_as : Renaming → Refusal → Refusal
refusal_as n (EntryDenied d) = EntryDenied (record d { on = denied_as n d.on })
refusal_as n (LockDenied d) = LockDenied (record d { serial = n.window d.serial })
refusal_as n r = r

-- ---- pages

abbrev pub shown_as : Renaming → Shown → Shown
shown_as n s = record s { window = option_map n.window s.window }

abbrev pub layout_as : Renaming → Arrangement → Arrangement
layout_as n l = record l { shown = map (shown_as n) l.shown }

-- ---- events and effects

abbrev pub event_as : Renaming → EventValue → EventValue
event_as n (Detach client) = Detach (n.client client)
event_as n (Keys client bytes) = Keys (n.client client) bytes
event_as n (Resize client rows columns) = Resize (n.client client) rows columns
event_as n (Output w bytes) = Output (n.window w) bytes
event_as n (Closed w) = Closed (n.window w)
event_as n (Draw client) = Draw (n.client client)
event_as n event = event

abbrev pub peer_as : Renaming → Peer → Peer
peer_as n (peer.Window w) = peer.Window (n.window w)
peer_as n (peer.Client client) = peer.Client (n.client client)

abbrev pub effect_as : Renaming → Effect → Effect
effect_as n (Input w bytes) = Input (n.window w) bytes
effect_as n (Deliver client bytes) = Deliver (n.client client) bytes
effect_as n (Say client bytes) = Say (n.client client) bytes
effect_as n (Size w rows columns) = Size (n.window w) rows columns
effect_as n (Gone who why) = Gone (peer_as n who) why
