-- What can be done: to access lists, to clients and windows, to pages, and to what a window shows.
use Rattle.std.specs.Prelude.{ℕ, ◌-◌, ◌==◌, Bool, not, nat_lt, List, [], ◌∷◌, ◌++◌, Option, Some, None, Result, Ok, Err}
use Rattle.std.specs.Prelude.{if◌then◌else◌, filter, map, length, slice_get, slice_set, unwrap_or}
use Rattle.acl.specs.declared.user_id.UserId.{UserId}
use Rattle.acl.specs.declared.act.Act.{Act}
use Rattle.acl.specs.declared.act.Act.TheVariants as act
use Rattle.acl.specs.declared.act.Object.{Object}
use Rattle.acl.specs.Same.{same_user}
use Rattle.acl.specs.Commands.{change_fault}
use Rattle.regions.specs.declared.rect.Rect.{Rect}
use Rattle.regions.specs.declared.layout.Shown.{Shown}
use Rattle.regions.specs.declared.layout.RegionFault.TheVariants.{TooSmall}
use Rattle.regions.specs.Shapes.{boxes}
use Rattle.regions.specs.Pages.{box_of}
use Rattle.regions.specs.Layouts.{Arrangement, empty, emptied}
use Rattle.terminal_model.specs.Writing.{Writing}
use Rattle.terminal_model.specs.Writing as written
use Rattle.session_model.specs.declared.event.Effect.{Effect}
use Rattle.session_model.specs.declared.event.Effect.TheVariants.{Input, Say, Size, Gone}
use Rattle.session_model.specs.declared.event.Peer.TheVariants as peer
use Rattle.session_model.specs.declared.event.Reason.{Reason}
use Rattle.session_model.specs.declared.event.Reason.TheVariants as reason
use Rattle.session_model.specs.declared.refusal.Refusal.{Refusal}
use Rattle.session_model.specs.declared.refusal.Refusal.TheVariants.{Acl, Windows, Regions}
use Rattle.windows_model.specs.declared.rows.WindowsFault.TheVariants.{NoSuchWindow}
use Rattle.session_model.specs.declared.event.StatusMessage.{StatusMessage}
use Rattle.session_model.specs.declared.event.StatusMessage.TheVariants as message
use Rattle.session_model.specs.Tables.{Window, Client, Tables, with_window, with_client}
use Rattle.session_model.specs.Tables.{focused, with_layout, known_users}

-- What is done: the acts, the new tables without these acts, the effects, and what is listed.
pub record Deed : Type 0 where
  pub acts : List Act
  pub tables : Tables
  pub effects : List Effect
  pub lists : Option (List ℕ)

-- what is done, or why nothing is done
abbrev pub Answer : Type 0
Answer = Result Deed Refusal

abbrev pub changing : Tables → Deed
changing t = record { acts = []; tables = t; effects = []; lists = None }

abbrev pub acting : Tables → List Act → Deed
acting t acts = record (changing t) { acts = acts }

abbrev pub listing : Tables → List ℕ → Deed
listing t bytes = record (changing t) { lists = Some bytes }

-- one deed, and then another one on the tables that the first leaves
abbrev pub both : Deed → (Tables → Deed) → Deed
both d next = let e : Deed = next d.tables in record {
  acts = d.acts ++ e.acts;
  tables = e.tables;
  effects = d.effects ++ e.effects;
  lists = e.lists;
}

-- the deed is done, unless there is a fault
unfoldable pub unless : {F : Type 0} → (F → Refusal) → Option F → Deed → Answer
unless as_refusal None deed = Ok deed
unless as_refusal (Some f) deed = Err (as_refusal f)

unfoldable pub refused_if : Bool → Refusal → Deed → Answer
refused_if b r deed = if b then Err r else Ok deed

-- the answer for a thing that has to be there, or the refusal if it isn't
unfoldable pub given : {X : Type 0} → Option X → Refusal → (X → Answer) → Answer
given None r f = Err r
given (Some x) r f = f x

-- ---- lists

-- a change of users' bits on objects; the fault of a name comes before the fault of an object
abbrev pub changes :
    Tables → List (Option UserId) → Option (List Object) → (List Object → List Act) → Answer
changes t names objects acts =
    elim (change_fault t.owner (known_users t) names) [
      | Some f ↦ Err (Acl f)
      | None ↦ given objects (Windows NoSuchWindow) (λ all. Ok (acting t (acts all)))
    ]

-- ---- clients and windows that go

-- the clients that pass the test go
abbrev pub parts : (Client → Bool) → Reason → Tables → Deed
parts goes why t = record {
  acts = map (λ (c : Client). act.Parted c.serial) (filter goes t.clients);
  tables = record t { clients = filter (λ c. not (goes c)) t.clients };
  effects = map (λ (c : Client). Gone (peer.Client c.serial) why) (filter goes t.clients);
  lists = None;
}

abbrev pub is_of : UserId → Client → Bool
is_of user c = same_user c.user user

-- a user's clients go, and then the user is gone
abbrev pub removes : Option UserId → Tables → Deed
removes None t = changing t
removes (Some u) t =
    let d : Deed = parts (is_of u) reason.Removed t in record d { acts = d.acts ++ act.Gone u ∷ [] }

-- the client, in which the regions that showed this window are empty
abbrev pub without_window : ℕ → Client → Client
without_window serial c =
    record c { layout = record c.layout { shown = map (emptied serial) c.layout.shown } }

abbrev pub without_windows : List Window → List Client → List Client
without_windows [] clients = clients
without_windows (w ∷ windows) clients =
    without_windows windows (map (without_window w.serial) clients)

-- the windows that pass the test are closed
abbrev pub closes : (Window → Bool) → Reason → Tables → Deed
closes goes why t = record {
  acts = map (λ (w : Window). act.Closed w.serial) (filter goes t.windows);
  tables = record t {
    windows = filter (λ w. not (goes w)) t.windows;
    clients = without_windows (filter goes t.windows) t.clients;
  };
  effects = map (λ (w : Window). Gone (peer.Window w.serial) why) (filter goes t.windows);
  lists = None;
}

-- ---- pages

-- the user enters the window in focus
abbrev pub entering : UserId → Option ℕ → List Act
entering user None = []
entering user (Some window) = act.Entered user window ∷ []

-- the client's page gets this arrangement
abbrev pub arranges : Tables → Client → Arrangement → Deed
arranges t c l = changing (with_client t (with_layout l c))

-- the client's page gets this arrangement, and its user enters the window in focus
abbrev pub enters : Tables → Client → Arrangement → Deed
enters t c l =
    let d : Client = with_layout l c in acting (with_client t d) (entering d.user (focused d))

-- the arrangement after the focused region was made to show this
abbrev pub showing : Client → Shown → Arrangement
showing c s = record c.layout { shown = slice_set c.layout.shown c.layout.focus s }

abbrev pub selects : Tables → Client → Window → Deed
selects t c w = enters t c (showing c (record { window = Some w.serial; back = 0 }))

-- the window that was in focus before the present one; for an empty region, the window that was in
-- focus last
abbrev pub former_of : Client → Option ℕ
former_of c = elim (focused c) [ None ↦ c.last | Some w ↦ c.former ]

abbrev pub shown_in_focus : Client → Shown
shown_in_focus c = unwrap_or (slice_get c.layout.shown c.layout.focus) empty

-- the box of the focused region, without its caption
abbrev pub focused_box : Client → Option Rect
focused_box c =
    slice_get (boxes c.layout.shape (box_of c.rows c.columns)) c.layout.focus

-- ---- what is written to a window

abbrev pub writes : Tables → Window → Writing → Deed
writes t w what = changing (with_window t (record w { writing = w.writing ++ what ∷ [] }))

-- the window gets the size of the region's box, without the caption
abbrev pub fits : Tables → Window → Rect → Answer
fits t w box =
    refused_if (nat_lt (box.rows - 1) 2) (Regions TooSmall)
    (record (writes t w (written.Size (box.rows - 1) box.columns)) {
      effects = Size w.serial (box.rows - 1) box.columns ∷ [];
    })

-- input for a window's program, if there are any bytes
abbrev pub input_of : ℕ → List ℕ → List Effect
input_of window bytes = if length bytes == 0 then [] else Input window bytes ∷ []

-- ---- messages

abbrev pub hearing : StatusMessage → Client → Client
hearing m c = record c { message = m }

-- the text is sent to each client
abbrev pub tells : List ℕ → Tables → Deed
tells bytes t = record {
  acts = [];
  tables = record t { clients = map (hearing (message.Text bytes)) t.clients };
  effects = map (λ (c : Client). Say c.serial bytes) t.clients;
  lists = None;
}
