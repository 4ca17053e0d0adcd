-- A user who only watches, and what stays as it is in that user's steps.
use Rattle.std.specs.Prelude.{◌≡◌, ◌&&◌, ℕ, Bool, true, false, not, List, [], Some, filter}
use Rattle.std.specs.List.{AllByRecursion}
use Rattle.acl.specs.declared.user_id.UserId.{UserId}
use Rattle.acl.specs.declared.bits.Bit.TheVariants.{Write, Execute}
use Rattle.acl.specs.declared.command_name.CommandName.{CommandName}
use Rattle.acl.specs.declared.command_name.CommandName.TheVariants as name
use Rattle.acl.specs.declared.act.Object.TheVariants as object
use Rattle.acl.specs.Same.{same_user}
use Rattle.command_lang.specs.Rows.{row}
use Rattle.command_lang.specs.declared.needs.Needs.{Needs}
use Rattle.writelock.specs.Holding.{mode_of, default_of}
use Rattle.session_model.specs.declared.event.Effect.{Effect}
use Rattle.session_model.specs.declared.event.Effect.TheVariants.{Deliver, Say, Gone}
use Rattle.session_model.specs.declared.event.Peer.TheVariants as peer
use Rattle.session_model.specs.declared.event.StatusMessage.{StatusMessage}
use Rattle.session_model.specs.declared.event.StatusMessage.TheVariants as message
use Rattle.session_model.specs.Trace.{Entry}
use Rattle.session_model.specs.Tables.{Client, Tables}
use Rattle.session_model.specs.Rights.{may_in, holder_in}
use Rattle.session_model.specs.Granted.{granted_view}
use Rattle.session_model.specs.Sound.{AreFit}
use Rattle.session_model.specs.Run.{IsStep, after}
use Rattle.session_laws.specs.Changing.{SameRights}
use Rattle.session_laws.specs.Contained.{stood}
use Rattle.session_laws.specs.Locking.{user_of, HoldersMayWrite}
use Rattle.session_laws.specs.Observed.{is_client_of}

-- a command's row of the table says that it needs a client, and no window: it changes nothing but
-- that client's page, or detaches it
abbrev pub is_of_page : Needs → Bool
is_of_page n = n.client && not n.window

-- commands of a page, and those that list windows or clients
abbrev pub is_watching : CommandName → Bool
is_watching name.Windows = true
is_watching name.Displays = true
is_watching c = is_of_page (row c).needs

-- a user who has w nowhere, and x on no other command; the owner isn't one
pub record IsSpectator (t : Tables) (user : UserId) : Type 0 where
  pub write : (window : ℕ) → may_in t user Write (object.Window window) ≡ false
  pub commands :
      (c : CommandName) → is_watching c ≡ false →
      may_in t user Execute (object.Command c) ≡ false

-- the clients of others
abbrev pub others_clients : UserId → List Client → List Client
others_clients user clients = filter (λ (c : Client). not (same_user c.user user)) clients

-- whether an effect is for a client of the user
abbrev pub is_for_theirs : Tables → UserId → Effect → Bool
is_for_theirs t user (Say client bytes) = is_client_of t user client
is_for_theirs t user (Deliver client bytes) = is_client_of t user client
is_for_theirs t user (Gone (peer.Client client) why) = is_client_of t user client
is_for_theirs t user _ = false

-- whether a message is the list of clients, which each draw makes again
abbrev pub lists_clients : StatusMessage → Bool
lists_clients message.AllClients = true
lists_clients _ = false

-- Windows with their titles, numbers and contents, the mode, and others' clients with their pages,
-- keys and messages are the same; so are users, leaders, masks, presets and rights, the locks of
-- all windows that had been opened, and what each client is granted to see, but for `displays`.
pub record SameForOthers (t u : Tables) (user : UserId) : Type 0 where
  pub windows : u.windows ≡ t.windows
  pub next_window : u.next_window ≡ t.next_window
  pub mode : u.is_multiuser ≡ t.is_multiuser
  pub clients : others_clients user u.clients ≡ others_clients user t.clients
  pub rights : SameRights t u []
  pub default : default_of u.acts ≡ default_of t.acts
  pub lock_modes : (window : ℕ) → mode_of u.acts window ≡ mode_of t.acts window
  pub holders :
      (window : ℕ) → stood t (object.Window window) ≡ true →
      holder_in u window ≡ holder_in t window
  pub views :
      (c : Client) → lists_clients c.message ≡ false → granted_view u c ≡ granted_view t c

-- a step of the user leaves others all that they have, and each effect is for a client of the user
pub record LeavesOthers (t : Tables) (e : Entry) (user : UserId) : Type 0 where
  pub tables : SameForOthers t (after t e) user
  pub effects : AllByRecursion (λ f. is_for_theirs t user f ≡ true) e.effects

abbrev pub SpectatorsLeaveOthers : Type 0
SpectatorsLeaveOthers =
    (t : Tables) (e : Entry) (user : UserId) → AreFit t → HoldersMayWrite t → IsStep t e →
    user_of t e.event ≡ Some user → IsSpectator t user → LeavesOthers t e user
