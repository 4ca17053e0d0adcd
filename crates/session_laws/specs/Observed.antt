-- What a user observes of a run.
use Rattle.std.specs.Prelude.{ℕ, Bool, true, false, List, [], ◌∷◌, ◌++◌, Option, Some, None, if◌then◌else◌, map, filter}
use Rattle.std.specs.Option.{option_map_or}
use Rattle.acl.specs.declared.user_id.UserId.{UserId}
use Rattle.acl.specs.Same.{same_user}
use Rattle.terminal_model.specs.Shows.{View}
use Rattle.session_model.specs.declared.event.Effect.{Effect}
use Rattle.session_model.specs.declared.event.Effect.TheVariants.{Input, Deliver, Say, Size, Gone}
use Rattle.session_model.specs.declared.event.Peer.TheVariants as peer
use Rattle.session_model.specs.Trace.{EventValue, Draw, Reply, Entry}
use Rattle.session_model.specs.Tables.{Client, Tables, client_at}
use Rattle.session_model.specs.Granted.{granted_view}
use Rattle.session_model.specs.Run.{tables_from}
use Rattle.session_laws.specs.Locking.{user_of}
use Rattle.session_laws.specs.Hidden.{has_opened}

-- a reply to an event of the user; an effect for a window that the user opened, or for a client of the
-- user; a draw of such a client: its view, and whether anything was delivered
pub data Observation : Type 0 where
  Replied : Reply → Observation
  Told : Effect → Observation
  Drawn : (client : ℕ) (view : View) (is_delivered : Bool) → Observation

abbrev pub is_users : UserId → Option UserId → Bool
is_users user None = false
is_users user (Some v) = same_user v user

abbrev pub is_client_of : Tables → UserId → ℕ → Bool
is_client_of t user client =
    option_map_or (λ (c : Client). same_user c.user user) (client_at t client) false

-- the user that an effect is for; a delivered frame is observed as the view
abbrev pub is_for : (ℕ → Bool) → Tables → UserId → Effect → Bool
is_for opened t user (Input window bytes) = opened window
is_for opened t user (Size window rows columns) = opened window
is_for opened t user (Gone (peer.Window window) why) = opened window
is_for opened t user (Say client bytes) = is_client_of t user client
is_for opened t user (Gone (peer.Client client) why) = is_client_of t user client
is_for opened t user (Deliver client bytes) = false

abbrev pub replied_to : Tables → UserId → Entry → List Observation
replied_to t user e =
    if is_users user (user_of t e.event) then Replied e.reply ∷ [] else []

abbrev pub is_any : List Effect → Bool
is_any [] = false
is_any (f ∷ effects) = true

abbrev pub drawn_for : Tables → UserId → Option Client → List Effect → List Observation
drawn_for t user None effects = []
drawn_for t user (Some c) effects =
    if same_user c.user user
    then Drawn c.serial (granted_view t c) (is_any effects) ∷ [] else []

abbrev pub drawn_to : Tables → UserId → EventValue → List Effect → List Observation
drawn_to t user (Draw client) effects = drawn_for t user (client_at t client) effects
drawn_to t user event effects = []

-- what a user who opened these windows observes of one step
abbrev pub observed : (ℕ → Bool) → Tables → UserId → Entry → List Observation
observed opened t user e =
    replied_to t user e
    ++ (map (λ f. Told f) (filter (is_for opened t user) e.effects)
    ++ drawn_to t user e.event e.effects)

-- what the user observes of a run from some tables, the newest first
abbrev pub observed_from : (ℕ → Bool) → UserId → Tables → List Entry → List Observation
observed_from opened user start [] = []
observed_from opened user start (e ∷ past) =
    observed opened (tables_from start past) user e ++ observed_from opened user start past

abbrev pub observations : UserId → Tables → List Entry → List Observation
observations user start run =
    observed_from (has_opened (tables_from start run) user) user start run
