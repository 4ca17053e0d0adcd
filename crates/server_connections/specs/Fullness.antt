-- A window for which much waits: what is typed into it has to wait.
use Rattle.std.specs.Prelude.{◌||◌, ℕ, Bool, true, false, Option, Some, None, is_some, length}
use Rattle.std.specs.Prelude.{nat_le, nat_lt, if◌then◌else◌, option_map}
use Rattle.server_connections.specs.Peers.{listens}
use Rattle.server_connections.specs.declared.peer.Peer.{Peer}
use Rattle.server_connections.specs.declared.peer.Role.{Role}
use Rattle.server_connections.specs.declared.peer.Role.TheVariants as role

-- the window of a role
abbrev pub window_of : Role → Option ℕ
window_of (role.Window window) = Some window
window_of other = None

-- what the loops are told of a window: whether it is full; of one that was, also when it went
abbrev pub fullness_news : Option ℕ → Option ℕ → Option ℕ → Option (ℕ × Bool)
fullness_news was (Some window) own = Some (window, true)
fullness_news (Some window) None own = Some (window, false)
fullness_news None None own = option_map (λ window. (window, false)) own

module _ {S : Type 0} where
  -- more than 262,144 bytes wait, or more than 4,096 frames that were typed; of one that is full, half as many are
  -- enough
  abbrev pub is_stuffed : Peer S → Bool
  is_stuffed peer =
      if is_some peer.full then nat_le 131072 (length peer.turn.unsent) || nat_le 2048 (length peer.turn.typed)
      else (nat_lt 262144 (length peer.turn.unsent) || nat_lt 4096 (length peer.turn.typed))

  -- the window that it is, while it is sent what the session says
  abbrev pub own_window : Peer S → Option ℕ
  own_window peer = if listens peer.stage then window_of peer.role else None

  -- the window, if so much waits for it
  abbrev pub full_window : Peer S → Option ℕ
  full_window peer = if is_stuffed peer then own_window peer else None
