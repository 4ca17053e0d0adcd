-- What a window that stays sends first when a server has it again.
use Rattle.std.specs.Prelude.{ℕ, Bool, List}
use Rattle.attach_proto.specs.declared.kind.Kind.TheVariants.{Output}
use Rattle.client_page.specs.Held.{TellsAgain}
use Rattle.client_typing.specs.Framing.{Sends}
use Rattle.client_peer.specs.declared.peer.Peer.{Peer}

-- A window that is opened again sends what the next server is told: the page that it had, and then what was held.
pub record Reopens (old new : Peer) (is_told : Bool) : Type 0 where
  pub bytes : List ℕ
  pub tells : TellsAgain old.page bytes is_told new.page
  pub sends : Sends old.frames.items new.frames.items Output bytes
