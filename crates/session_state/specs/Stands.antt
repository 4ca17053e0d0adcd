-- The tables that a session's state stands for.
use Rattle.std.specs.Prelude.{◌≡◌}
use Rattle.acl.specs.Table as acl
use Rattle.writelock.specs.LockTable.{LocksStandFor}
use Rattle.session_model.specs.Tables.{Tables}
use Rattle.windows.specs.Standing as windows
use Rattle.session_state.specs.Clients.{AreClients}
use Rattle.session_state.specs.declared.state.State.{State}

-- the lists and the locks are those of the acts of all steps; windows and clients stand row by row
pub record Stands (t : Tables) (s : State) : Type 0 where
  pub acl : acl.StandsFor s.acl t.edition t.owner t.acts
  pub locks : LocksStandFor s.locks t.edition t.owner t.acts
  pub multiuser_is : s.is_multiuser ≡ t.is_multiuser
  pub windows : windows.StandFor t.windows s.windows
  pub clients : AreClients t.clients s.clients
  pub next_window_is : s.next_window ≡ t.next_window
  pub next_client_is : s.next_client ≡ t.next_client
