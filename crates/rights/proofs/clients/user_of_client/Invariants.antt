use Rattle.std.proofs.Common.{◌≡◌, drop}
use Rattle.rights.specs.Clients.{user_in}
use Rattle.rights.proofs.clients.user_of_client.Given as goal

abbrev pub invariant-loop-row : goal.invariant-loop-row
invariant-loop-row l = user_in (drop l.row-index l.clients) l.client ≡ user_in l.clients l.client
