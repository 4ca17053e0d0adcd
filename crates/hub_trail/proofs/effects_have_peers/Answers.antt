use Rattle.hub_trail.proofs.Coming.{peers_came}
use Rattle.hub_trail.proofs.effects_have_peers.Goals as goal

pub returns : goal.returns
returns c = peers_came
