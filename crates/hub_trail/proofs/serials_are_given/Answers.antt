use Rattle.hub_trail.proofs.Serials.{gives_serials}
use Rattle.hub_trail.proofs.serials_are_given.Goals as goal

pub returns : goal.returns
returns c = gives_serials
