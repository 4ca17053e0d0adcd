use Rattle.control_parser.proofs.Lanes.{stops-masked}
use Rattle.control_parser.proofs.parser.stops_in.Goals as goal

pub returns : goal.returns
returns c = stops-masked c.args.lanes c.fits-lanes.0 c.fits-lanes.1
