-- What proves the laws.
use Rattle.charsets.proofs.Joins.{units-append}
use Rattle.control_parser.proofs.Given.{given_all}
use Rattle.control_parser.proofs.Keeping.{functions-append, functions-can}
use Rattle.control_parser.proofs.Openings.{functions-go_on, functions-opening, opening-units}
use Rattle.control_parser.proofs.Pieces.{functions-graphic, functions-plain, functions_of_pieces-whole}
use Rattle.control_parser.proofs.Readings.{reads-append, reads-plain, reads-spelled}

pub ruleset laws = (
  units-append,
  given_all,
  functions-append,
  functions-can,
  functions-go_on,
  functions-opening,
  opening-units,
  functions-graphic,
  functions-plain,
  functions_of_pieces-whole,
  reads-append,
  reads-plain,
  reads-spelled,
)
