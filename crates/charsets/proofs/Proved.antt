-- What proves the laws.
use Rattle.charsets.proofs.Encoded.{units-encode}
use Rattle.charsets.proofs.Joins.{units-append, units-can, units-go_on, units-rest}
use Rattle.charsets.proofs.Pieces.{units-plain, units_of_pieces-whole}
use Rattle.charsets.proofs.Scalars.{units-are}
use Rattle.charsets.proofs.Shifted.{mapped-ascii, spent-none}
use Rattle.charsets.proofs.Texts.{codes-append, text-append, IsText-append}

pub ruleset laws = (
  units-append,
  units-can,
  units-go_on,
  units-rest,
  units-encode,
  units-plain,
  units_of_pieces-whole,
  units-are,
  codes-append,
  text-append,
  IsText-append,
  mapped-ascii,
  spent-none,
)
