use Rattle.command_lang.proofs.Numbers.{below_40}
use Rattle.command_lang.proofs.reading.numbers_are_below_40.Goals as goal

pub returns : goal.returns
returns c = below_40
