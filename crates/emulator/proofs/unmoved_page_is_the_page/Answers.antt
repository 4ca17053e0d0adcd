use Rattle.emulator.proofs.Backs.{moved-none}
use Rattle.emulator.proofs.unmoved_page_is_the_page.Goals as goal

pub returns : goal.returns
returns c = moved-none
