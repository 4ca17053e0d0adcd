use Rattle.draw_check.proofs.Spelled.{used_is_function}
use Rattle.draw_check.proofs.used_functions_pass.Goals as goal

pub returns : goal.returns
returns c = used_is_function
