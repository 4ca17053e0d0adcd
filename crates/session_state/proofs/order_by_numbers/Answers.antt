use Rattle.session_state.proofs.Numbers.{order_by_numbers}
use Rattle.session_state.proofs.order_by_numbers.Goals as goal

pub returns : goal.returns
returns c = order_by_numbers
