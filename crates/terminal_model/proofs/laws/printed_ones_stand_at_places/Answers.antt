use Rattle.terminal_model.proofs.Frames.{narrow-over, wide-over, mark-joins, printed-quiet}
use Rattle.terminal_model.proofs.laws.printed_ones_stand_at_places.Goals as goal

pub returns : goal.returns
returns c = record { narrow = narrow-over; wide = wide-over; mark = mark-joins; quiet = printed-quiet }
