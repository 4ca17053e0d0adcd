use Rattle.terminal_model.proofs.Frames.{cells-erased, line-erased, cells-quiet, line-quiet}
use Rattle.terminal_model.proofs.laws.erased_ones_stand_at_places.Goals as goal

pub returns : goal.returns
returns c = record { cells = cells-erased; line = line-erased; cells_quiet = cells-quiet; line_quiet = line-quiet }
