-- Counts are at least 1.
use Rattle.std.specs.Prelude.{◌<◌}
use Rattle.terminal_model.specs.declared.action.Action.{Action}
use Rattle.terminal_model.specs.declared.action.Action.TheVariants.{EraseCells, InsertCells, DeleteCells}

-- the action's number of cells is at least 1
abbrev pub IsCounted : Action → Type 0
IsCounted (EraseCells count) = 0 < count
IsCounted (InsertCells count) = 0 < count
IsCounted (DeleteCells count) = 0 < count
IsCounted _ = Unit {0}
