-- A change of size.
use Rattle.std.specs.Prelude.{ℕ, ◌-◌, min, false, None}
use Rattle.terminal_model.specs.declared.state.State.{State}

-- the state on a page of another size: the cursor goes to the nearest place, margins start anew, no
-- wrap is pending, and no cell is there for marks to join
abbrev pub fitted : ℕ → ℕ → State → State
fitted rows columns s = record s {
  rows = rows;
  columns = columns;
  line = min s.line (rows - 1);
  column = min s.column (columns - 1);
  is_wrap_pending = false;
  top = 0;
  bottom = rows - 1;
  joining = None;
}
