-- A change of size. "Own" marks a choice of this project.
use Rattle.std.specs.Prelude.{ℕ, ◌-◌, min, false, map, None, option_map}
use Rattle.cells.specs.Resizing.{line_resized, page_resized}
use Rattle.terminal_model.specs.declared.state.State.{State}
use Rattle.terminal_model.specs.declared.state.Saved.{Saved}
use Rattle.terminal_model.specs.Screen.{Screen, starting_tabs}

-- A CHANGE OF SIZE keeps the upper left part of the page and of the kept lines. The cursor and the
-- saved place go to the nearest place, margins and tab stops start anew, no wrap is pending, and no
-- cell is there for marks to join (own).
abbrev pub saved_resized : ℕ → ℕ → Saved → Saved
saved_resized rows columns p =
    record p { line = min p.line (rows - 1); column = min p.column (columns - 1) }

unfoldable pub resized : ℕ → ℕ → Screen → Screen
resized rows columns x =
    let s : State = x.state in
    record x {
      state = record s {
        rows = rows;
        columns = columns;
        line = min s.line (rows - 1);
        column = min s.column (columns - 1);
        is_wrap_pending = false;
        top = 0;
        bottom = rows - 1;
        joining = None;
      };
      tabs = starting_tabs columns;
      saved = option_map (saved_resized rows columns) x.saved;
      page = page_resized rows columns x.page;
      kept = map (line_resized columns) x.kept;
    }
