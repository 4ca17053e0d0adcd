-- Clearing the page, RIS and DECSTR. "Own" marks a choice of this project.
use Rattle.std.specs.Prelude.{false, None}
use Rattle.charsets.specs.Shifts.{starting as starting_shifts}
use Rattle.cells.specs.Line.{plain}
use Rattle.terminal_model.specs.declared.state.State.{State}
use Rattle.terminal_model.specs.Screen.{Screen, starting_modes, starting_state, starting_tabs, blank_page, with_page}
use Rattle.terminal_model.specs.Motion.{unpending, home, whole_margins}

-- CLEARED: a blank page, the whole page as margins, the cursor home
abbrev pub cleared : Screen → Screen
cleared x = with_page x (home (whole_margins x.state)) (blank_page x.state.rows x.state.columns)

-- RESET: all starting values and a blank page; coding and scrollback stay (own)
abbrev pub reset : Screen → Screen
reset x =
    record x {
      state = record (starting_state x.state.rows x.state.columns) { coding = x.state.coding };
      tabs = starting_tabs x.state.columns;
      saved = None;
      page = blank_page x.state.rows x.state.columns;
    }

-- SOFT RESET: page, cursor, tab stops, LNM, ?5, coding and the form of reports stay (own)
abbrev pub softly_reset : State → State
softly_reset s =
    whole_margins (record (unpending s) {
      rendition = plain;
      is_protecting = false;
      shifts = starting_shifts;
      modes = record starting_modes {
        starts_lines = s.modes.starts_lines;
        is_inverted = s.modes.is_inverted;
      };
    })
