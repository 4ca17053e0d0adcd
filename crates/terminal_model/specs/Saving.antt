-- The saved place (VT220 manual, cursor positioning). "Own" marks a choice of this project.
use Rattle.std.specs.Prelude.{ℕ, ◌+◌, ◌-◌, ◌==◌, min, max, false, ◌&&◌, cond, Option, Some, None}
use Rattle.charsets.specs.Shifts.{starting as starting_shifts}
use Rattle.cells.specs.Line.{plain}
use Rattle.terminal_model.specs.declared.state.State.{State}
use Rattle.terminal_model.specs.declared.state.Saved.{Saved}

abbrev pub saved_of : State → Saved
saved_of s = record {
  line = s.line;
  column = s.column;
  is_wrap_pending = s.is_wrap_pending;
  rendition = s.rendition;
  is_protecting = s.is_protecting;
  shifts = s.shifts;
  counts_from_margin = s.modes.counts_from_margin;
}

-- what DECRC restores if nothing was saved: the starting values, with the cursor home
abbrev pub never_saved : Saved
never_saved = record {
  line = 0;
  column = 0;
  is_wrap_pending = false;
  rendition = plain;
  is_protecting = false;
  shifts = starting_shifts;
  counts_from_margin = false;
}

abbrev pub saved_or_none : Option Saved → Saved
saved_or_none None = never_saved
saved_or_none (Some p) = p

-- a saved line: on the page, and within the margins if ?6 is set then
abbrev pub restored_line : State → Saved → ℕ
restored_line s p =
    cond p.counts_from_margin (max s.top (min p.line s.bottom)) (min p.line (s.rows - 1))

-- DECRC: the wrap is pending again only in the last column with ?7 set (own)
abbrev pub restored : State → Saved → State
restored s p =
    record s {
      line = restored_line s p;
      column = min p.column (s.columns - 1);
      is_wrap_pending = p.is_wrap_pending && s.modes.wraps
          && (min p.column (s.columns - 1) + 1 == s.columns);
      rendition = p.rendition;
      is_protecting = p.is_protecting;
      shifts = p.shifts;
      modes = record s.modes { counts_from_margin = p.counts_from_margin };
      joining = None;
    }
