-- The screen that a display shows.
use Rattle.std.specs.Prelude.{◌≡◌, ◌==◌, reverse}
use Rattle.cells.specs.Page.{page_from}
use Rattle.cells.specs.Moves.{scrolled_up}
use Rattle.terminal_model.specs.declared.state.State.{State}
use Rattle.terminal_model.specs.Screen.{Screen, IsSound}
use Rattle.terminal_model.specs.Motion.{scrolled_kept}
use Rattle.vt_screen.specs.declared.screen.Display.{Display}

-- a display keeps the newest line of its scrollback last, a screen first
abbrev pub screen_of : Display → Screen
screen_of d =
    record {
      state = d.state;
      tabs = d.tabs;
      saved = d.saved;
      page = d.page.lines;
      kept = reverse d.ring.lines;
      keep = d.ring.keep;
    }

-- its screen is sound, and its kept lines are as wide as the page
pub record IsFit (d : Display) : Type 0 where
  pub sound : IsSound (screen_of d)
  pub columns : d.ring.columns ≡ d.state.columns

-- the lines of the margins went up by one; a line that leaves at the first line of the page enters
-- the scrollback
abbrev pub scrolled : Screen → Screen
scrolled x =
    let s : State = x.state in
    record x {
      page = page_from (scrolled_up s.top s.bottom 1) x.page;
      kept = scrolled_kept (s.top == 0) x.keep x.page x.kept;
    }
