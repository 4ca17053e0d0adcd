-- The terminals of windows.
use Rattle.terminal_model.specs.Screen.{starting}
use Rattle.terminal_model.specs.Reading.{Terminal, ready}
use Rattle.terminal_model.specs.Writing.{writes_all}
use Rattle.windows_model.specs.Table.{Window}

-- the window's terminal, after it read everything that was written to the window
abbrev pub terminal_of : Window → Terminal
terminal_of w = (writes_all (ready (starting w.rows w.columns w.keep)) w.writing).terminal
