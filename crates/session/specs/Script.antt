-- Which event a line of a script is. Its fields are separated by one blank; USER is a name, C and W
-- are serials, the W of a command is a window's number or `-`, and TEXT is the rest of the line:
--
--     attach USER ROWS COLS
--     detach C
--     keys C TEXT
--     command USER W TEXT
--     resize C ROWS COLS
--     open USER ROWS COLS KEEP TEXT
--     output W TEXT
--     closed W
--     draw C
use Rattle.std.specs.Prelude.{ℕ, List, Option}
use Rattle.session_model.specs.Trace.{EventValue}
use Rattle.line_fields.specs.Cutting.{◌>>=◌, cut}
use Rattle.line_fields.specs.Events.{row_of, kind_in}
use Rattle.line_fields.specs.Parts.{blank}
use Rattle.line_fields.specs.Rows.{read_in}
use Rattle.line_fields.specs.declared.events.EventKind.{EventKind}
use Rattle.session.specs.Fields.{value_of}

-- the event of a kind whose fields follow its word
abbrev pub event_in : EventKind → List ℕ → Option EventValue
event_in k rest = read_in blank value_of (row_of k) rest

-- the event of a line without its line feed; none if the line isn't understood
abbrev pub event_of : List ℕ → Option EventValue
event_of line = do
  parts ← cut blank line
  kind ← kind_in parts.0
  event_in kind parts.1
