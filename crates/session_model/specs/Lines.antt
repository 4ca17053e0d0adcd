-- What a command line says, and who gives it.
pub use Rattle.command_lang.specs.Relation.{read_line}
use Rattle.std.specs.Prelude.{ℕ, Option, Some, None}
use Rattle.std.specs.Option.{option_and_then}
use Rattle.acl.specs.declared.user_id.UserId.{UserId}
use Rattle.session_model.specs.Tables.{Window, Client, Tables, focused_window}
use Rattle.session_model.specs.Naming.{with_number}

-- Who gives a command: a user; the user's client, if it came by keys; and the window that the
-- command would act on.
pub record Caller : Type 0 where
  pub user : UserId
  pub client : Option ℕ
  pub window : Option Window

-- the caller of a command that came by keys: it acts on the window in focus
abbrev pub caller_of : Tables → Client → Caller
caller_of t c = record { user = c.user; client = Some c.serial; window = focused_window t c }

-- the caller of a Command event: the command acts on the window with this number
abbrev pub line_caller : Tables → UserId → Option ℕ → Caller
line_caller t user number = record {
  user = user;
  client = None;
  window = option_and_then (with_number t.windows) number;
}
