-- What a client is granted to see.
use Rattle.std.specs.Prelude.{ℕ, ◌==◌, List, [], ◌∷◌, Option, Some, None, if◌then◌else◌, map}
use Rattle.std.specs.Str.{chars}
use Prim.Native.Char.{code}
use Rattle.acl.specs.declared.user_id.UserId.{UserId}
use Rattle.acl.specs.declared.bits.Bit.TheVariants.{Read}
use Rattle.acl.specs.declared.act.Object.TheVariants as object
use Rattle.keys.specs.Grammar.{items}
use Rattle.regions.specs.declared.layout.Shown.{Shown}
use Rattle.regions.specs.Shapes.{boxes, separators}
use Rattle.regions.specs.Pages.{box_of, status_of}
use Rattle.terminal_model.specs.declared.state.Position.{Position}
use Rattle.terminal_model.specs.Screen.{Screen}
use Rattle.terminal_model.specs.Shows.{View}
use Rattle.terminal_model.specs.Scrollback.{moved_back}
use Rattle.view.specs.Granted as view
use Rattle.session_model.specs.declared.event.StatusMessage.{StatusMessage}
use Rattle.session_model.specs.declared.event.StatusMessage.TheVariants as message
use Rattle.session_model.specs.Tables.{Window, Client, Tables, window_at, focused}
use Rattle.session_model.specs.Rights.{may_in}
use Rattle.session_model.specs.Texts.{windows_text, clients_text}
use Rattle.session_model.specs.Keying.{open_line}
use Rattle.session_model.specs.Terminals.{terminal_of}

-- the cursor's place; None if the page is moved back
abbrev pub cursor_at : ℕ → Screen → Option Position
cursor_at back x =
    if back == 0 then Some (record { line = x.state.line; column = x.state.column }) else None

-- a window that may be read
abbrev pub window_read : Window → ℕ → Screen → view.Window
window_read w back x = record {
  number = w.number;
  title = chars w.title;
  lines = moved_back back x;
  cursor = cursor_at back x;
  shows_cursor = x.state.modes.shows_cursor;
  is_inverted = x.state.modes.is_inverted;
  has_application_arrows = x.state.modes.has_application_arrows;
  has_application_keypad = x.state.modes.has_application_keypad;
}

abbrev pub part_of_window : Tables → UserId → ℕ → Option Window → view.Part
part_of_window t user back None = view.vacant
part_of_window t user back (Some w) =
    if may_in t user Read (object.Window w.serial)
    then view.read (window_read w back (terminal_of w).screen) else view.unread w.number

-- what a region shows: its window, as far as the client's user may read it
abbrev pub part_shown : Tables → UserId → Shown → view.Part
part_shown t user s = elim s.window [
  | None ↦ view.vacant
  | Some serial ↦ part_of_window t user s.back (window_at t serial)
]

-- the rectangles of the client's page
abbrev pub layout_of : Client → view.Layout
layout_of c = record {
  boxes = boxes c.layout.shape (box_of c.rows c.columns);
  separators = separators c.layout.shape (box_of c.rows c.columns);
  focus = c.layout.focus;
  status = status_of c.rows c.columns;
}

-- the text of a message; lists of windows and of clients are made again
abbrev pub message_text : Tables → Client → StatusMessage → List ℕ
message_text t c message.Silence = []
message_text t c (message.Text bytes) = bytes
message_text t c message.AllWindows = windows_text t c.user (focused c)
message_text t c message.AllClients = clients_text t

-- the text of the status line: `:` and the prompt's line while the prompt is open, else the message
abbrev pub status_text : Tables → Client → List ℕ
status_text t c = elim (open_line (items c.keys).1) [
  | Some line ↦ code ":" ∷ line
  | None ↦ message_text t c c.message
]

-- the view of a client: all its regions, with what its user may read, and the status line
abbrev pub granted_view : Tables → Client → View
granted_view t c =
    view.view_in (layout_of c) (map (part_shown t c.user) c.layout.shown) (status_text t c)
