-- The fields of an event, each ended by one blank. The bytes of Keys aren't kept.
use Rattle.std.specs.Prelude.{ℕ, ◌^◌, Bool, true, false, if◌then◌else◌, List, [], ◌∷◌, ◌++◌, Option, Some}
use Rattle.std.specs.Prelude.{None, codes, decimal}
use Rattle.std.specs.Str.{bytes_eq, is_utf8}
use Rattle.acl.specs.Names.{name_of}
use Rattle.session.specs.Trace.{EventValue}
use Rattle.session.specs.Trace as event
use Rattle.hub.specs.Filing.{kept_of}
use Rattle.hub.specs.kept.Kept.{Kept}
use Rattle.hub.specs.kept.Kept.TheVariants as kept
use Rattle.line_fields.specs.Cutting.{◌>>=◌, cut}
use Rattle.line_fields.specs.Events.{Field, User, Number, Serial, Window, Bytes, Text, Title, Value}
use Rattle.line_fields.specs.Events.{row_of, word_of, Parts, of_parts, kind_in}
use Rattle.line_fields.specs.Numbers.{number_below, number_at}
use Rattle.line_fields.specs.Parts.{blank, field, user_at, nobody}
use Rattle.line_fields.specs.Rows.{fields_in, all_then, read_all_in}
use Rattle.line_fields.specs.Texts.{escaped, spelled}
use Rattle.line_fields.specs.declared.events.EventKind.{EventKind}
use Rattle.line_fields.specs.declared.events.EventKind.TheVariants as kind

-- ---- texts: a dot, and then the bytes; a blank is escaped too

abbrev pub text_field : List ℕ → List ℕ
text_field bytes = codes "." ++ escaped 0x21 bytes

abbrev pub text_in : List ℕ → Option (List ℕ)
text_in [] = None
text_in (dot ∷ rest) = spelled rest

-- titles are UTF-8
abbrev pub title_of : List ℕ → Option (List ℕ)
title_of bytes = if is_utf8 bytes then Some bytes else None

abbrev pub title_in : List ℕ → Option (List ℕ)
title_in word = text_in word >>= title_of

-- ---- the number of a command's window

abbrev pub window_text : Option ℕ → List ℕ
window_text None = nobody
window_text (Some number) = decimal number

abbrev pub some_window : ℕ → Option (Option ℕ)
some_window number = Some (Some number)

abbrev pub window_in : List ℕ → Option (Option ℕ)
window_in word =
    if bytes_eq word nobody then Some None else number_below (2 ^ 8) word >>= some_window

-- ---- fields

-- a field, and then more
abbrev pub field_then : (f : Field) → Value f → List ℕ → List ℕ
field_then User user rest = field blank (name_of user) rest
field_then Number number rest = field blank (decimal number) rest
field_then Serial serial rest = field blank (decimal serial) rest
field_then Window window rest = field blank (window_text window) rest
field_then Bytes bytes rest = rest
field_then Text text rest = field blank (text_field text) rest
field_then Title title rest = field blank (text_field title) rest

abbrev pub window_at : List ℕ → Option (Option ℕ × List ℕ)
window_at bytes = do
  parts ← cut blank bytes
  window ← window_in parts.0
  Some (window, parts.1)

abbrev pub text_at : List ℕ → Option (List ℕ × List ℕ)
text_at bytes = do
  parts ← cut blank bytes
  text ← text_in parts.0
  Some (text, parts.1)

abbrev pub title_at : List ℕ → Option (List ℕ × List ℕ)
title_at bytes = do
  parts ← cut blank bytes
  title ← title_in parts.0
  Some (title, parts.1)

-- a field, and the bytes after it
abbrev pub field_at : (f : Field) → List ℕ → Option (Value f × List ℕ)
field_at User bytes = user_at blank bytes
field_at Number bytes = number_at (2 ^ 16) blank bytes
field_at Serial bytes = number_at (2 ^ 32) blank bytes
field_at Window bytes = window_at bytes
field_at Bytes bytes = Some ([], bytes)
field_at Text bytes = text_at bytes
field_at Title bytes = title_at bytes

-- ---- events

-- an event of which this is kept
abbrev pub event_of : Kept → EventValue
event_of (kept.Attach user rows columns) = event.Attach user rows columns
event_of (kept.Detach client) = event.Detach client
event_of (kept.Keys client) = event.Keys client []
event_of (kept.Command user window line) = event.Command user window line
event_of (kept.Open user rows columns keep title) = event.Open user rows columns keep title
event_of (kept.Closed window) = event.Closed window

abbrev pub parts_then : List ℕ → (k : EventKind) → Parts k → List ℕ
parts_then rest k v = field blank (word_of k) (all_then field_then (fields_in (row_of k)) v rest)

-- an event's fields, and the bytes after them
abbrev pub event_then : Kept → List ℕ → List ℕ
event_then e rest = of_parts (parts_then rest) (event_of e)

-- the kinds of events of which something is kept
abbrev pub is_kept : EventKind → Bool
is_kept kind.Attach = true
is_kept kind.Detach = true
is_kept kind.Keys = true
is_kept kind.Command = true
is_kept kind.Open = true
is_kept kind.Closed = true
is_kept k = false

-- what is kept of an event, and the bytes after it
abbrev pub kept_with : EventValue × List ℕ → Option (Kept × List ℕ)
kept_with read = kept_of read.0 >>= λ e. Some (e, read.1)

-- the event of a kind whose fields follow its word
abbrev pub event_in : EventKind → List ℕ → Option (Kept × List ℕ)
event_in k bytes = if is_kept k then read_all_in field_at (row_of k) bytes >>= kept_with else None

unfoldable pub event_at : List ℕ → Option (Kept × List ℕ)
event_at bytes = do
  parts ← cut blank bytes
  kind ← kind_in parts.0
  event_in kind parts.1
