-- What is printed is read back.
use Rattle.std.specs.Prelude.{ℕ, ◌<◌, ◌≤◌, ◌≡◌, true, List, ◌++◌, length, codes, Option, Some, None}
use Rattle.std.specs.List.{AllByRecursion}
use Rattle.std.specs.Fmt.{decimal}
use Rattle.std.specs.Str.{is_utf8}
use Rattle.acl.specs.declared.user_id.UserId.{UserId}
use Rattle.acl.specs.Names.{name_of, named_by}
use Rattle.session_model.specs.Trace.{EventValue}
use Rattle.session.specs.Printed.{escaped}
use Rattle.line_fields.specs.Events.{Field, User, Number, Serial, Window, Bytes, Text, Title, Value}
use Rattle.line_fields.specs.Events.{row_of, word_of, Parts, of_parts}
use Rattle.line_fields.specs.Parts.{blank}
use Rattle.line_fields.specs.Rows.{fields_in, after_each, Each}
use Rattle.line_fields.specs.declared.events.EventKind.{EventKind}
use Rattle.session.specs.Fields.{text_of}
use Rattle.session.specs.Script.{event_of}

-- ---- texts

-- at most 8,192 bytes
abbrev pub IsText : List ℕ → Type 0
IsText bytes = AllByRecursion (λ byte. byte < 256) bytes × (length bytes ≤ 8192)

-- a text that was printed is read as the same bytes
abbrev pub ReadsTexts : Type 0
ReadsTexts = (bytes : List ℕ) → IsText bytes → text_of (escaped bytes) ≡ Some bytes

-- ---- events

abbrev pub window_field : Option ℕ → List ℕ
window_field None = codes "-"
window_field (Some number) = decimal number

-- what is printed of a field
abbrev pub printed : (f : Field) → Value f → List ℕ
printed User user = name_of user
printed Number number = decimal number
printed Serial serial = decimal serial
printed Window window = window_field window
printed Bytes bytes = escaped bytes
printed Text text = escaped text
printed Title title = escaped title

-- the word of a kind, and a blank before each field
abbrev pub line_of : (k : EventKind) → Parts k → List ℕ
line_of k v = word_of k ++ after_each blank printed (fields_in (row_of k)) v

abbrev pub event_line : EventValue → List ℕ
event_line event = of_parts line_of event

-- a user whose name names them
abbrev pub IsNamed : UserId → Type 0
IsNamed user = named_by (name_of user) ≡ Some user

-- at most four digits
abbrev pub IsNumber : ℕ → Type 0
IsNumber number = number < 10000

abbrev pub IsWindow : Option ℕ → Type 0
IsWindow None = Unit {0}
IsWindow (Some number) = number < 256

-- what a field can say
abbrev pub CanSay : (f : Field) → Value f → Type 0
CanSay User user = IsNamed user
CanSay Number number = IsNumber number
CanSay Serial serial = IsNumber serial
CanSay Window window = IsWindow window
CanSay Bytes bytes = IsText bytes
CanSay Text text = IsText text
CanSay Title title = IsText title × (is_utf8 title ≡ true)

abbrev pub CanSayAll : (k : EventKind) → Parts k → Type 0
CanSayAll k v = Each CanSay (fields_in (row_of k)) v

-- an event that a line can say
abbrev pub IsSayable : EventValue → Type 0
IsSayable event = of_parts CanSayAll event

-- the line of an event is read as this event
abbrev pub ReadsEvents : Type 0
ReadsEvents = (event : EventValue) → IsSayable event → event_of (event_line event) ≡ Some event
