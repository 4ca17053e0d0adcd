-- What effects, replies and views print.
use Rattle.std.specs.Prelude.{ℕ, ◌+◌, List, [], ◌∷◌, ◌++◌, if◌then◌else◌, Option, Some, None, Ok, Err, codes}
use Rattle.std.specs.List.{flat_map}
use Rattle.std.specs.Char.{encode_utf8}
use Rattle.std.specs.Fmt.{decimal}
use Rattle.line_fields.specs.Texts as texts
use Rattle.cells.specs.declared.cell.Cell.{Cell}
use Rattle.cells.specs.declared.marks.Marks.{Marks}
use Rattle.cells.specs.declared.marks.Marks.TheVariants as marks
use Rattle.cells.specs.Line.{is_right}
use Rattle.terminal_model.specs.declared.state.Position.{Position}
use Rattle.terminal_model.specs.Shows.{View}
use Rattle.session_model.specs.declared.event.Effect.{Effect}
use Rattle.session_model.specs.declared.event.Effect.TheVariants as effect
use Rattle.session_model.specs.declared.event.Peer.TheVariants as peer
use Rattle.session_model.specs.declared.event.Reason.{Reason}
use Rattle.session_model.specs.declared.event.Reason.TheVariants as reason
use Rattle.session_model.specs.declared.event.Done.{Done}
use Rattle.session_model.specs.Texts.{text_of}
use Rattle.session_model.specs.Trace.{EventValue, Attach, Open, Reply}

-- ---- texts

-- in plain bytes: 20 to 7E, except the backslash, stand for themselves
abbrev pub escaped : List ℕ → List ℕ
escaped bytes = texts.escaped 0x20 bytes

-- a text with its line feed
abbrev pub line : List ℕ → List ℕ
line text = text ++ 0x0A ∷ []

-- ---- effects

-- why a peer goes
abbrev pub number_of_reason : Reason → ℕ
number_of_reason reason.Detached = 0
number_of_reason reason.Removed = 1
number_of_reason reason.SingleUser = 2
number_of_reason reason.Killed = 3
number_of_reason reason.Quit = 4

-- a peer that goes
abbrev pub gone_line : List ℕ → ℕ → Reason → List ℕ
gone_line peer serial why =
    line (codes "gone " ++ peer ++ codes " " ++ decimal serial ++ codes " "
    ++ decimal (number_of_reason why))

abbrev pub effect_line : Effect → List ℕ
effect_line (effect.Input window bytes) =
    line (codes "input " ++ decimal window ++ codes " " ++ escaped bytes)
effect_line (effect.Deliver client bytes) =
    line (codes "deliver " ++ decimal client ++ codes " " ++ escaped bytes)
effect_line (effect.Say client bytes) =
    line (codes "say " ++ decimal client ++ codes " " ++ escaped bytes)
effect_line (effect.Size window rows columns) =
    line (codes "size " ++ decimal window ++ codes " " ++ decimal rows ++ codes " "
    ++ decimal columns)
effect_line (effect.Gone (peer.Window window) why) = gone_line (codes "window") window why
effect_line (effect.Gone (peer.Client client) why) = gone_line (codes "client") client why

-- ---- replies

abbrev pub text_line : Option (List ℕ) → List ℕ
text_line None = line (codes "ok")
text_line (Some text) = line (codes "text " ++ escaped text)

abbrev pub done_line : EventValue → Done → List ℕ
done_line (Attach user rows columns) done = line (codes "attached " ++ decimal done.made)
done_line (Open user rows columns keep title) done =
    line (codes "opened " ++ decimal done.made ++ codes " " ++ decimal done.number)
done_line _ done = text_line done.text

abbrev pub reply_line : EventValue → Reply → List ℕ
reply_line event (Ok done) = done_line event done
reply_line event (Err refusal) = line (codes "refused " ++ escaped (text_of refusal))

-- ---- views

abbrev pub marks_text : Marks → List ℕ
marks_text marks.Bare = []
marks_text (marks.One mark) = encode_utf8 mark
marks_text (marks.Two first second) = encode_utf8 first ++ encode_utf8 second

-- a cell's character with its marks; nothing for the right half of a wide character
abbrev pub cell_text : Cell → List ℕ
cell_text cell =
    if is_right cell.shape then [] else encode_utf8 cell.character ++ marks_text cell.marks

-- a row between bars
abbrev pub row_line : List Cell → List ℕ
row_line cells = line (codes "|" ++ flat_map cell_text cells ++ codes "|")

-- lines and columns are counted from 1
abbrev pub cursor_line : Option Position → List ℕ
cursor_line None = line (codes "cursor hidden")
cursor_line (Some place) =
    line (codes "cursor " ++ decimal (place.line + 1) ++ codes " " ++ decimal (place.column + 1))

-- the rows of a client's view, without renditions, and its cursor
abbrev pub view_lines : ℕ → View → List ℕ
view_lines client view =
    line (codes "client " ++ decimal client) ++ flat_map row_line view.page
    ++ cursor_line view.cursor
