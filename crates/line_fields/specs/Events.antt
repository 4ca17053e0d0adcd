-- The table of events, as scripts and trails print and read them. How each field is spelled is up to
-- a script (`Script` of session) and to a trail (`Events` of trail_lines).
use Rattle.std.specs.Prelude.{ℕ, List, [], ◌∷◌, Option, find, codes}
use Rattle.std.specs.Str.{bytes_eq}
use Rattle.acl.specs.declared.user_id.UserId.{UserId}
use Rattle.session_model.specs.Trace.{EventValue, Attach, Detach, Keys, Command, Resize, Open, Output, Closed, Draw}
use Rattle.line_fields.specs.Rows.{Row, row, Values, word_in, fields_in}
use Rattle.line_fields.specs.declared.events.EventKind.{EventKind}
use Rattle.line_fields.specs.declared.events.EventKind.TheVariants as kind

-- a user; a number of lines or columns; a serial; the number of a command's window, or none; bytes that
-- a program or a user gives; the line of a command; a title
pub data Field : Type 0 where
  User : Field
  Number : Field
  Serial : Field
  Window : Field
  Bytes : Field
  Text : Field
  Title : Field

abbrev pub Value : Field → Type 0
Value User = UserId
Value Number = ℕ
Value Serial = ℕ
Value Window = Option ℕ
Value Bytes = List ℕ
Value Text = List ℕ
Value Title = List ℕ

abbrev pub EventRow : Type 0
EventRow = Row Value EventValue

abbrev pub row_of : EventKind → EventRow
row_of kind.Attach = row (codes "attach") (User ∷ Number ∷ Number ∷ []) Attach
row_of kind.Detach = row (codes "detach") (Serial ∷ []) Detach
row_of kind.Keys = row (codes "keys") (Serial ∷ Bytes ∷ []) Keys
row_of kind.Command = row (codes "command") (User ∷ Window ∷ Text ∷ []) Command
row_of kind.Resize = row (codes "resize") (Serial ∷ Number ∷ Number ∷ []) Resize
row_of kind.Open = row (codes "open") (User ∷ Number ∷ Number ∷ Number ∷ Title ∷ []) Open
row_of kind.Output = row (codes "output") (Serial ∷ Bytes ∷ []) Output
row_of kind.Closed = row (codes "closed") (Serial ∷ []) Closed
row_of kind.Draw = row (codes "draw") (Serial ∷ []) Draw

abbrev pub all_kinds : List EventKind
all_kinds =
    kind.Attach ∷ kind.Detach ∷ kind.Keys ∷ kind.Command ∷ kind.Resize ∷ kind.Open ∷ kind.Output
    ∷ kind.Closed ∷ kind.Draw ∷ []

-- the word that events of a kind begin with
abbrev pub word_of : EventKind → List ℕ
word_of k = word_in (row_of k)

abbrev pub Parts : EventKind → Type 0
Parts k = Values Value (fields_in (row_of k))

-- a function of an event's kind and of the values of its fields
abbrev pub of_parts {ℓ} : {A : Type ℓ} → ((k : EventKind) → Parts k → A) → EventValue → A
of_parts f (Attach user rows columns) = f kind.Attach (user, (rows, (columns, tt)))
of_parts f (Detach client) = f kind.Detach (client, tt)
of_parts f (Keys client bytes) = f kind.Keys (client, (bytes, tt))
of_parts f (Command user window line) = f kind.Command (user, (window, (line, tt)))
of_parts f (Resize client rows columns) = f kind.Resize (client, (rows, (columns, tt)))
of_parts f (Open user rows columns keep title) =
    f kind.Open (user, (rows, (columns, (keep, (title, tt)))))
of_parts f (Output window bytes) = f kind.Output (window, (bytes, tt))
of_parts f (Closed window) = f kind.Closed (window, tt)
of_parts f (Draw client) = f kind.Draw (client, tt)

-- the kind whose events begin with this word
unfoldable pub kind_in : List ℕ → Option EventKind
kind_in word = find (λ k. bytes_eq (word_of k) word) all_kinds
