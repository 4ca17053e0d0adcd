-- Which lines are shown, where that stops, and what is written of them.
use Rattle.std.specs.Prelude.{ℕ, zero, suc, ◌≡◌, ◌+◌, List, [], ◌∷◌, ◌++◌, Option, Some, None, codes, decimal}
use Rattle.std.specs.Io.KnownBytes.{Appends}
use Rattle.line_fields.specs.Dates.{when_text}
use Rattle.line_fields.specs.Meaning.{in_parentheses}
use Rattle.trail_lines.specs.Entries.{Said, read_line}
use Rattle.trail_lines.specs.Files.{whole_lines}
use Rattle.trail_lines.specs.Heading.{read_end}
use Rattle.trail_lines.specs.Lines.{ComesAs}
use Rattle.trail_lines.specs.declared.ending.Ended.{Ended}
use Rattle.trail_lines.specs.declared.entries.EntryLine.{EntryLine}
use Rattle.trail_lines.specs.declared.halt.NextLine.{NextLine}
use Rattle.trail_lines.specs.declared.halt.NextLine.TheVariants as came
use Rattle.trail_files.specs.declared.show.LineFormat.{LineFormat}
use Rattle.trail_files.specs.declared.show.LineFormat.TheVariants as format
use Rattle.trail_files.specs.declared.show.ShownLine.{ShownLine}
use Rattle.trail_files.specs.declared.show.ShownLine.TheVariants as shown
use Rattle.trail_files.specs.declared.show.LineKind.{LineKind}
use Rattle.trail_files.specs.declared.show.LineKind.TheVariants as kind
use Rattle.trail_files.specs.Json.{json_end, json_entry}
use Rattle.trail_files.specs.Words.{behind_words, means_of}

-- ---- what a line after the first one is

abbrev pub line_in : Said → EntryLine
line_in x = record { place = x.0; ms = x.1; entry = x.2 }

abbrev pub shown_by : Option Said → Option Ended → ShownLine
shown_by (Some x) end = shown.Entry (line_in x)
shown_by None (Some e) = shown.End e
shown_by None None = shown.Nothing

-- an entry if it says one, or else the last line if it says that, or else no line of a trail
abbrev pub shown_of : List ℕ → ShownLine
shown_of line = shown_by (read_line line) (read_end line)

abbrev pub kind_in : ShownLine → LineKind
kind_in (shown.Entry l) = kind.Entry
kind_in (shown.End e) = kind.Last
kind_in shown.Nothing = kind.Stray

abbrev pub kind_of : List ℕ → LineKind
kind_of line = kind_in (shown_of line)

-- bytes that are no whole line end the lines, too
abbrev pub coming : NextLine → List ℕ → LineKind
coming came.Whole line = kind_of line
coming other line = kind.Last

abbrev pub ShowsAs : LineKind → List ℕ → List ℕ → Type 0
ShowsAs kind bytes rest = (came : NextLine) × (line : List ℕ) × ComesAs came line bytes rest × (kind ≡ coming came line)

-- at the line of this number: nothing stops the showing at an entry, it ends at the last line, or that line isn't one
abbrev pub stop_at : ℕ → LineKind → Option (Option ℕ)
stop_at number kind.Entry = None
stop_at number kind.Last = Some None
stop_at number kind.Stray = Some (Some number)

-- n entries come from the line of this number on, and then the showing stops so
abbrev pub ShowsTo : ℕ → ℕ → List ℕ → Option ℕ → Type 0
ShowsTo zero number bytes stopped =
    (k : LineKind) × (rest : List ℕ) × ShowsAs k bytes rest × (stop_at number k ≡ Some stopped)
ShowsTo (suc n) number bytes stopped =
    (rest : List ℕ) × ShowsAs kind.Entry bytes rest × ShowsTo n (number + 1) rest stopped

abbrev pub ShowsFrom : ℕ → Option ℕ → List ℕ → Type 0
ShowsFrom number stopped bytes = (n : ℕ) × ShowsTo n number bytes stopped

-- ---- what is written of a line

abbrev pub time_or : List ℕ → ℕ → List ℕ
time_or [] ms = decimal ms
time_or (b ∷ text) ms = b ∷ text

-- a time in the form of RFC 3339, or its milliseconds since 1970 if its year has more than four digits
abbrev pub shown_time : ℕ → List ℕ
shown_time ms = time_or (when_text [] ms) ms

-- the entry as the line has it, but with its time in this form; and what the number of its refusal means
abbrev pub plain_entry : EntryLine → List ℕ → List ℕ
plain_entry l line =
    decimal l.place ++ (codes " " ++ (shown_time l.ms ++ (codes " " ++ (behind_words 2 line
    ++ (in_parentheses (means_of l.entry) ++ codes "\n")))))

abbrev pub plain_text : ShownLine → List ℕ → List ℕ
plain_text (shown.Entry l) line = plain_entry l line
plain_text (shown.End e) line = line ++ codes "\n"
plain_text shown.Nothing line = []

abbrev pub json_text : ShownLine → List ℕ → List ℕ
json_text (shown.Entry l) line = json_entry l line
json_text (shown.End e) line = json_end e
json_text shown.Nothing line = []

abbrev pub told_text : LineFormat → ShownLine → List ℕ → List ℕ
told_text format.Plain told line = plain_text told line
told_text format.Json told line = json_text told line

abbrev pub text_of : LineFormat → List ℕ → List ℕ
text_of form line = told_text form (shown_of line) line

-- nothing is written of bytes that are no whole line
abbrev pub coming_text : LineFormat → NextLine → List ℕ → List ℕ
coming_text form came.Whole line = text_of form line
coming_text form other line = []

-- a line comes, or none, and this is written of it
abbrev pub Shows : LineFormat → Option (List ℕ) → Option (List ℕ) → LineKind → List ℕ → List ℕ → Type 0
Shows form old new kind bytes rest = (came : NextLine) × (line : List ℕ) × ComesAs came line bytes rest
    × (kind ≡ coming came line) × Appends old new (coming_text form came line)

-- ---- what is written of all lines

-- after a line: more, if it is an entry's
abbrev pub more_after : LineKind → List ℕ → List ℕ
more_after kind.Entry more = more
more_after other more = []

abbrev pub lines_text : LineFormat → List (List ℕ) → List ℕ
lines_text form [] = []
lines_text form (line ∷ lines) = text_of form line ++ more_after (kind_of line) (lines_text form lines)

-- each whole line up to the last one, or up to the first that isn't a line of a trail
abbrev pub shown_text : LineFormat → List ℕ → List ℕ
shown_text form bytes = lines_text form (whole_lines bytes)
