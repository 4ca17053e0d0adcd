-- The line of an entry: its place, its time, its event, its reply, what was checked and what was
-- done.
use Rattle.std.specs.Prelude.{ℕ, ◌^◌, Bool, if◌then◌else◌, ◌==◌, List, [], ◌∷◌, ◌++◌, Option}
use Rattle.std.specs.Prelude.{Some, None, option_map, codes, decimal}
use Rattle.std.specs.List.{flat_map}
use Rattle.std.specs.Str.{bytes_eq}
use Rattle.acl.specs.declared.act.Act.{Act}
use Rattle.session.specs.refusal.Verdict.{Verdict}
use Rattle.hub.specs.Trails.{Ending, Entry}
use Rattle.line_fields.specs.Cutting.{◌>>=◌, words}
use Rattle.trail_lines.specs.declared.entries.Remark.{Remark}
use Rattle.trail_lines.specs.declared.entries.Remark.TheVariants as note
use Rattle.trail_lines.specs.declared.entries.Remarks.{Remarks}
use Rattle.trail_lines.specs.declared.entries.EntryLine.{EntryLine}
use Rattle.line_fields.specs.Parts.{blank, field}
use Rattle.line_fields.specs.Numbers.{number_at}
use Rattle.line_fields.specs.Acts.{act_text, act_in, verdict_text, verdict_in}
use Rattle.trail_lines.specs.Events.{event_then, event_at}
use Rattle.trail_lines.specs.Replies.{reply_text, reply_in}

-- ---- printing

-- a verdict after a question mark, an act after an exclamation mark
abbrev pub checked_text : Verdict → List ℕ
checked_text v = codes " ?" ++ verdict_text v

abbrev pub done_text : Act → List ℕ
done_text a = codes " !" ++ act_text a

abbrev pub tail_text : Entry → List ℕ
tail_text e =
    reply_text e.reply ++ (flat_map checked_text e.verdicts ++ flat_map done_text e.acts)

-- a place in a trail, a time, in milliseconds since 1970, and an entry
abbrev pub Said : Type 0
Said = ℕ × ℕ × Entry

-- the line of an entry, without its line feed
abbrev pub line_of : Said → List ℕ
line_of x =
    field blank (decimal x.0) (field blank (decimal x.1) (event_then x.2.event (tail_text x.2)))

-- ---- reading

abbrev pub note_in : List ℕ → Option Remark
note_in [] = None
note_in (first ∷ rest) =
    if first == 0x3F then option_map note.Checked (verdict_in rest)
    else if first == 0x21 then option_map note.Done (act_in rest)
    else None

-- verdicts and acts
abbrev pub Noted : Type 0
Noted = List Verdict × List Act

abbrev pub noting : Noted → Remark → Noted
noting before (note.Checked v) = (before.0 ++ v ∷ [], before.1)
noting before (note.Done a) = (before.0, before.1 ++ a ∷ [])

-- those that the words say, after others
unfoldable pub notes_of : List (List ℕ) → Noted → Option Noted
notes_of [] before = Some before
notes_of (word ∷ words) before = note_in word >>= λ n. notes_of words (noting before n)

-- a reply, and the verdicts and acts after it
abbrev pub tail_of : List (List ℕ) → Option (Ending × Noted)
tail_of [] = None
tail_of (word ∷ words) = do
  reply ← reply_in word
  noted ← notes_of words ([], [])
  Some (reply, noted)

abbrev pub tail_in : List ℕ → Option (Ending × Noted)
tail_in bytes = tail_of (words blank bytes)

unfoldable pub said_in : List ℕ → Option Said
said_in line = do
  place ← number_at (2 ^ 64) blank line
  ms ← number_at (2 ^ 64) blank place.1
  event ← event_at ms.1
  tail ← tail_in event.1
  Some (
    place.0,
    ms.0,
    record {
      event = event.0;
      verdicts = tail.1.0;
      acts = tail.1.1;
      reply = tail.0;
    },
  )

-- the entry that is printed so
abbrev pub if_spelled : List ℕ → Said → Option Said
if_spelled line x = if bytes_eq (line_of x) line then Some x else None

-- what a line says
unfoldable pub read_line : List ℕ → Option Said
read_line line = said_in line >>= if_spelled line

-- ---- as the code has it

abbrev pub noted : Remarks → Noted
noted n = (n.verdicts.items, n.acts.items)

abbrev pub said : EntryLine → Said
said l = (l.place, l.ms, l.entry)
