-- Entries and last lines as objects of JSON (RFC 8259).
use Rattle.std.specs.Prelude.{ℕ, ◌==◌, ◌||◌, Bool, true, false, if◌then◌else◌, List, [], ◌∷◌, ◌++◌, Option, Some, None}
use Rattle.std.specs.Prelude.{codes, decimal}
use Rattle.std.specs.List.{filter_map, flat_map}
use Rattle.line_fields.specs.Cutting.{words}
use Rattle.line_fields.specs.Dates.{when_text}
use Rattle.line_fields.specs.Parts.{blank}
use Rattle.trail_lines.specs.Heading.{cause_text}
use Rattle.trail_lines.specs.declared.ending.Ended.{Ended}
use Rattle.trail_lines.specs.declared.entries.EntryLine.{EntryLine}
use Rattle.trail_files.specs.Words.{behind_word, behind_words, first_word, means_of, word_count, words_in}

-- ---- strings of bytes of 20 to 7E, and lists of them

abbrev pub byte_text : ℕ → List ℕ
byte_text b = if b == 0x22 || b == 0x5C then 0x5C ∷ b ∷ [] else b ∷ []

abbrev pub string_text : List ℕ → List ℕ
string_text bytes = codes "\"" ++ (flat_map byte_text bytes ++ codes "\"")

abbrev pub item_text : Bool → List ℕ → List ℕ
item_text true word = string_text word
item_text false word = codes "," ++ string_text word

-- with commas between
abbrev pub items_text : Bool → List (List ℕ) → List ℕ
items_text is_first [] = []
items_text is_first (word ∷ words) = item_text is_first word ++ items_text false words

-- ---- parts of an object

abbrev pub quoted : List ℕ → List ℕ
quoted [] = []
quoted (b ∷ text) = (b ∷ text) ++ codes "\""

-- a number and a time: its milliseconds since 1970, and its form of RFC 3339 if its year has four digits
abbrev pub begin_text : List ℕ → ℕ → ℕ → List ℕ
begin_text begin number ms =
    begin ++ (decimal number ++ (codes ",\"ms\":" ++ (decimal ms ++ quoted (when_text (codes ",\"time\":\"") ms))))

abbrev pub event_text : ℕ → List ℕ → List ℕ
event_text count text = codes ",\"event\":[" ++ (items_text true (words_in count text) ++ codes "]")

abbrev pub means_text : List ℕ → List ℕ
means_text [] = []
means_text (b ∷ means) = codes ",\"means\":" ++ string_text (b ∷ means)

-- a word with this mark, without the mark
abbrev pub note_in : ℕ → List ℕ → Option (List ℕ)
note_in mark [] = None
note_in mark (b ∷ note) = if b == mark then Some note else None

-- the words with this mark as a list's strings, without the mark
abbrev pub marked_text : Bool → ℕ → List (List ℕ) → List ℕ
marked_text is_first mark words = items_text is_first (filter_map (note_in mark) words)

abbrev pub notes_text : List ℕ → ℕ → List ℕ → List ℕ
notes_text begin mark text = begin ++ (marked_text true mark (words blank text) ++ codes "]")

-- a reply, and what its number means
abbrev pub reply_text : List ℕ → List ℕ → List ℕ
reply_text means reply = codes ",\"reply\":" ++ (string_text reply ++ means_text means)

-- the checks and the acts that follow it
abbrev pub lists_text : List ℕ → List ℕ
lists_text notes = notes_text (codes ",\"checks\":[") 0x3F notes ++ notes_text (codes ",\"acts\":[") 0x21 notes

-- ---- objects, one a line

unfoldable pub outcome_text : List ℕ → List ℕ → List ℕ
outcome_text means text =
    reply_text means (first_word text) ++ (lists_text (behind_word text) ++ codes "}\n")

-- an event of this many words, and what became of it
abbrev pub entry_text : List ℕ → ℕ → List ℕ → List ℕ
entry_text means count text = event_text count text ++ outcome_text means (behind_words count text)

abbrev pub json_entry : EntryLine → List ℕ → List ℕ
json_entry l line =
    begin_text (codes "{\"place\":") l.place l.ms
    ++ entry_text (means_of l.entry) (word_count l.entry.event) (behind_words 2 line)

abbrev pub json_end : Ended → List ℕ
json_end e =
    begin_text (codes "{\"end\":") e.entries e.ms
    ++ (codes ",\"why\":" ++ (string_text (cause_text e.cause) ++ codes "}\n"))
