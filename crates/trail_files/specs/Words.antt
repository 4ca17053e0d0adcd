-- The words of an entry's line, and what the number of its refusal means.
use Rattle.std.specs.Prelude.{ℕ, zero, suc, List, [], ◌∷◌, Option, Some, None, Ok, Err}
use Rattle.hub.specs.Trails.{Ending, Entry}
use Rattle.hub.specs.kept.Kept.{Kept}
use Rattle.hub.specs.kept.Kept.TheVariants as kept
use Rattle.line_fields.specs.Cutting.{cut}
use Rattle.line_fields.specs.Meaning.{means}
use Rattle.line_fields.specs.Parts.{blank}
use Rattle.line_fields.specs.Texts.{escaped}

abbrev pub word_by : List ℕ → Option (List ℕ × List ℕ) → List ℕ
word_by text None = text
word_by text (Some parts) = parts.0

abbrev pub rest_by : Option (List ℕ × List ℕ) → List ℕ
rest_by None = []
rest_by (Some parts) = parts.1

-- the first word, and what follows its blank; a text that has no blank is one word
abbrev pub first_word : List ℕ → List ℕ
first_word text = word_by text (cut blank text)

abbrev pub behind_word : List ℕ → List ℕ
behind_word text = rest_by (cut blank text)

-- the first words, this many, and what follows them
abbrev pub words_in : ℕ → List ℕ → List (List ℕ)
words_in zero text = []
words_in (suc n) text = first_word text ∷ words_in n (behind_word text)

abbrev pub behind_words : ℕ → List ℕ → List ℕ
behind_words zero text = text
behind_words (suc n) text = behind_words n (behind_word text)

-- how many words an event has
abbrev pub word_count : Kept → ℕ
word_count (kept.Attach user rows columns) = 4
word_count (kept.Detach client) = 2
word_count (kept.Keys client) = 2
word_count (kept.Command user window line) = 4
word_count (kept.Open user rows columns keep title) = 6
word_count (kept.Closed window) = 2

-- the line of a command; empty for another event
abbrev pub command_line : Kept → List ℕ
command_line (kept.Command user window line) = line
command_line event = []

abbrev pub means_by : Kept → Ending → List ℕ
means_by event (Ok f) = []
means_by event (Err r) = means r (command_line event)

-- in bytes of 20 to 7E; nothing if the entry isn't refused, or if its refusal has no number
abbrev pub means_of : Entry → List ℕ
means_of e = escaped 0x20 (means_by e.event e.reply)
