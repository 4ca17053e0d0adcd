-- The faults of a command's words.
use Rattle.std.specs.Prelude.{ℕ, ◌+◌, not, nat_lt, ◌==◌, if◌then◌else◌, List, [], ◌∷◌, ◌++◌, Option}
use Rattle.std.specs.Prelude.{Some, None, option_to_list}
use Rattle.std.specs.Option.{is_some}
use Rattle.command_lang.specs.declared.rows.Kind.{Kind}
use Rattle.command_lang.specs.declared.rows.Kind.TheVariants as kind
use Rattle.command_lang.specs.declared.rows.Words.{Words}
use Rattle.command_lang.specs.declared.rows.Words.TheVariants.{Nothing, One, Perhaps, OneOrTwo, Three, Several}
use Rattle.strings.specs.declared.text.Word.{Word}
use Rattle.command_lang.specs.declared.fault.FaultKind.{FaultKind}
use Rattle.command_lang.specs.declared.fault.FaultKind.TheVariants as faults
use Rattle.command_lang.specs.declared.fault.ParseFault.{ParseFault}
use Rattle.command_lang.specs.Values.{is_number, lock_mode_in, switch_in, coding_in}
use Rattle.command_lang.specs.Values.{is_vertical, is_bits, has_empty_item}
use Rattle.command_lang.specs.MaskFaults.{unless, mask_fault}

-- the least number of words
abbrev pub least : Words → ℕ
least Nothing = 0
least (One a) = 1
least (Perhaps a) = 0
least (OneOrTwo a b) = 1
least (Three a b c) = 3
least (Several a) = 1

-- what the word with this number has to be; None if there may be no such word
abbrev pub kind_at : Words → ℕ → Option Kind
kind_at Nothing i = None
kind_at (One a) i = if i == 0 then Some a else None
kind_at (Perhaps a) i = if i == 0 then Some a else None
kind_at (OneOrTwo a b) i = if i == 0 then Some a else if i == 1 then Some b else None
kind_at (Three a b c) i =
    if i == 0 then Some a else if i == 1 then Some b else if i == 2 then Some c else None
kind_at (Several a) i = Some a

-- why a text isn't what its word has to be
abbrev pub kind_fault : Kind → List ℕ → Option FaultKind
kind_fault kind.Text text = None
kind_fault kind.Items text = unless (not (has_empty_item text)) faults.BadWord
kind_fault kind.Bits text = unless (is_bits text) faults.BadBits
kind_fault kind.Mask text = mask_fault text
kind_fault (kind.Number limit) text = unless (is_number limit text) faults.BadNumber
kind_fault kind.LockMode text = unless (is_some (lock_mode_in text)) faults.BadWord
kind_fault kind.Switch text = unless (is_some (switch_in text)) faults.BadWord
kind_fault kind.Coding text = unless (is_some (coding_in text)) faults.BadWord
kind_fault kind.Vertical text = unless (is_vertical text) faults.BadWord

abbrev pub at : ℕ → FaultKind → ParseFault
at place kind = record { kind = kind; place = place }

abbrev pub at_place : ℕ → Option FaultKind → Option ParseFault
at_place place None = None
at_place place (Some kind) = Some (at place kind)

-- why a word isn't what it has to be, or that there may be no word there
abbrev pub judged : Option Kind → List ℕ → Option FaultKind
judged None text = Some faults.ExtraWord
judged (Some k) text = kind_fault k text

-- the fault of a word; BadQuote comes before any other
abbrev pub word_fault : Option Kind → Word → Option ParseFault
word_fault k w = at_place w.place (if w.is_closed then judged k w.text else Some faults.BadQuote)

-- The faults of a command's words from number i on, in a line of that length, by rising place.
unfoldable pub words_faults : Words → ℕ → ℕ → List Word → List ParseFault
words_faults r i end [] = if nat_lt i (least r) then at end faults.MissingWord ∷ [] else []
words_faults r i end (w ∷ ws) =
    option_to_list (word_fault (kind_at r i) w) ++ words_faults r (i + 1) end ws

abbrev pub first_of : {A : Type 0} → List A → Option A
first_of [] = None
first_of (x ∷ xs) = Some x
