-- The command lines of a setup file.
use Rattle.std.specs.Prelude.{ℕ, ◌+◌, Bool, true, List, [], ◌∷◌, length, nat_lt, ◌==◌, take, drop}
use Rattle.std.specs.Prelude.{if◌then◌else◌, Option, Some, None}
use Rattle.std.specs.List.{position, slice_split}
use Rattle.std.specs.Option.{option_or}
use Rattle.std.specs.Str.{is_utf8}
use Prim.Native.Char.{code}
use Rattle.program_words.specs.declared.setup.SetupLine.{SetupLine}
use Rattle.program_words.specs.declared.setup.SetupFault.{SetupFault}
use Rattle.program_words.specs.declared.setup.SetupFault.TheVariants.{TooLong, NotText}

-- a line of a file with its number, counted from 1
pub record Line : Type 0 where
  pub number : ℕ
  pub bytes : List ℕ

abbrev pub numbered : ℕ → List ℕ → Line
numbered number bytes = record { number = number; bytes = bytes }

-- the line is empty or begins with #
abbrev pub is_skipped : List ℕ → Bool
is_skipped [] = true
is_skipped (byte ∷ bytes) = byte == code "#"

abbrev pub is_feed : ℕ → Bool
is_feed byte = byte == 0x0A

-- the lines without the skipped ones, if the first line has this number
abbrev pub commands_from : ℕ → List (List ℕ) → List Line
commands_from number [] = []
commands_from number (line ∷ lines) =
    if is_skipped line then commands_from (number + 1) lines
    else numbered number line ∷ commands_from (number + 1) lines

abbrev pub commands_in : List ℕ → List Line
commands_in file = commands_from 1 (slice_split is_feed file)

-- a command line is at most 1,024 bytes of UTF-8
abbrev pub fault_of : Line → Option SetupFault
fault_of line =
    if nat_lt 1024 (length line.bytes) then Some (TooLong line.number)
    else if is_utf8 line.bytes then None
    else Some (NotText line.number)

-- the fault of the first of these lines that has one
abbrev pub first_fault : List Line → Option SetupFault
first_fault [] = None
first_fault (line ∷ lines) = option_or (fault_of line) (first_fault lines)

abbrev pub line_of : SetupLine → Line
line_of line = numbered line.number line.text.now

-- ---- `NAME: COMMAND`

abbrev pub is_colon : ℕ → Bool
is_colon byte = byte == 0x3A

-- the command after a colon begins with a blank
abbrev pub after_blank : List ℕ → List ℕ → Option (List ℕ × List ℕ)
after_blank name [] = None
after_blank name (byte ∷ command) = if byte == 0x20 then Some (name, command) else None

abbrev pub speech_at : List ℕ → Option ℕ → Option (List ℕ × List ℕ)
speech_at line None = None
speech_at line (Some at) = after_blank (take at line) (drop (at + 1) line)

-- what stands before the first colon, and what stands after it and a blank
abbrev pub speech_in : List ℕ → Option (List ℕ × List ℕ)
speech_in line = speech_at line (position is_colon line)
