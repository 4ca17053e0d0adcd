-- Which lines are commands, and which are refused.
use Rattle.std.specs.Prelude.{◌≡◌, ℕ, ◌<◌, ◌≤◌, true, false, nat_lt, if◌then◌else◌, List, [], ◌∷◌}
use Rattle.std.specs.Prelude.{length, Option, Some, None, Result, Ok, Err}
use Rattle.std.specs.List.{AllByRecursion}
use Rattle.std.specs.Str.{chars, is_utf8}
use Rattle.strings.specs.declared.text.Word.{Word}
use Rattle.strings.specs.Grammar.{IsCut}
use Rattle.strings.specs.Lines.{words}
use Rattle.command_lang.specs.declared.command.Command.{Command}
use Rattle.command_lang.specs.declared.fault.FaultKind.TheVariants as faults
use Rattle.command_lang.specs.declared.fault.ParseFault.{ParseFault}
use Rattle.command_lang.specs.Table.{at, first_of}
use Rattle.command_lang.specs.Meaning.{line_command}
use Rattle.command_lang.specs.LineFaults.{line_faults, no_memory}

-- The line is text of at most 1,024 bytes, and is cut into these words.
pub record HasWords (line : List ℕ) (ws : List Word) : Type 0 where
  pub short : length line ≤ 1024
  pub text : is_utf8 line ≡ true
  pub cut : IsCut (chars line) ws

-- The line is the command: its words have no fault, and mean the command.
pub record Relates (line : List ℕ) (c : Command) : Type 0 where
  pub words : List Word
  pub has : HasWords line words
  pub fine : line_faults (length line) words ≡ []
  pub means : line_command words ≡ Some c

-- The line is no command, and this is its first fault. A line that is too long, or isn't UTF-8, has
-- no other fault.
pub data Refuses : List ℕ → ParseFault → Type 0 where
  long : {line : List ℕ} → 1024 < length line → Refuses line (at 1024 faults.TooLong)
  no_text : {line : List ℕ} → length line ≤ 1024 → is_utf8 line ≡ false
      → Refuses line (at 0 faults.BadWord)
  fault : {line : List ℕ} {ws : List Word} {f : ParseFault} → HasWords line ws
      → first_of (line_faults (length line) ws) ≡ Some f → Refuses line f

-- no fault of the line's words is at a lower place than this one
abbrev pub NoneBefore : List ℕ → ParseFault → Type 0
NoneBefore line f =
    (ws : List Word) → HasWords line ws
    → AllByRecursion (λ g. f.place ≤ g.place) (line_faults (length line) ws)

-- What the relations above say, computed.
abbrev pub faults_of : List ℕ → List ParseFault
faults_of line =
    if nat_lt 1024 (length line) then at 1024 faults.TooLong ∷ []
    else if is_utf8 line then line_faults (length line) (words (chars line))
    else at 0 faults.BadWord ∷ []

-- a line without a fault always means a command, so the other case doesn't occur
abbrev pub command_or : Option Command → Result Command ParseFault
command_or None = Err no_memory
command_or (Some c) = Ok c

abbrev pub read_line : List ℕ → Result Command ParseFault
read_line line = elim (first_of (faults_of line)) [
  | Some f ↦ Err f
  | None ↦ command_or (line_command (words (chars line)))
]
