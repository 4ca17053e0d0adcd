-- Which bytes a reader has taken.
use Rattle.std.specs.Prelude.{◌≡◌, ℕ, List, take}
use Rattle.client_words.specs.declared.size_lines.SizeLines.{SizeLines}
use Rattle.client_words.specs.declared.leaving.LeaveReader.{LeaveReader}
use Rattle.client_words.specs.Lines.{ended, unended, has_other}
use Rattle.client_words.specs.Leaving.{stage}

-- it keeps the beginning of the line that hasn't ended, up to 64 bytes, and whether a line said no size
pub record StandsFor (reader : SizeLines) (bytes : List ℕ) : Type 0 where
  pub line : reader.line.items ≡ take 64 (unended bytes)
  pub dropped : reader.has_dropped ≡ has_other (ended bytes)

-- it says whether the user left
pub record HasRead (reader : LeaveReader) (bytes : List ℕ) : Type 0 where
  pub stage : reader.stage ≡ stage reader.byte bytes
