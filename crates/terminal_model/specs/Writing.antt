-- What happens to a window's terminal: its program's output, changes of size, and commands.
use Rattle.std.specs.Prelude.{ℕ, codes, List, [], ◌∷◌, ◌++◌}
use Rattle.charsets.specs.declared.decoder.Coding.{Coding}
use Rattle.charsets.specs.declared.decoder.Coding.TheVariants.{Utf8, Ecma35}
use Rattle.cells.specs.Page.{IsGridSize}
use Rattle.terminal_model.specs.Sizing.{resized}
use Rattle.terminal_model.specs.Reading.{Terminal, ready, Read, nothing_read, joined, reads}

-- bytes of the window's program, a change of size, and the commands clear, reset and encoding
pub data Writing : Type 0 where
  Output : List ℕ → Writing
  Size : ℕ → ℕ → Writing
  Clear : Writing
  Reset : Writing
  Encoding : Coding → Writing

-- a change of size is to a size that a window can have
abbrev pub IsWriting : Writing → Type 0
IsWriting (Size rows columns) = IsGridSize rows columns
IsWriting w = Unit {0}

-- CSI 2 J, CSI H
abbrev pub clear_bytes : List ℕ
clear_bytes = (0x1B ∷ codes "[2J") ++ (0x1B ∷ codes "[H")

-- RIS
abbrev pub reset_bytes : List ℕ
reset_bytes = 0x1B ∷ codes "c"

-- ESC % G, ESC % @
abbrev pub coding_bytes : Coding → List ℕ
coding_bytes Utf8 = 0x1B ∷ codes "%G"
coding_bytes Ecma35 = 0x1B ∷ codes "%@"

-- reads bytes as if the program had written them; an incomplete character, sequence or string is
-- dropped first (own)
abbrev pub reads_anew : Terminal → List ℕ → Read
reads_anew t bytes = reads (ready t.screen) bytes

-- a change of size leaves an incomplete character, sequence or string as it is
abbrev pub writes : Terminal → Writing → Read
writes t (Output bytes) = reads t bytes
writes t (Size rows columns) = nothing_read (record t { screen = resized rows columns t.screen })
writes t Clear = reads_anew t clear_bytes
writes t Reset = reads_anew t reset_bytes
writes t (Encoding coding) = reads_anew t (coding_bytes coding)

unfoldable pub writes_all : Terminal → List Writing → Read
writes_all t [] = nothing_read t
writes_all t (w ∷ later) = joined (writes t w) (writes_all (writes t w).terminal later)
