-- What a command writes to a terminal.
use Rattle.std.specs.Prelude.{ℕ, List}
use Rattle.terminal_model.specs.Writing as model
use Rattle.terminal_model.specs.Writing.{clear_bytes, reset_bytes, coding_bytes}
use Rattle.emulator.specs.declared.emulator.Writing.{Writing}
use Rattle.emulator.specs.declared.emulator.Writing.TheVariants as writing

-- as a writing of the definitions
abbrev pub writing_in : Writing → model.Writing
writing_in writing.Clear = model.Clear
writing_in writing.Reset = model.Reset
writing_in (writing.Encoding coding) = model.Encoding coding

abbrev pub bytes_in : Writing → List ℕ
bytes_in writing.Clear = clear_bytes
bytes_in writing.Reset = reset_bytes
bytes_in (writing.Encoding coding) = coding_bytes coding
