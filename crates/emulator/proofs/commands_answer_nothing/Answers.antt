use Rattle.emulator.proofs.Writings.{clear-quiet, reset-quiet, coding-quiet}
use Rattle.emulator.proofs.commands_answer_nothing.Goals as goal

pub returns : goal.returns
returns c = record { clear = clear-quiet; reset = reset-quiet; encoding = coding-quiet }
