use Rattle.terminal_model.proofs.Resets.{frame-terminal, frame-reports}
use Rattle.terminal_model.proofs.laws.frames_start_anew.Goals as goal

pub returns : goal.returns
returns c = record { terminal = frame-terminal; reports = frame-reports }
