use Rattle.terminal_model.proofs.Sound.{IsSound-starting, IsSound-effect, IsSound-resized}
use Rattle.terminal_model.proofs.laws.screens_stay_sound.Goals as goal

pub returns : goal.returns
returns c = record { starting = IsSound-starting; effect = IsSound-effect; resized = IsSound-resized }
