use Rattle.terminal_model.proofs.Further.{IsPlain-frame_start, IsDrawn-frame_start}
use Rattle.terminal_model.proofs.laws.frames_start_plain.Goals as goal

pub returns : goal.returns
returns c = record { plain = IsPlain-frame_start; drawn = IsDrawn-frame_start }
