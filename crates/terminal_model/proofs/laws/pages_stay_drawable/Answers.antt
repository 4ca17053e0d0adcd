use Rattle.terminal_model.proofs.DrawableScreens.{drawable-starting, drawable-effect, drawable-resized}
use Rattle.terminal_model.proofs.DrawableTerminals.{drawable-reads, drawable-writes_all}
use Rattle.terminal_model.proofs.laws.pages_stay_drawable.Goals as goal

pub returns : goal.returns
returns c = record {
  starting = drawable-starting;
  effect = drawable-effect;
  resized = drawable-resized;
  reading = drawable-reads;
  writing = drawable-writes_all;
}
