-- The laws of steps on which the proofs of this crate stand, put together as one value.
use Rattle.session.proofs.RowsByKeys.{rows_keyed}
use Rattle.session.proofs.Promising.{step_keeps}
use Rattle.session.proofs.RowsByLines.{rows_done, refused_so}
use Rattle.session.proofs.Gating.{Below}

pub below : Below
below = record {
  keep = step_keeps;
  done = λ t e step. rows_done t e.event e.reply e.acts e.verdicts e.effects step;
  refused = λ t e step. refused_so t e.event e.reply e.acts e.verdicts e.effects step;
  keyed = λ t e step. rows_keyed t e.event e.reply e.acts e.verdicts e.effects step;
}
