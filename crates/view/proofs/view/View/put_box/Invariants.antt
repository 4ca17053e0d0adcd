use Rattle.view.proofs.Vocabulary.{◌≡◌, ◌<◌, true, length, all_scalars, line_at, HasSize, IsFree, Lays, part_of}
use Rattle.view.proofs.Vocabulary.{box_cell, caption_text, HasPairedLines}
use Rattle.view.proofs.Laying.{first_rows}
use Rattle.view.proofs.view.View.put_box.Given as goal

abbrev pub invariant-loop-row : goal.invariant-loop-row
invariant-loop-row l = record {
  size : HasSize (length l.fn.self.page) (length (line_at l.fn.self.page 0)) l.self;
  lays : HasPairedLines (part_of l.pane) → IsFree l.rect l.fn.self.page
      → Lays (first_rows (record { rect = l.rect; cell = box_cell l.rect l.is_focused (part_of l.pane) }) l.row)
      l.fn.self l.self;
  characters : 0 < l.row → l.row ≡ l.rect.rows → all_scalars (caption_text (part_of l.pane)) ≡ true;
}
