use Rattle.view.proofs.Vocabulary.{◌≡◌, length, line_at, HasSize, IsFree, Lays, separator_piece}
use Rattle.view.proofs.Laying.{first_rows}
use Rattle.view.proofs.view.View.put_separator.Given as goal

abbrev pub invariant-loop-row : goal.invariant-loop-row
invariant-loop-row l = record {
  size : HasSize (length l.fn.self.page) (length (line_at l.fn.self.page 0)) l.self;
  lays : l.rect.columns ≡ 1 → IsFree l.rect l.fn.self.page
      → Lays (first_rows (separator_piece l.rect) l.row) l.fn.self l.self;
}
