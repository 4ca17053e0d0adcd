use Rattle.view.proofs.Vocabulary.{ℕ, ◌+◌, map, length, Shape, HasPageSize, AreParts, part_of}
use Rattle.view.proofs.Stages.{Stage}
use Rattle.view.proofs.composing.compose_on.Given as goal

abbrev pub invariant-loop-place : goal.invariant-loop-place
invariant-loop-place l = record {
  size : HasPageSize l.rects l.view;
  stage : (s : Shape) (rows columns : ℕ) → AreParts s rows columns l.rects (map part_of l.panes)
      → Stage l.rects (map part_of l.panes) l.status l.place l.view;
}

abbrev pub invariant-loop-separator : goal.invariant-loop-separator
invariant-loop-separator l = record {
  size : HasPageSize l.rects l.view;
  stage : (s : Shape) (rows columns : ℕ) → AreParts s rows columns l.rects (map part_of l.panes)
      → Stage l.rects (map part_of l.panes) l.status (length l.rects.boxes.items + l.separator-index) l.view;
}
