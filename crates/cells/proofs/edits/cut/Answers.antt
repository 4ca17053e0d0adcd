use Rattle.cells.proofs.Vocabulary.{◌≡◌, ℕ, false, List, sym, ap, ◌∙◌, arith, get_or_past, get_or_default, Cell, blank}
use Rattle.cells.proofs.Vocabulary.{cell_at, is_right, cut_of}
use Rattle.cells.proofs.edits.cut.Goals as goal
use Rattle.cells.proofs.edits.cut.Goals.{else-at-gt0-via-then-at-gt0+then-at-cells+else-is_right}
use Rattle.cells.proofs.edits.cut.Goals.{else-at-gt0-via-then-at-gt0+else-at-cells, else-at-gt0-via-else-at-gt0}

uncut : (cells : List Cell) (at : ℕ) → is_right (cell_at cells at).shape ≡ false → cells ≡ cut_of at cells
uncut cells at h = rw h

pub returns-else-at-gt0 : goal.returns-else-at-gt0
returns-else-at-gt0 c = elim c.else-at-gt0.branch [
  | else-at-gt0-via-then-at-gt0+then-at-cells+else-is_right w ↦ uncut c.args.cells.now c.args.at
      (ap (λ (x : Cell). is_right x.shape) (get_or_default c.args.cells.now c.args.at blank _ (omega arith))
      ∙ sym w.is_right.ensures ∙ w.if-is_right.false)
  | else-at-gt0-via-then-at-gt0+else-at-cells w ↦ uncut c.args.cells.now c.args.at
      (ap (λ (x : Cell). is_right x.shape) (get_or_past c.args.cells.now c.args.at blank (omega arith)))
  | else-at-gt0-via-else-at-gt0 w ↦ uncut c.args.cells.now c.args.at
      (let e : c.args.at ≡ 0 = omega arith in rw e c.requires.paired.first)
]
