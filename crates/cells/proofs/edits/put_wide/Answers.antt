use Rattle.cells.proofs.Vocabulary.{◌+◌, [], ◌∷◌, ◌≡◌, length, set, sym, ap, ◌∙◌, arith, get_or_default, Cell, blank}
use Rattle.cells.proofs.Vocabulary.{cells_from, spliced, is_left, is_right}
use Rattle.cells.proofs.OverBlanks.{put_two}
use Rattle.cells.proofs.PuttingWhole.{put_wide_plain}
use Rattle.cells.proofs.edits.put_wide.Goals as goal
use Rattle.cells.proofs.edits.put_wide.Goals.{then-rest-at, else-rest-at+else-is_right+else-is_left}

pub returns : goal.returns
returns c = elim c.if-rest-at.branch [
  | then-rest-at w ↦
      ap (λ x. set (set x c.args.at c.args.left) (c.args.at + 1) c.args.right) (w.cells-is ∙ w.splice.ensures)
      ∙ put_two c.args.at c.args.left c.args.right c.args.rest c.args.cells.now c.requires.order c.requires.inside
      c.requires.room c.requires.paired c.requires.left c.requires.right
  | else-rest-at+else-is_right+else-is_left w ↦
      let rest : c.args.rest ≡ c.args.at + 2 = w.if-rest-at.false in
      ap (λ x. set (set x c.args.at c.args.left) (c.args.at + 1) c.args.right) w.cells-is
      ∙ put_wide_plain c.args.at c.args.left c.args.right c.args.cells.now c.requires.room
      c.requires.paired c.requires.left c.requires.right
      (ap (λ (x : Cell). is_right x.shape) (get_or_default c.args.cells.now c.args.at blank _ (omega arith))
      ∙ sym w.is_right.ensures ∙ w.if-is_right.false)
      (ap (λ (x : Cell). is_left x.shape) (get_or_default c.args.cells.now (c.args.at + 1) blank _ (omega arith))
      ∙ sym w.is_left.ensures ∙ w.if-is_left.false)
      ∙ ap (λ n. cells_from (spliced c.args.at (c.args.left ∷ c.args.right ∷ []) n (length c.args.cells.now))
      c.args.cells.now) (sym rest)
]
