use Rattle.cells.proofs.Vocabulary.{[], ◌∷◌, ◌+◌, ◌≡◌, length, set, sym, ap, ◌∙◌, arith, get_or_default, Cell, blank}
use Rattle.cells.proofs.Vocabulary.{cells_from, spliced}
use Rattle.cells.proofs.OverBlanks.{put_one}
use Rattle.cells.proofs.PuttingWhole.{put_narrow_plain}
use Rattle.cells.proofs.edits.put_narrow.Goals as goal
use Rattle.cells.proofs.edits.put_narrow.Goals.{then-rest-at, else-rest-at+else-not-is_narrow}

pub returns : goal.returns
returns c = elim c.if-rest-at.branch [
  | then-rest-at w ↦ ap (λ x. set x c.args.at c.args.cell) (w.cells-is ∙ w.splice.ensures)
      ∙ put_one c.args.at c.args.cell c.args.rest c.args.cells.now c.requires.order c.requires.inside c.requires.room
      c.requires.paired c.requires.narrow
  | else-rest-at+else-not-is_narrow w ↦
      let rest : c.args.rest ≡ c.args.at + 1 = w.if-rest-at.false in
      ap (λ x. set x c.args.at c.args.cell) w.cells-is
      ∙ put_narrow_plain c.args.at c.args.cell c.args.cells.now c.requires.room c.requires.paired c.requires.narrow
      (ap (λ (x : Cell). x.shape) (get_or_default c.args.cells.now c.args.at blank _ (omega arith))
      ∙ w.is_narrow.ensures.0 w.if-not-is_narrow.false)
      ∙ ap (λ n. cells_from (spliced c.args.at (c.args.cell ∷ []) n (length c.args.cells.now)) c.args.cells.now)
      (sym rest)
]
