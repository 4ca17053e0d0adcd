use Rattle.view.proofs.Vocabulary.{◌≡◌, ◌-◌, ◌<◌, ℕ, length, arith, sym, ap, ◌∙◌, get_or, List, false, slice_set}
use Rattle.view.proofs.Vocabulary.{get_or-set_other, ⊎_elim, cases_eq, get_or_default, Cell, blank, narrow_cell, uncut}
use Rattle.std.proofs.lemmas.List.{length-set}
use Rattle.std.proofs.lemmas.Grind.{get_or-set_at}
use Rattle.view.proofs.Pairing.{uncut_before}
use Rattle.view.proofs.text.cut_end.Goals as goal

-- a row after the cell in its last column was put anew
put_last : (row : List Cell) (cell space : Cell) → 0 < length row
    → cell ≡ uncut (length row) (length row - 1) (get_or row (length row - 1) blank) space
    → (column : ℕ) → column < length row
    → get_or (slice_set row (length row - 1) cell) column blank
    ≡ uncut (length row) column (get_or row column blank) space
put_last row cell space some is column lt = ⊎_elim
    (λ (e : column ≡ length row - 1). get_or-set_at row (length row - 1) column cell blank e (omega arith)
    ∙ is ∙ ap (λ k. uncut (length row) k (get_or row k blank) space) (sym e))
    (λ (ne : column ≡ length row - 1 → ⊥). get_or-set_other row (length row - 1) column cell blank ne
    ∙ sym (uncut_before (length row) column (get_or row column blank) space (λ h. ne (omega arith))))
    (cases_eq column (length row - 1))

pub returns-then-columns-gt0 : goal.returns-then-columns-gt0
returns-then-columns-gt0 c =
    let row : List Cell = c.args.row.now in
    let last : ℕ = length row - 1 in
    let space : Cell = narrow_cell 32 c.args.rendition false in
    let there : c.index-row-columns.result ≡ get_or row last blank = c.index-row-columns.is
    ∙ get_or_default row last c.index-row-columns.result blank (omega (arith, c.if-columns-gt0.true)) in
    record {
      width = length-set row last c.uncut.result;
      cells_are = put_last row c.uncut.result space c.if-columns-gt0.true
          (c.uncut.ensures
          ∙ ap (λ (s : Cell). uncut (length row) last c.index-row-columns.result s) c.narrow-space.ensures
          ∙ ap (λ (x : Cell). uncut (length row) last x space) there);
    }
