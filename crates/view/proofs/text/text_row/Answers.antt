use Rattle.view.proofs.Vocabulary.{◌≡◌, ◌<◌, ◌≤◌, ◌++◌, ◌-◌, chars, false, length, ℕ, List, get_or, take, drop}
use Rattle.view.proofs.Vocabulary.{replicate, arith, ⊎_elim, sym, ap, ◌∙◌, subst, cases_lt, get_or_append_left}
use Rattle.view.proofs.Vocabulary.{get_or_default, get_or_past, Cell, blank, cell_at, narrow_cell, uncut, text_at}
use Rattle.view.proofs.Vocabulary.{text_cells, IsRow}
use Rattle.std.proofs.lemmas.List.{get_or-take, get_or-append_right, get_or-replicate, take_all, take_at, length-take}
use Rattle.cells.specs.Rendition.{Rendition}
use Rattle.view.proofs.text.text_row.Goals as goal

-- a column of cells that are cut to n, or filled up
filled_at : (cells : List Cell) (n column : ℕ) (space : Cell) → column < n
    → get_or (take n cells ++ replicate (n - length cells) space) column blank ≡ get_or cells column space
filled_at cells n column space lt = ⊎_elim
    (λ (inside : column < length cells). get_or_append_left (take n cells) (replicate (n - length cells) space) blank
    column (omega (arith, length-take n cells, inside, lt))
    ∙ get_or-take n cells column blank lt ∙ get_or_default cells column blank space inside)
    (λ (past : length cells ≤ column). get_or-append_right (take n cells) (replicate (n - length cells) space)
    (length cells) column blank (ap length (take_all n cells (omega arith))) past
    ∙ get_or-replicate (n - length cells) (column - length cells) space blank (omega arith)
    ∙ sym (get_or_past cells column space past))
    (cases_lt column (length cells))

-- the cells of a text after they were filled up and cut
row_is : (r : Rendition) (text : List ℕ) (columns n : ℕ) (cells resized filled row : List Cell) (space : Cell)
    → space ≡ narrow_cell 32 r false → cells ≡ text_cells r text → n ≡ length cells
    → resized ≡ take columns cells ++ replicate (columns - n) space → filled ≡ resized → length filled ≡ columns
    → IsRow (λ column. uncut (length filled) column (cell_at filled column) (narrow_cell 32 r false)) (length filled)
    row
    → IsRow (text_at r text columns) columns row
row_is r text columns n cells resized filled row space s c e z f l is = record {
  width = is.width ∙ l;
  cells_are = λ column lt. is.cells_are column (omega arith)
      ∙ ap (λ k. uncut k column (cell_at filled column) (narrow_cell 32 r false)) l
      ∙ ap (λ (x : Cell). uncut columns column x (narrow_cell 32 r false))
      (ap (λ (cs : List Cell). cell_at cs column) (f ∙ z)
      ∙ ap (λ k. cell_at (take columns cells ++ replicate (columns - k) space) column) e
      ∙ filled_at cells columns column space lt
      ∙ ap (λ (x : Cell). get_or cells column x) s
      ∙ ap (λ (cs : List Cell). get_or cs column (narrow_cell 32 r false)) c);
}

pub returns : goal.returns
returns c =
    let r : Rendition = c.args.rendition in
    let text : List ℕ = chars c.args.text.now in
    let columns : ℕ = c.args.columns in
    let cells : List Cell = c.in_ok-row.row.items in
    let row : List Cell = c.cut_end.new.row in
    let all : take c.resize.new.self.len (row ++ drop (length row) c.resize.new.self.items) ≡ row = take_at row
    (drop (length row) c.resize.new.self.items) c.resize.new.self.len
    (c.cut_end.ensures.width ∙ c.as_mut_slice.ensures.len) in
    subst (λ (cs : List Cell). IsRow (text_at r text columns) columns cs) (sym all)
    (row_is r text columns c.in_ok-row.row.len cells c.resize.new.self.items c.as_mut_slice.result.now row
    c.narrow.result c.narrow.ensures c.in_ok-row.ensures c.in_ok-row.row.ok.0 c.in_ok-resize.ensures.items
    c.as_mut_slice.ensures.value (c.as_mut_slice.ensures.len ∙ c.in_ok-resize.ensures.len) c.cut_end.ensures)
