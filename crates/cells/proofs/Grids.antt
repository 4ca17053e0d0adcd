-- A grid stays well formed; the lines of a page of another size.
use Rattle.cells.proofs.Vocabulary.{◌≡◌, ℕ, ◌<◌, ◌≤◌, Bool, List, [], length, set, replicate, refl, sym, ap, ◌∙◌, subst}
use Rattle.cells.proofs.Vocabulary.{arith, ⊎_elim, length-map-range_with_len, get_or-map-range_with_len, get_or_past}
use Rattle.cells.proofs.Vocabulary.{get_or-set_same, get_or-set_other, length-set, cases_lt, cases_eq, Cell, Narrow}
use Rattle.cells.proofs.Vocabulary.{kept, IsPaired, Old, source_before, source_after, line_resized, page_resized}
use Rattle.cells.specs.Page.{line_at, IsPage, IsWellFormed, IsGrid, IsGridSize, From, line_from}
use Rattle.cells.specs.Moves.{filled}
use Rattle.cells.proofs.Pages.{map_same, settled_on_line, before_on_line, after_on_line, IsPaired-line_from}
use Rattle.cells.proofs.Pages.{IsPaired-nil, IsPage-is, length-line_from, map_replicate}

-- a line of the same width replaces another one
pub IsGrid-set : (page : List (List Cell)) (line : ℕ) (new : List Cell) → IsGrid page → line < length page
    → length new ≡ length (line_at page line) → IsPaired new → IsGrid (set page line new)
IsGrid-set page line new grid inside same paired =
    let n : length (set page line new) ≡ length page = length-set page line new in
    let widths : (k : ℕ) → length (line_at (set page line new) k) ≡ length (line_at page k) = λ k. ⊎_elim
    (λ (e : k ≡ line). ap (λ i. length (line_at (set page line new) i)) e
    ∙ ap length (get_or-set_same page line new [] inside) ∙ same ∙ sym (ap (λ i. length (line_at page i)) e))
    (λ (ne : k ≡ line → ⊥). ap length (get_or-set_other page line k new [] ne))
    (cases_eq k line) in
    record {
      well_formed = record {
        height = refl;
        width = λ k h. widths k ∙ grid.well_formed.width k (rw n at h) ∙ sym (widths 0);
        paired = λ k. ⊎_elim
            (λ (e : k ≡ line). subst IsPaired
            (sym (ap (line_at (set page line new)) e ∙ get_or-set_same page line new [] inside)) paired)
            (λ (ne : k ≡ line → ⊥). subst IsPaired (sym (get_or-set_other page line k new [] ne))
            (grid.well_formed.paired k))
            (cases_eq k line);
      };
      size = record {
        least_rows = rw n grid.size.least_rows;
        most_rows = rw n grid.size.most_rows;
        least_columns = rw (widths 0) grid.size.least_columns;
        most_columns = rw (widths 0) grid.size.most_columns;
      };
    }

-- a page of a grid's size is a grid
pub IsGrid-is : (rows columns : ℕ) (page : List (List Cell)) → IsPage rows columns page → IsGridSize rows columns
    → IsGrid page
IsGrid-is rows columns page is_page size =
    let some : 0 < rows = omega (arith, size.least_rows) in
    let n : length page ≡ rows = is_page.height in
    let w : length (line_at page 0) ≡ columns = is_page.width 0 some in
    record {
      well_formed = IsPage-is rows columns page is_page some;
      size = record {
        least_rows = rw n size.least_rows;
        most_rows = rw n size.most_rows;
        least_columns = rw w size.least_columns;
        most_columns = rw w size.most_columns;
      };
    }

-- a line of a resized page is the resized line
pub line_from-resized : (page : List (List Cell)) (line width : ℕ)
    → line_from (From line) width page ≡ line_resized width (line_at page line)
line_from-resized page line width = map_same _ _ 0 width (λ column.
    rw (
      before_on_line (From line) Old line (λ c. refl) column,
      after_on_line (From line) Old line width (λ c. refl)
          column,
    )
    (settled_on_line page line (source_before Old column) (Old column) (source_after Old width column)))

pub length-page_resized : (rows columns : ℕ) (page : List (List Cell)) → length (page_resized rows columns page) ≡ rows
length-page_resized rows columns page = length-map-range_with_len _ 0 rows

pub line_at-page_resized : (rows columns : ℕ) (page : List (List Cell)) (line : ℕ) → line < rows
    → line_at (page_resized rows columns page) line ≡ line_from (From line) columns page
line_at-page_resized rows columns page line h = get_or-map-range_with_len _ 0 rows line line [] h (omega arith)

pub IsGrid-page_resized : (rows columns : ℕ) (page : List (List Cell)) → IsWellFormed page → IsGridSize rows columns
    → IsGrid (page_resized rows columns page)
IsGrid-page_resized rows columns page well size = IsGrid-is rows columns (page_resized rows columns page)
    (record {
      height = length-page_resized rows columns page;
      width = λ line h. ap length (line_at-page_resized rows columns page line h)
          ∙ length-line_from (From line) columns page;
      paired = λ line. ⊎_elim
          (λ (h : line < rows). subst IsPaired (sym (line_at-page_resized rows columns page line h))
          (IsPaired-line_from (From line) columns (length page) (length (line_at page 0)) page well))
          (λ (h : rows ≤ line). subst IsPaired
          (sym
          (get_or_past (page_resized rows columns page) line [] (rw (length-page_resized rows columns page) h)))
          IsPaired-nil)
          (cases_lt line rows);
    })
    size

kept_narrow : (cell : Cell) (after before : Bool) → cell.shape ≡ Narrow → kept cell.shape cell after before ≡ cell
kept_narrow cell after before h = ap (λ s. kept s cell after before) h

-- a line of one cell of width 1
pub line_from-filled : (cell : Cell) (page : List (List Cell)) (line width : ℕ) → cell.shape ≡ Narrow
    → line_from (filled cell line) width page ≡ replicate width cell
line_from-filled cell page line width h =
    map_same _ (λ (_k : ℕ). cell) 0 width (λ column. kept_narrow cell _ _ h)
    ∙ map_replicate cell 0 width
