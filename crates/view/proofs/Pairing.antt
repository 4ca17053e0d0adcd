-- The halves of wide characters are paired in the rows of a region's box.
use Rattle.view.proofs.Vocabulary.{◌≡◌, ℕ, zero, suc, ◌+◌, ◌-◌, ◌<◌, ◌≤◌, Bool, true, false, ◌&&◌, cond, eqb, List, []}
use Rattle.view.proofs.Vocabulary.{◌∷◌, ◌++◌, length, get_or, refl, sym, ap, ◌∙◌, arith, ⊎_elim, eq-eqb, lt-ltb}
use Rattle.view.proofs.Vocabulary.{cases_lt, cases_eq, ne_eqb, le-ltb, get_or_past, get_or_default, Cell, Rendition}
use Rattle.view.proofs.Vocabulary.{Narrow, Left, Right, blank, cell_at, is_left, is_right, IsPaired, narrow_cell}
use Rattle.view.proofs.Vocabulary.{left_cell, right_cell, line_at, and_false, columns_of, Rect, nat_lt, uncut, visible}
use Rattle.view.proofs.Vocabulary.{text_cells, text_at, Part, vacant, unread, read, first_shown, line_cell, shown_cell}
use Rattle.view.proofs.Vocabulary.{part_cell, box_cell, caption_rendition, caption_text, HasPairedLines, IsRow}
use Rattle.cells.specs.declared.cell.Shape.{Shape}

right_is : (left : Bool) (edge : Bool) (cell other : Cell) → is_left cell.shape ≡ left → is_right other.shape ≡ false
    → is_right (cond (edge && left) other cell).shape ≡ is_right cell.shape
right_is true true cell other h o = o ∙ go cell.shape h
  where
    go : (s : Shape) → is_left s ≡ true → false ≡ is_right s
    go Narrow e = refl
    go Left e = refl
    go Right e = cc
right_is true false cell other h o = refl
right_is false true cell other h o = refl
right_is false false cell other h o = refl

-- cutting a row changes no right half
pub uncut_right : (columns column : ℕ) (cell other : Cell) → is_right other.shape ≡ false
    → is_right (uncut columns column cell other).shape ≡ is_right cell.shape
uncut_right columns column cell other o = right_is (is_left cell.shape) (eqb (column + 1) columns) cell other refl o

last_is : (left : Bool) (cell other : Cell) → is_left cell.shape ≡ left → is_left other.shape ≡ false
    → is_left (cond left other cell).shape ≡ false
last_is true cell other h o = o
last_is false cell other h o = h

-- a cut row has no left half at its edge
pub uncut_last : (columns column : ℕ) (cell other : Cell) → column + 1 ≡ columns → is_left other.shape ≡ false
    → is_left (uncut columns column cell other).shape ≡ false
uncut_last columns column cell other e o = rw (eq-eqb (column + 1) columns e)
    (last_is (is_left cell.shape) cell other refl o)

-- cutting a row leaves all cells before the edge
pub uncut_before : (columns column : ℕ) (cell other : Cell) → (column + 1 ≡ columns → ⊥)
    → uncut columns column cell other ≡ cell
uncut_before columns column cell other ne = rw (ne_eqb (column + 1) columns ne) refl

past : (cells : List Cell) (n : ℕ) → length cells ≤ n → cell_at cells n ≡ blank
past cells n h = get_or_past cells n blank h

-- a paired line that is cut at an edge is paired
pub cut_pairs : (whole : ℕ → Cell) (columns : ℕ) (cells : List Cell) (other : Cell) → is_left other.shape ≡ false
    → is_right other.shape ≡ false → is_right (whole 0).shape ≡ false
    → ((k : ℕ) → is_left (whole k).shape ≡ is_right (whole (suc k)).shape)
    → IsRow (λ column. uncut columns column (whole column) other) columns cells → IsPaired cells
cut_pairs whole columns cells other ol or first next row = record {
  first = ⊎_elim
      (λ (h : 0 < columns). ap (λ (x : Cell). is_right x.shape) (row.cells_are 0 h)
      ∙ uncut_right columns 0 (whole 0) other or ∙ first)
      (λ (h : columns ≤ 0). ap (λ (x : Cell). is_right x.shape) (past cells 0 (omega (arith, row.width))))
      (cases_lt 0 columns);
  next = λ k. ⊎_elim
      (λ (h : suc k < columns).
      ap (λ (x : Cell). is_left x.shape)
      (row.cells_are k (omega arith) ∙ uncut_before columns k (whole k) other (λ e. omega arith))
      ∙ next k
      ∙ sym
      (ap (λ (x : Cell). is_right x.shape) (row.cells_are (suc k) h)
      ∙ uncut_right columns (suc k) (whole (suc k)) other or))
      (λ (h : columns ≤ suc k).
      let none : is_right (cell_at cells (suc k)).shape ≡ false = ap (λ (x : Cell). is_right x.shape)
      (past cells (suc k) (omega (arith, row.width))) in
      ⊎_elim
      (λ (at : k < columns). ap (λ (x : Cell). is_left x.shape) (row.cells_are k at)
      ∙ uncut_last columns k (whole k) other (omega arith) ol ∙ sym none)
      (λ (behind : columns ≤ k). ap (λ (x : Cell). is_left x.shape) (past cells k (omega (arith, row.width)))
      ∙ sym none)
      (cases_lt k columns))
      (cases_lt (suc k) columns);
}

same_row : (f g : ℕ → Cell) (columns : ℕ) (cells : List Cell) → ((column : ℕ) → column < columns → f column ≡ g column)
    → IsRow f columns cells → IsRow g columns cells
same_row f g columns cells same row = record { width = row.width; cells_are = λ k h. row.cells_are k h ∙ same k h }

-- ---- a line of a window

abbrev pub shown_line : Bool → List Cell → ℕ → Cell
shown_line inverted line k = cond (nat_lt k (length line)) (shown_cell inverted (cell_at line k)) blank

pub line_is : (inverted : Bool) (line : List Cell) (columns k : ℕ)
    → line_cell inverted line columns k ≡ uncut columns k (shown_line inverted line k) blank
line_is inverted line columns k = ⊎_elim
    (λ (h : k < length line). rw (lt-ltb k (length line) h) refl)
    (λ (h : length line ≤ k). rw (le-ltb k (length line) h, and_false (eqb (k + 1) columns)) refl)
    (cases_lt k (length line))

pub shown_shape : (inverted : Bool) (line : List Cell) (k : ℕ)
    → (shown_line inverted line k).shape ≡ (cell_at line k).shape
shown_shape inverted line k = ⊎_elim
    (λ (h : k < length line). rw (lt-ltb k (length line) h) refl)
    (λ (h : length line ≤ k). rw (le-ltb k (length line) h, past line k h) refl)
    (cases_lt k (length line))

pub line_pairs : (inverted : Bool) (line : List Cell) (columns : ℕ) (cells : List Cell) → IsPaired line
    → IsRow (line_cell inverted line columns) columns cells → IsPaired cells
line_pairs inverted line columns cells p row =
    cut_pairs (shown_line inverted line) columns cells blank refl refl
    (ap is_right (shown_shape inverted line 0) ∙ p.first)
    (λ k. ap is_left (shown_shape inverted line k) ∙ p.next k ∙ sym (ap is_right (shown_shape inverted line (suc k))))
    (same_row _ _ columns cells (λ k h. line_is inverted line columns k) row)

pub none_pairs : IsPaired []
none_pairs = record { first = refl; next = λ k. refl }

-- ---- a text

behind_is : (a b : Cell) (cells : List Cell) (k : ℕ) → cell_at (a ∷ b ∷ cells) (suc (suc k)) ≡ cell_at cells k
behind_is a b cells k = refl

text_pairs : (r : Rendition) (cs : List ℕ) → IsPaired (text_cells r cs)
text_pairs r [] = none_pairs
text_pairs r (c ∷ cs) = go (eqb (columns_of c) 2) (text_pairs r cs)
  where
    go : (wide : Bool) → IsPaired (text_cells r cs)
        → IsPaired
        (cond wide (left_cell c r false ∷ right_cell c r false ∷ []) (narrow_cell (visible c) r false ∷ []) ++
        text_cells r cs)
    go true p = record {
      first = refl;
      next = λ k. two k;
    }
      where
        two : (k : ℕ)
            → is_left (cell_at (left_cell c r false ∷ right_cell c r false ∷ text_cells r cs) k).shape ≡ is_right
            (cell_at (left_cell c r false ∷ right_cell c r false ∷ text_cells r cs) (suc k)).shape
        two zero = refl
        two (suc zero) = sym p.first
        two (suc (suc k)) = p.next k
    go false p = record {
      first = refl;
      next = λ k. one k;
    }
      where
        one : (k : ℕ)
            → is_left (cell_at (narrow_cell (visible c) r false ∷ text_cells r cs) k).shape ≡ is_right
            (cell_at (narrow_cell (visible c) r false ∷ text_cells r cs) (suc k)).shape
        one zero = sym p.first
        one (suc k) = p.next k

spaced_shape : (cells : List Cell) (r : Rendition) (k : ℕ)
    → (get_or cells k (narrow_cell 32 r false)).shape ≡ (cell_at cells k).shape
spaced_shape cells r k = ⊎_elim
    (λ (h : k < length cells). ap (λ (x : Cell). x.shape) (get_or_default cells k (narrow_cell 32 r false) blank h))
    (λ (h : length cells ≤ k). ap (λ (x : Cell). x.shape) (get_or_past cells k (narrow_cell 32 r false) h)
    ∙ sym (ap (λ (x : Cell). x.shape) (past cells k h)))
    (cases_lt k (length cells))

pub text_row_pairs : (r : Rendition) (cs : List ℕ) (columns : ℕ) (cells : List Cell)
    → IsRow (text_at r cs columns) columns cells → IsPaired cells
text_row_pairs r cs columns cells row =
    let p = text_pairs r cs in
    cut_pairs (λ k. get_or (text_cells r cs) k (narrow_cell 32 r false)) columns cells (narrow_cell 32 r false) refl
    refl
    (ap is_right (spaced_shape (text_cells r cs) r 0) ∙ p.first)
    (λ k. ap is_left (spaced_shape (text_cells r cs) r k) ∙ p.next k
    ∙ sym (ap is_right (spaced_shape (text_cells r cs) r (suc k))))
    row

-- ---- a row of a box

line_of_pairs : (lines : List (List Cell)) (n : ℕ) → ((line : ℕ) → line < length lines → IsPaired (line_at lines line))
    → IsPaired (line_at lines n)
line_of_pairs lines n p = ⊎_elim
    (λ (h : n < length lines). p n h)
    (λ (h : length lines ≤ n). rw (get_or_past lines n [] h) none_pairs)
    (cases_lt n (length lines))

none_cell : (columns k : ℕ) → blank ≡ line_cell false [] columns k
none_cell columns k = rw (le-ltb k 0 (omega arith)) refl

part_pairs : (part : Part) (rows columns row : ℕ) (cells : List Cell) → HasPairedLines part
    → IsRow (part_cell part rows columns row) columns cells → IsPaired cells
part_pairs vacant rows columns row cells p is = line_pairs false [] columns cells none_pairs
    (same_row _ _ columns cells (λ k h. none_cell columns k) is)
part_pairs (unread n) rows columns row cells p is = line_pairs false [] columns cells none_pairs
    (same_row _ _ columns cells (λ k h. none_cell columns k) is)
part_pairs (read w) rows columns row cells p is = line_pairs w.is_inverted
    (line_at w.lines (first_shown rows w.cursor + row)) columns cells
    (line_of_pairs w.lines (first_shown rows w.cursor + row) p) is

pub box_pairs : (box : Rect) (focused : Bool) (part : Part) (row : ℕ) (cells : List Cell) → HasPairedLines part
    → IsRow (box_cell box focused part row) box.columns cells → IsPaired cells
box_pairs box focused part row cells p is = ⊎_elim
    (λ (e : row + 1 ≡ box.rows). text_row_pairs (caption_rendition focused) (caption_text part) box.columns cells
    (same_row _ _ box.columns cells (λ k h. rw (eq-eqb (row + 1) box.rows e) refl) is))
    (λ (ne : row + 1 ≡ box.rows → ⊥). part_pairs part (box.rows - 1) box.columns row cells p
    (same_row _ _ box.columns cells (λ k h. rw (ne_eqb (row + 1) box.rows ne) refl) is))
    (cases_eq (row + 1) box.rows)

-- ---- a row of a separator

pub bar_row : (cells : List Cell) (bar : Cell) (columns : ℕ) → cells ≡ bar ∷ [] → columns ≡ 1
    → IsRow (λ column. bar) columns cells
bar_row cells bar columns e one = record {
  width = ap length e ∙ sym one;
  cells_are = λ k h. let first : k ≡ 0 = omega arith in rw (e, first) refl;
}

pub bar_pairs : (cells : List Cell) (bar : Cell) → bar.shape ≡ Narrow → cells ≡ bar ∷ [] → IsPaired cells
bar_pairs cells bar narrow e = rw e (record {
  first = ap is_right narrow;
  next = go;
})
  where
    go : (k : ℕ) → is_left (cell_at (bar ∷ []) k).shape ≡ is_right (cell_at (bar ∷ []) (suc k)).shape
    go zero = ap is_left narrow
    go (suc k) = refl
