-- A cell with its marks is put at the pen's place; and a stretch of bytes that writes may follow
-- one that aims the pen.
use Rattle.redraw.proofs.Vocabulary.{◌≡◌, ℕ, ◌+◌, ◌<◌, ◌≤◌, false, ◌&&◌, cond, eqb, ltb, List, ◌++◌, Option, Some, refl}
use Rattle.redraw.proofs.Vocabulary.{sym, ap, ◌∙◌, subst, arith, inl, inr, append-nil, Shape, Narrow, Left, Right, Cell}
use Rattle.redraw.proofs.Vocabulary.{Rendition, blank, cell_at, is_left, is_right, line_at, spelling, Page, Screen}
use Rattle.redraw.proofs.Vocabulary.{HasMark, HasPart, Differs, IsGlyph, AreMarks, HasGlyph, IsDrawableCell, Pen, Glyph}
use Rattle.redraw.proofs.Vocabulary.{func_of, Row, seen, row_written, row_of, width_of, mark_bytes, glyph_bytes}
use Rattle.redraw.proofs.Vocabulary.{Drawing, Takes, Keeps, Writes, Stands, Knows}
use Rattle.cells.specs.declared.marks.Marks.{Marks}
use Rattle.cells.specs.declared.marks.Marks.TheVariants.{Bare, One, Two}
use Rattle.redraw.proofs.Screens.{LeadsTo, at_place}
use Rattle.redraw.proofs.Printing.{Inked, column_behind, pen_behind, narrow_leads, wide_leads}
use Rattle.redraw.proofs.Marking.{mark_leads}
use Rattle.redraw.proofs.Takings.{leads_then, takes_then, takes_bytes}

module _ (rows columns : ℕ) (old new : Page) (pen_line pen_column : ℕ) (known : Option Rendition) (lh : pen_line < rows)
    (ch : pen_column < columns) where
  abbrev pen : Pen
  pen = at_place pen_line pen_column known

  abbrev there : Cell
  there = cell_at (line_at new pen_line) pen_column

  module _ (shape : Shape) (c : ℕ) (r : Rendition) (n : ℕ) (some : 0 < n)
      (differs : Differs old new pen_line pen_column) (x : Screen) where
    abbrev with_marks : Marks → Cell
    with_marks ms = record { shape = shape; character = c; marks = ms; rendition = r; is_protected = false }

    marks_lead : (ms : Marks) (bytes : List ℕ) → AreMarks ms → ((m : ℕ) → HasMark ms m → HasMark there.marks m)
        → LeadsTo rows columns old new x bytes (Inked rows columns pen_line pen_column known (with_marks Bare) n x)
        → LeadsTo rows columns old new x (bytes ++ mark_bytes ms)
        (Inked rows columns pen_line pen_column known (with_marks ms) n x)
    marks_lead Bare bytes are stand l = subst
        (λ b. LeadsTo rows columns old new x b (Inked rows columns pen_line pen_column known (with_marks Bare) n x))
        (sym (append-nil bytes)) l
    marks_lead (One m) bytes are stand l =
        let k = mark_leads rows columns old new pen_line pen_column known (with_marks Bare) n m x l.0 l.2 are lh ch some
        refl (stand m refl) differs in
        (k.0, leads_then old new x l.0 k.0 bytes (spelling (func_of (Glyph m))) l.1 k.1, k.2)
    marks_lead (Two m m') bytes are stand l =
        let k = mark_leads rows columns old new pen_line pen_column known (with_marks Bare) n m x l.0 l.2 are.0 lh ch
        some refl (stand m (inl refl)) differs in
        let j = mark_leads rows columns old new pen_line pen_column known (with_marks (One m)) n m' x k.0 k.2 are.1 lh
        ch some refl (stand m' (inr refl)) differs in (
          j.0,
          leads_then old new x l.0 j.0 bytes (spelling (func_of (Glyph m)) ++ spelling (func_of (Glyph m'))) l.1
              (leads_then old new l.0 k.0 j.0 (spelling (func_of (Glyph m))) (spelling (func_of (Glyph m'))) k.1 j.1),
          j.2,
        )

  abbrev behind : ℕ → Pen
  behind n = pen_behind columns pen_line pen_column known n

  -- a cell that is printed
  narrow_cell_leads : (cell : Cell) (x : Screen) → Drawing rows columns pen x → known ≡ Some cell.rendition
      → cell.shape ≡ Narrow → IsDrawableCell cell → Stands new pen_line pen_column cell
      → Differs old new pen_line pen_column
      → LeadsTo rows columns old new x (glyph_bytes cell)
      (Writes rows columns (behind 1) pen_line pen_column 1 (row_of cell pen_column) x)
  narrow_cell_leads cell x d is_known shape is stands differs =
      let r : x.state.rendition ≡ cell.rendition = subst (λ (k : Option Rendition). Knows k x.state.rendition) is_known
      d.rendition_is in
      let glyph : IsGlyph 1 cell.character = subst (λ sh. HasGlyph sh cell.character) shape is.glyph in
      let l = narrow_leads rows columns old new pen_line pen_column known x d lh ch cell.character glyph
      (record { shape_is = rw stands.here shape; character_is = rw stands.here refl }) differs in
      let l' = subst
      (λ z. LeadsTo rows columns old new x (spelling (func_of (Glyph cell.character)))
      (Inked rows columns pen_line pen_column known
      (record { shape = Narrow; character = cell.character; marks = Bare; rendition = z; is_protected = false }) 1
      x)) r l in
      let k = marks_lead Narrow cell.character cell.rendition 1 (omega arith) differs x cell.marks
      (spelling (func_of (Glyph cell.character))) is.marks (λ m h. rw stands.here h) l' in (
        k.0,
        k.1,
        subst
            (λ sh. Writes rows columns (behind 1) pen_line pen_column 1 (row_of (record cell { shape = sh }) pen_column)
            x
            k.0) (sym shape) (k.2).writes,
      )

  wide_cell_leads : (cell : Cell) (x : Screen) → Drawing rows columns pen x → known ≡ Some cell.rendition
      → cell.shape ≡ Left → pen_column + 2 ≤ columns → IsDrawableCell cell → Stands new pen_line pen_column cell
      → Differs old new pen_line pen_column
      → LeadsTo rows columns old new x (glyph_bytes cell)
      (Writes rows columns (behind 2) pen_line pen_column 2 (row_of cell pen_column) x)
  wide_cell_leads cell x d is_known shape room is stands differs =
      let r : x.state.rendition ≡ cell.rendition = subst (λ (k : Option Rendition). Knows k x.state.rendition) is_known
      d.rendition_is in
      let glyph : IsGlyph 2 cell.character = subst (λ sh. HasGlyph sh cell.character) shape is.glyph in
      let half = stands.beside (ap is_left shape) in
      let beside : HasPart Right cell.character (cell_at (line_at new pen_line) (pen_column + 1)) = record
      { shape_is = ap (λ (z : Cell). z.shape) half; character_is = ap (λ (z : Cell). z.character) half } in
      let l = wide_leads rows columns old new pen_line pen_column known x d lh ch cell.character glyph room
      (record { shape_is = rw stands.here shape; character_is = rw stands.here refl }, beside) differs in
      let l' = subst
      (λ z. LeadsTo rows columns old new x (spelling (func_of (Glyph cell.character)))
      (Inked rows columns pen_line pen_column known
      (record { shape = Left; character = cell.character; marks = Bare; rendition = z; is_protected = false }) 2 x))
      r l in
      let k = marks_lead Left cell.character cell.rendition 2 (omega arith) differs x cell.marks
      (spelling (func_of (Glyph cell.character))) is.marks (λ m h. rw stands.here h) l' in (
        k.0,
        k.1,
        subst
            (λ sh. Writes rows columns (behind 2) pen_line pen_column 2 (row_of (record cell { shape = sh }) pen_column)
            x
            k.0) (sym shape) (k.2).writes,
      )

  pub cell_leads : (cell : Cell) (x : Screen) → Drawing rows columns pen x → known ≡ Some cell.rendition
      → is_right cell.shape ≡ false → pen_column + width_of cell.shape ≤ columns → IsDrawableCell cell
      → Stands new pen_line pen_column cell
      → Differs old new pen_line pen_column
      → LeadsTo rows columns old new x (glyph_bytes cell)
      (Writes rows columns (behind (width_of cell.shape)) pen_line pen_column (width_of cell.shape)
      (row_of cell pen_column) x)
  cell_leads cell x d is_known whole room is stands differs = by_shape cell.shape refl
    where
      with_width : (n : ℕ) → width_of cell.shape ≡ n
          → LeadsTo rows columns old new x (glyph_bytes cell)
          (Writes rows columns (behind n) pen_line pen_column n (row_of cell pen_column) x)
          → LeadsTo rows columns old new x (glyph_bytes cell)
          (Writes rows columns (behind (width_of cell.shape)) pen_line pen_column (width_of cell.shape)
          (row_of cell pen_column) x)
      with_width n e l = subst
          (λ k. LeadsTo rows columns old new x (glyph_bytes cell)
          (Writes rows columns (behind k) pen_line pen_column k (row_of cell pen_column) x)) (sym e) l

      by_shape : (sh : Shape) → cell.shape ≡ sh
          → LeadsTo rows columns old new x (glyph_bytes cell)
          (Writes rows columns (behind (width_of cell.shape)) pen_line pen_column (width_of cell.shape)
          (row_of cell pen_column) x)
      by_shape Narrow e = with_width 1 (ap width_of e) (narrow_cell_leads cell x d is_known e is stands differs)
      by_shape Left e =
          let two : width_of cell.shape ≡ 2 = ap width_of e in
          with_width 2 two
          (wide_cell_leads cell x d is_known e (subst (λ n. pen_column + n ≤ columns) two room) is stands differs)
      by_shape Right e = let no : is_right Right ≡ false = sym (ap is_right e) ∙ whole in absurd cc

over_row : (row row' : Row) (at n : ℕ) (f : Row) (c : ℕ) → row c ≡ row' c
    → row_written row at n f c ≡ row_written row' at n f c
over_row row row' at n f c e = ap
    (λ (z : Cell). cond (ltb c at) (cond (eqb (c + 1) at && is_left z.shape) blank z)
    (cond (ltb c (at + n)) (f c) (cond (eqb c (at + n) && is_right z.shape) blank z))) e

-- bytes that aim the pen, and then bytes that write
pub aimed_writes : (old new : Page) (rows columns : ℕ) (p q r : Pen) (line at n : ℕ) (f : Row) (a b c : List ℕ)
    → Takes old new (Drawing rows columns p) (Keeps rows columns q) a b
    → Takes old new (Drawing rows columns q) (Writes rows columns r line at n f) b c
    → Takes old new (Drawing rows columns p) (Writes rows columns r line at n f) a c
aimed_writes old new rows columns p q r line at n f a b c k l =
    takes_then old new (Drawing rows columns p) (Drawing rows columns q) (Keeps rows columns q)
    (Writes rows columns r line at n f) (Writes rows columns r line at n f) a b c k l
    (λ x y d m. m.drawing)
    (λ x y z d m w. record {
      drawing = w.drawing;
      here = λ i hi. w.here i hi ∙ over_row (seen y line) (seen x line) at n f i (m.cells line i);
      elsewhere = λ j i ne. w.elsewhere j i ne ∙ m.cells j i;
      modes = w.modes ∙ m.modes;
    })

pub aimed_keeps : (old new : Page) (rows columns : ℕ) (p q r : Pen) (a b c : List ℕ)
    → Takes old new (Drawing rows columns p) (Keeps rows columns q) a b
    → Takes old new (Drawing rows columns q) (Keeps rows columns r) b c
    → Takes old new (Drawing rows columns p) (Keeps rows columns r) a c
aimed_keeps old new rows columns p q r a b c k l =
    takes_then old new (Drawing rows columns p) (Drawing rows columns q) (Keeps rows columns q) (Keeps rows columns r)
    (Keeps rows columns r) a b c k l
    (λ x y d m. m.drawing)
    (λ x y z d m w. record { drawing = w.drawing; cells = λ j i. w.cells j i ∙ m.cells j i; modes = w.modes ∙ m.modes })

pub width_some : (sh : Shape) → 0 < width_of sh
width_some Narrow = omega arith
width_some Left = omega arith
width_some Right = omega arith

-- bytes that aim the pen, and then the bytes of a cell
pub put_takes : (old new : Page) (rows columns : ℕ) (p q : Pen) (line column w : ℕ) (next : Option ℕ) (cell : Cell)
    (a b c : List ℕ) → q ≡ at_place line column (Some cell.rendition) → w ≡ width_of cell.shape
    → next ≡ column_behind columns (column + w)
    → line < rows → column + width_of cell.shape ≤ columns → IsDrawableCell cell → is_right cell.shape ≡ false
    → Stands new line column cell → Differs old new line column
    → Takes old new (Drawing rows columns p) (Keeps rows columns q) a b → c ≡ b ++ glyph_bytes cell
    → Takes old new (Drawing rows columns p)
    (Writes rows columns (record { line = q.line; column = next; rendition = q.rendition }) line column
    (width_of cell.shape) (row_of cell column)) a c
put_takes old new rows columns p q line column w next cell a b c is width behind lh room drawable whole stands differs
    aimed appended =
    let pen : Pen = at_place line column (Some cell.rendition) in
    let n : ℕ = width_of cell.shape in
    let some = width_some cell.shape in
    let end : Pen = pen_behind columns line column (Some cell.rendition) n in
    let put : Takes old new (Drawing rows columns pen) (Writes rows columns end line column n (row_of cell column)) b c
    = takes_bytes old new (Drawing rows columns pen) (Writes rows columns end line column n (row_of cell column)) b c
    (glyph_bytes cell) appended
    (λ x d. cell_leads rows columns old new line column (Some cell.rendition) lh (omega arith) cell x d refl whole room
    drawable stands differs) in
    let put' = subst
    (λ (k : Pen). Takes old new (Drawing rows columns k)
    (Writes rows columns
    (record { line = k.line; column = column_behind columns (column + n); rendition = k.rendition }) line column n
    (row_of cell column)) b c) (sym is) put in
    let put'' = subst
    (λ (k : ℕ). Takes old new (Drawing rows columns q)
    (Writes rows columns
    (record { line = q.line; column = column_behind columns (column + k); rendition = q.rendition }) line column n
    (row_of cell column)) b c) (sym width) put' in
    let put''' = subst
    (λ (k : Option ℕ). Takes old new (Drawing rows columns q)
    (Writes rows columns (record { line = q.line; column = k; rendition = q.rendition }) line column n
    (row_of cell column)) b c) (sym behind) put'' in
    aimed_writes old new rows columns p q (record { line = q.line; column = next; rendition = q.rendition }) line column
    n (row_of cell column) a b c aimed put'''
