-- A line is drawn piece by piece, and a page line by line.
use Rattle.redraw.proofs.Vocabulary.{◌≡◌, ℕ, zero, suc, ◌+◌, ◌-◌, ◌<◌, ◌≤◌, true, false, List, length, refl, sym, ap}
use Rattle.redraw.proofs.Vocabulary.{◌∙◌, subst, arith, ⊎_elim, eq-eqb, cases_lt, cases_eq, cases_Bool, ne_eqb, Shape}
use Rattle.redraw.proofs.Vocabulary.{Narrow, Left, Right, Cell, blank, cell_at, is_left, is_right, unprotected}
use Rattle.redraw.proofs.Vocabulary.{right_cell, IsPaired, line_at, cell_at_past, true≢false, Page, seen_at}
use Rattle.redraw.proofs.Vocabulary.{IsDrawableLine, Pen, Row, seen, mixed, row_of, width_of, Drawing, Takes, Writes}
use Rattle.redraw.proofs.Vocabulary.{Stands, HasLine, DrawsLine, DrawsPiece, DrawsUpTo, AreLines}
use Rattle.redraw.proofs.Rows.{IsPairedRow, mixed_over, mixed_same, mixed_start}
use Rattle.redraw.proofs.Seen.{over_same}
use Rattle.redraw.proofs.Takings.{takes_nothing, takes_then, takes_weaker}

pub paired_row : (cells : List Cell) → IsPaired cells → IsPairedRow (λ c. unprotected (cell_at cells c))
paired_row cells p = record { first = p.first; next = λ column. p.next column }

-- what was written is what the new page has there
pub writes_new : (old new : Page) (rows columns : ℕ) (p q : Pen) (line column n next : ℕ) (f : Row) (a b : List ℕ)
    → next ≡ column + n → ((c : ℕ) → column ≤ c → c < column + n → f c ≡ seen_at new line c)
    → Takes old new (Drawing rows columns p) (Writes rows columns q line column n f) a b
    → Takes old new (Drawing rows columns p) (Writes rows columns q line column (next - column) (seen_at new line))
    a b
writes_new old new rows columns p q line column n next f a b e same t =
    let k : n ≡ next - column = omega arith in
    subst (λ j. Takes old new (Drawing rows columns p) (Writes rows columns q line column j (seen_at new line)) a b) k
    (takes_weaker old new (Drawing rows columns p) (Writes rows columns q line column n f)
    (Writes rows columns q line column n (seen_at new line)) a b t
    (λ x y d w. record {
      drawing = w.drawing;
      here = λ c hc. w.here c hc ∙ over_same (seen x line) column n f (seen_at new line) c (λ i j. same c i j);
      elsewhere = w.elsewhere;
      modes = w.modes;
    }))

-- a piece of blanks was erased
pub blank_piece : (old new : Page) (rows columns : ℕ) (p q : Pen) (line column n next : ℕ) (cells : List Cell)
    (a b : List ℕ) → line_at new line ≡ cells → IsPaired cells → next ≡ column + n → 0 < n → column + n ≤ columns
    → ((c : ℕ) → column ≤ c → c < column + n → cell_at cells c ≡ blank)
    → Takes old new (Drawing rows columns p) (Writes rows columns q line column n (λ c. blank)) a b
    → DrawsPiece old new rows columns p q line column next a b
blank_piece old new rows columns p q line column n next cells a b is paired e some room blanks t = record {
  inside = omega arith;
  whole = let z : suc (column + n - 1) ≡ next = omega arith in
      ap (λ (l : List Cell). is_right (cell_at l next).shape) is ∙ ap (λ k. is_right (cell_at cells k).shape) (sym z)
      ∙ sym (paired.next (column + n - 1))
      ∙ ap (λ (x : Cell). is_left x.shape) (blanks (column + n - 1) (omega arith) (omega arith));
  takes = writes_new old new rows columns p q line column n next (λ c. blank) a b e
      (λ c i j. sym (ap (λ (l : List Cell). unprotected (cell_at l c)) is ∙ ap unprotected (blanks c i j))) t;
}

-- a cell has room for its character
pub cell_fits : (cells : List Cell) (column : ℕ) → IsPaired cells → column < length cells
    → column + width_of (cell_at cells column).shape ≤ length cells
cell_fits cells column paired inside = by_shape (cell_at cells column).shape refl
  where
    by_shape : (sh : Shape) → (cell_at cells column).shape ≡ sh → column + width_of sh ≤ length cells
    by_shape Narrow e = omega arith
    by_shape Right e = omega arith
    by_shape Left e = ⊎_elim
        (λ (h : suc column < length cells). omega arith)
        (λ (h : length cells ≤ suc column). absurd
        (true≢false _ (sym (paired.next column) ∙ ap is_left e)
        (ap (λ (x : Cell). is_right x.shape) (cell_at_past cells (suc column) h))))
        (cases_lt (suc column) (length cells))

right_not_left : (s : Shape) → is_right s ≡ true → is_left s ≡ false
right_not_left Narrow h = refl
right_not_left Left h = absurd cc
right_not_left Right h = refl

-- a piece of one cell was printed
pub put_piece : (old new : Page) (rows : ℕ) (p q : Pen) (line column next : ℕ) (cells : List Cell) (a b : List ℕ)
    → line_at new line ≡ cells → IsPaired cells → IsDrawableLine cells → is_right (cell_at cells column).shape ≡ false
    → column < length cells → next ≡ column + width_of (cell_at cells column).shape
    → Takes old new (Drawing rows (length cells) p)
    (Writes rows (length cells) q line column (width_of (cell_at cells column).shape)
    (row_of (cell_at cells column) column)) a b
    → DrawsPiece old new rows (length cells) p q line column next a b
put_piece old new rows p q line column next cells a b is paired drawable whole inside e t = record {
  inside = let fits = cell_fits cells column paired inside in omega arith;
  whole = ap (λ (l : List Cell). is_right (cell_at l next).shape) is ∙ next_whole cell.shape refl;
  takes = writes_new old new rows (length cells) p q line column (width_of cell.shape) next (row_of cell column) a b e
      (λ c i j. new_cell cell.shape refl c i j ∙ sym (ap (λ (l : List Cell). unprotected (cell_at l c)) is)) t;
}
  where
    cell : Cell
    cell = cell_at cells column

    next_whole : (sh : Shape) → cell.shape ≡ sh → is_right (cell_at cells next).shape ≡ false
    next_whole Narrow k = let z : next ≡ suc column = omega (arith, ap width_of k) in ap
        (λ j. is_right (cell_at cells j).shape) z ∙ sym (paired.next column) ∙ ap is_left k
    next_whole Left k =
        let z : next ≡ suc (suc column) = omega (arith, ap width_of k) in
        ap (λ j. is_right (cell_at cells j).shape) z ∙ sym (paired.next (suc column))
        ∙ right_not_left _ (sym (paired.next column) ∙ ap is_left k)
    next_whole Right k = let no : is_right Right ≡ false = sym (ap is_right k) ∙ whole in absurd cc

    first_cell : (c : ℕ) → c ≡ column → row_of cell column c ≡ unprotected (cell_at cells c)
    first_cell c k = rw (k, eq-eqb column column refl) refl

    new_cell : (sh : Shape) → cell.shape ≡ sh → (c : ℕ) → column ≤ c → c < column + width_of cell.shape
        → row_of cell column c ≡ unprotected (cell_at cells c)
    new_cell Narrow k c i j = first_cell c (omega (arith, ap width_of k))
    new_cell Left k c i j = ⊎_elim
        (λ (same : c ≡ column). first_cell c same)
        (λ (ne : c ≡ column → ⊥). let z : c ≡ suc column = omega (arith, ap width_of k) in
        rw (ne_eqb c column ne)
        (sym (ap (λ m. unprotected (cell_at cells m)) z ∙ drawable.halves column (ap is_left k))))
        (cases_eq c column)
    new_cell Right k c i j = first_cell c (omega (arith, ap width_of k))

pub cell_piece : (old new : Page) (rows : ℕ) (p q : Pen) (line column next : ℕ) (cell : Cell) (cells : List Cell)
    (a b : List ℕ) → cell ≡ cell_at cells column → line_at new line ≡ cells → IsPaired cells → IsDrawableLine cells
    → is_right (cell_at cells column).shape ≡ false → column < length cells → next ≡ column + width_of cell.shape
    → Takes old new (Drawing rows (length cells) p)
    (Writes rows (length cells) q line column (width_of cell.shape) (row_of cell column)) a b
    → DrawsPiece old new rows (length cells) p q line column next a b
cell_piece old new rows p q line column next cell cells a b here is paired drawable whole inside e t =
    put_piece old new rows p q line column next cells a b is paired drawable whole inside
    (e ∙ ap (λ (z : Cell). column + width_of z.shape) here)
    (subst
    (λ (z : Cell). Takes old new (Drawing rows (length cells) p)
    (Writes rows (length cells) q line column (width_of z.shape) (row_of z column)) a b) here t)

-- a cell of a line stands at its place in the page
pub cell_stands : (old new : Page) (line : ℕ) (before after : List Cell) → AreLines old new line before after
    → (column : ℕ) (cell : Cell) → cell ≡ cell_at after column → Stands new line column cell
cell_stands old new line before after lines column cell here = record {
  here = ap (λ (l : List Cell). cell_at l column) lines.new_is ∙ sym here;
  beside = λ left.
      let next : column + 1 ≡ suc column = omega arith in
      ap (λ (l : List Cell). unprotected (cell_at l (column + 1))) lines.new_is
      ∙ ap (λ k. unprotected (cell_at after k)) next
      ∙ lines.new_drawable.halves column (sym (ap (λ (z : Cell). is_left z.shape) here) ∙ left)
      ∙ ap (λ (z : Cell). right_cell z.character z.rendition false) (sym here);
}

-- A LINE
module _ (old new : Page) (rows : ℕ) (line : ℕ) (before after : List Cell) (lines : AreLines old new line before after)
  where
    abbrev columns : ℕ
    columns = length after

    old_paired : IsPairedRow (seen_at old line)
    old_paired = subst (λ (l : List Cell). IsPairedRow (λ c. unprotected (cell_at l c))) (sym lines.old_is)
        (paired_row before lines.old_paired)

    new_paired : IsPairedRow (seen_at new line)
    new_paired = subst (λ (l : List Cell). IsPairedRow (λ c. unprotected (cell_at l c))) (sym lines.new_is)
        (paired_row after lines.new_paired)

    pub line_start : (p : Pen) (a : List ℕ) → DrawsUpTo old new rows columns p p line 0 a a
    line_start p a = record {
      inside = omega arith;
      whole = new_paired.first;
      takes = takes_nothing old new (HasLine rows columns p line (seen_at old line))
          (DrawsLine rows columns p line (seen_at old line) (seen_at new line) 0) a a refl
          (λ x h. record {
            drawing = h.drawing;
            here = λ c hc. h.cells c hc
                ∙ sym (mixed_start (seen_at old line) (seen_at new line) c old_paired);
            elsewhere = λ l c ne. refl;
            modes =
                refl;
          });
    }

    skipped : (p q : Pen) (k j : ℕ) (a b : List ℕ) → DrawsUpTo old new rows columns p q line k a b → k ≤ j → j ≤ columns
        → is_right (seen_at new line j).shape ≡ false
        → ((c : ℕ) → k ≤ c → c < j → seen_at old line c ≡ seen_at new line c)
        → DrawsUpTo old new rows columns p q line j a b
    skipped p q k j a b d order inside whole alike = record {
      inside = inside;
      whole = whole;
      takes = takes_weaker old new (HasLine rows columns p line (seen_at old line))
          (DrawsLine rows columns q line (seen_at old line) (seen_at new line) k)
          (DrawsLine rows columns q line (seen_at old line) (seen_at new line) j) a b d.takes
          (λ x y h w. record {
            drawing = w.drawing;
            here = λ c hc. w.here c hc
                ∙ mixed_same (seen_at old line) (seen_at new line) k j c old_paired new_paired order d.whole whole
                alike;
            elsewhere = w.elsewhere;
            modes = w.modes;
          });
    }

    -- at the column from which lines differ, there is no right half
    whole_start : (k i : ℕ) → k ≤ i → is_right (seen_at new line k).shape ≡ false
        → ((c : ℕ) → k ≤ c → c < i → seen_at old line c ≡ seen_at new line c)
        → ((seen_at old line) i ≡ (seen_at new line) i → ⊥) → is_right (seen_at new line i).shape ≡ false
    whole_start k zero order whole alike differs = new_paired.first
    whole_start k (suc i) order whole alike differs = ⊎_elim
        (λ (e : k ≡ suc i). ap (λ z. is_right (seen_at new line z).shape) (sym e) ∙ whole)
        (λ (ne : k ≡ suc i → ⊥). ⊎_elim
        (λ (yes : is_right ((seen_at new line) (suc i)).shape ≡ true).
        let same : (seen_at old line) i ≡ (seen_at new line) i = alike i (omega arith) (omega arith) in
        let left : is_left (seen_at new line i).shape ≡ true = new_paired.next i ∙ yes in
        let old_left : is_left (seen_at old line i).shape ≡ true = ap (λ (z : Cell). is_left z.shape) same ∙ left in
        absurd
        (differs
        (old_half i old_left ∙ ap (λ (z : Cell). right_cell z.character z.rendition false) same
        ∙ sym (new_half i left))))
        (λ (no : is_right ((seen_at new line) (suc i)).shape ≡ false). no)
        (cases_Bool (is_right ((seen_at new line) (suc i)).shape)))
        (cases_eq k (suc i))
      where
        new_half : (c : ℕ) → is_left (seen_at new line c).shape ≡ true
            → (seen_at new line) (suc c) ≡ right_cell (seen_at new line c).character (seen_at new line c).rendition
            false
        new_half c l = rw lines.new_is (lines.new_drawable.halves c (rw lines.new_is at l))

        old_half : (c : ℕ) → is_left (seen_at old line c).shape ≡ true
            → (seen_at old line) (suc c) ≡ right_cell (seen_at old line c).character (seen_at old line c).rendition
            false
        old_half c l = rw lines.old_is (lines.old_halves c (rw lines.old_is at l))

    pub start_whole : (p q : Pen) (k i : ℕ) (a b : List ℕ) → DrawsUpTo old new rows columns p q line k a b → k ≤ i
        → ((c : ℕ) → k ≤ c → c < i → unprotected (cell_at before c) ≡ unprotected (cell_at after c))
        → (unprotected (cell_at before i) ≡ unprotected (cell_at after i) → ⊥)
        → is_right (cell_at after i).shape ≡ false
    start_whole p q k i a b d order alike differs =
        let z : is_right (seen_at new line i).shape ≡ false = whole_start k i order d.whole
        (λ c h g. rw (lines.old_is, lines.new_is) (alike c h g)) (λ e. differs (rw (lines.old_is, lines.new_is) at e))
        in
        rw lines.new_is at z

    pub line_piece : (p q r : Pen) (k i next : ℕ) (a b c : List ℕ) → DrawsUpTo old new rows columns p q line k a b
        → k ≤ i
        → i < next → i ≤ columns → is_right (cell_at after i).shape ≡ false
        → ((j : ℕ) → k ≤ j → j < i → unprotected (cell_at before j) ≡ unprotected (cell_at after j))
        → DrawsPiece old new rows columns q r line i next b c → DrawsUpTo old new rows columns p r line next a c
    line_piece p q r k i next a b c d order some inside whole alike piece =
        let at_i = skipped p q k i a b d order inside (rw lines.new_is whole)
        (λ j h g. rw (lines.old_is, lines.new_is) (alike j h g)) in
        let e : i + (next - i) ≡ next = omega arith in
        record {
          inside = piece.inside;
          whole = piece.whole;
          takes = takes_then old new (HasLine rows columns p line (seen_at old line)) (Drawing rows columns q)
              (DrawsLine rows columns q line (seen_at old line) (seen_at new line) i)
              (Writes rows columns r line i (next - i) (seen_at new line))
              (DrawsLine rows columns r line (seen_at old line) (seen_at new line) next) a b c
              at_i.takes piece.takes
              (λ x y h w. w.drawing)
              (λ x y z h w v. record {
                drawing = v.drawing;
                here = λ j hj. v.here j hj
                    ∙ mixed_over (seen_at old line) (seen_at new line) (seen y line) i (next - i) j new_paired
                    (omega arith) at_i.whole (w.here j hj)
                    ∙ ap (λ m. mixed (seen_at old line) (seen_at new line) m j) e;
                elsewhere = λ l j ne. v.elsewhere l j ne ∙ w.elsewhere l j ne;
                modes = v.modes ∙ w.modes;
              });
        }

    pub line_end : (p q : Pen) (k : ℕ) (a b : List ℕ) → DrawsUpTo old new rows columns p q line k a b
        → ((c : ℕ) → k ≤ c → c < length before → unprotected (cell_at before c) ≡ unprotected (cell_at after c))
        → DrawsUpTo old new rows columns p q line columns a b
    line_end p q k a b d alike =
        skipped p q k columns a b d d.inside (omega arith)
        (rw lines.new_is (ap (λ (x : Cell). is_right x.shape) (cell_at_past after columns (omega arith))))
        (λ c h g. rw (lines.old_is, lines.new_is) (alike c h (omega (arith, lines.same_width))))
