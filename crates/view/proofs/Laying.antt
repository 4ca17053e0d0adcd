-- Facts of pieces that are laid over a page.
use Rattle.view.proofs.Vocabulary.{◌≡◌, ℕ, suc, ◌+◌, ◌-◌, ◌<◌, ◌≤◌, Bool, true, false, ◌&&◌, eqb, leb, ltb, List}
use Rattle.view.proofs.Vocabulary.{length, refl, sym, ap, subst, ◌∙◌, arith, ⊎_elim, inl, inr, ◌⊎◌, eq-eqb, lt-ltb}
use Rattle.view.proofs.Vocabulary.{le-leb, if◌then◌else◌, ◌==◌, cases_lt, cases_eq, cases_Bool, ne_eqb, ltb-true}
use Rattle.view.proofs.Vocabulary.{leb-true, get_or_past, Cell, blank, cell_at, is_left, is_right, IsPaired, spliced}
use Rattle.view.proofs.Vocabulary.{line_at, IsGrid, page_from, edited, and_false, place, overlaid_cell, View, over-at}
use Rattle.view.proofs.Vocabulary.{Rect, has, among, written, Piece, IsRow, IsOnPage, IsFree, laid, Lays, row_of}
use Rattle.std.proofs.lemmas.Bool.Decides.{nat_tests}
use Rattle.cells.proofs.Pages.{length-page_from, width-page_from}
use Rattle.view.specs.Rows.{row_piece}

-- ---- places of a rectangle

pub record InRect (r : Rect) (l c : ℕ) : Type 0 where
  pub above : r.line ≤ l
  pub below : l < r.line + r.rows
  pub left : r.column ≤ c
  pub right : c < r.column + r.columns

both : (a b : Bool) → (a && b) ≡ true → (a ≡ true) × (b ≡ true)
both true true h = (refl, refl)
both true false h = cc
both false b h = cc

pub has_in : (r : Rect) (l c : ℕ) → has r l c ≡ true → InRect r l c
has_in r l c h =
    let rows = both (among r.line r.rows l) (among r.column r.columns c) h in
    let line = both (leb r.line l) (ltb l (r.line + r.rows)) rows.0 in
    let column = both (leb r.column c) (ltb c (r.column + r.columns)) rows.1 in
    record {
      above = leb-true r.line l line.0;
      below = ltb-true l (r.line + r.rows) line.1;
      left = leb-true r.column c column.0;
      right = ltb-true c (r.column + r.columns) column.1;
    }

pub in_has : (r : Rect) (l c : ℕ) → InRect r l c → has r l c ≡ true
in_has r l c i = rw (
  le-leb r.line l i.above,
  lt-ltb l (r.line + r.rows) i.below,
  le-leb r.column c i.left,
  lt-ltb c
      (r.column + r.columns) i.right,
) refl

pub not_has : (r : Rect) (l c : ℕ) → (InRect r l c → ⊥) → has r l c ≡ false
not_has r l c none = ⊎_elim (λ (t : has r l c ≡ true). absurd (none (has_in r l c t))) (λ (f : has r l c ≡ false). f)
    (cases_Bool (has r l c))

pub cases_has : (r : Rect) (l c : ℕ) → (InRect r l c) ⊎ (has r l c ≡ false)
cases_has r l c = ⊎_elim (λ (t : has r l c ≡ true). inl (has_in r l c t)) (λ (f : has r l c ≡ false). inr f)
    (cases_Bool (has r l c))

-- ---- new cells at whose edges no wide character is cut in two

module _ (old cells : List Cell) (at : ℕ) (paired : IsPaired old) (some : 0 < length cells)
    (starts : is_right (cell_at old at).shape ≡ false)
    (ends : is_left (cell_at old (at + (length cells - 1))).shape ≡ false) where
  whole_before : (c : ℕ) → c + 1 ≡ at → is_left (cell_at old c).shape ≡ false
  whole_before c e =
      let next : suc c ≡ at = omega arith in
      paired.next c ∙ ap (λ (k : ℕ). is_right (cell_at old k).shape) next ∙ starts

  whole_after : (c : ℕ) → c ≡ at + length cells → is_right (cell_at old c).shape ≡ false
  whole_after c e =
      let last : ℕ = length cells - 1 in
      let next : c ≡ suc (at + last) = omega arith in
      ap (λ (k : ℕ). is_right (cell_at old k).shape) next ∙ sym (paired.next (at + last)) ∙ ends

  beside : (c : ℕ) → (c < at) ⊎ (at + length cells ≤ c) → overlaid_cell cells at old c ≡ cell_at old c
  beside c side =
      let out : (leb at c && ltb c (at + length cells)) ≡ false = ⊎_elim (λ (h : c < at). grind (arith, nat_tests))
      (λ (h : at + length cells ≤ c). grind (arith, nat_tests)) side in
      let before : (eqb (c + 1) at && is_left (cell_at old c).shape) ≡ false = ⊎_elim
      (λ (e : c + 1 ≡ at). rw (whole_before c e) (and_false (eqb (c + 1) at)))
      (λ (ne : c + 1 ≡ at → ⊥). rw (ne_eqb (c + 1) at ne) refl)
      (cases_eq (c + 1) at)
      in
      let after : (eqb c (at + length cells) && is_right (cell_at old c).shape) ≡ false = ⊎_elim
      (λ (e : c ≡ at + length cells). rw (whole_after c e) (and_false (eqb c (at + length cells))))
      (λ (ne : c ≡ at + length cells → ⊥). rw (ne_eqb c (at + length cells) ne) refl)
      (cases_eq c (at + length cells))
      in
      rw (out, before, after) refl

  inside : (c : ℕ) → at ≤ c → c < at + length cells → overlaid_cell cells at old c ≡ cell_at cells (c - at)
  inside c a b = rw (le-leb at c a, lt-ltb c (at + length cells) b) refl

-- a row of cells in a free rectangle of one row
module _ (r : Rect) (old : View) (cells : List Cell) (grid : IsGrid old.page) (free : IsFree r old.page)
    (one : r.rows ≡ 1) (paired : IsPaired cells) (wide : length cells ≡ r.columns) where
  abbrev line : ℕ
  line = r.line

  abbrev column : ℕ
  column = r.column

  corner : IsOnPage old.page r.line r.column
  corner = free.inside r.line r.column
      (in_has r r.line r.column
      (record { above = omega arith; below = omega arith; left = omega arith; right = omega (arith, free.wide) }))

  last : IsOnPage old.page r.line (r.column + (r.columns - 1))
  last = free.inside r.line (r.column + (r.columns - 1))
      (in_has r r.line (r.column + (r.columns - 1))
      (record { above = omega arith; below = omega arith; left = omega arith; right = omega (arith, free.wide) }))

  pub line_inside : line < length old.page
  line_inside = corner.0

  pub cells_fit : column + length cells ≤ length (line_at old.page 0)
  cells_fit = omega (arith, last.1, free.wide)

  starts : is_right (cell_at (line_at old.page line) column).shape ≡ false
  starts = free.starts line column
      (in_has r line column
      (record { above = omega arith; below = omega arith; left = omega arith; right = omega (arith, free.wide) }))
      (omega arith)

  ends : is_left (cell_at (line_at old.page line) (column + (length cells - 1))).shape ≡ false
  ends = free.ends line (column + (length cells - 1))
      (in_has r line (column + (length cells - 1))
      (record { above = omega arith; below = omega arith; left = omega arith; right = omega (arith, free.wide) }))
      (omega (arith, free.wide))

  wide_line : length (line_at old.page line) ≡ length (line_at old.page 0)
  wide_line = grid.well_formed.width line line_inside

  some : 0 < length cells
  some = omega (arith, free.wide)

  written_at : (l c : ℕ)
      → place (written line column cells old.page) l c ≡
      (if l == line then overlaid_cell cells column (line_at old.page line) c else place old.page l c)
  written_at l c =
      ap (λ (n : ℕ). place (page_from (edited line (spliced column cells (column + length cells) n)) old.page) l c)
      wide_line
      ∙ over-at (length old.page) (length (line_at old.page 0)) line column (column + length cells) cells old.page
      grid.well_formed line_inside paired some cells_fit refl l c

  module _ (new : View) (new_is : new ≡ record old { page = written line column cells old.page }) where
    page_is : new.page ≡ written line column cells old.page
    page_is = ap (λ (v : View). v.page) new_is

    placed : (l c : ℕ) → place new.page l c ≡ laid (row_piece r cells) old.page l c
    placed l c = ap (λ (p : List (List Cell)). place p l c) page_is ∙ written_at l c ∙ ⊎_elim
        (λ (i : InRect r l c).
        let e : l ≡ line = omega (arith, i.above, i.below) in
        rw (in_has r l c i, eq-eqb l line e)
        (inside (line_at old.page line) cells column (grid.well_formed.paired line) some starts ends c i.left
        (omega (arith, i.right))))
        (λ (out : has r l c ≡ false). rw out (⊎_elim
        (λ (e : l ≡ line). rw (eq-eqb l line e)
        (beside (line_at old.page line) cells column (grid.well_formed.paired line) some starts ends c
        (side l c e out) ∙ ap (λ (n : ℕ). place old.page n c) (sym e)))
        (λ (ne : l ≡ line → ⊥). rw (ne_eqb l line ne) refl)
        (cases_eq l line)))
        (cases_has r l c)
      where
        side : (l c : ℕ) → l ≡ line → has r l c ≡ false → (c < column) ⊎ (column + length cells ≤ c)
        side l c e out = ⊎_elim
            (λ (h : c < column). inl h)
            (λ (h : column ≤ c). ⊎_elim
            (λ (k : c < column + length cells). let t : has r l c ≡ true = in_has r l c
            (record { above = omega arith; below = omega arith; left = omega arith; right = omega arith }) in absurd
            (go t out))
            (λ (k : column + length cells ≤ c). inr k)
            (cases_lt c (column + length cells)))
            (cases_lt c column)
          where
            go : has r l c ≡ true → has r l c ≡ false → ⊥
            go t f = cc

    pub row_lays : Lays (row_piece r cells) old new
    row_lays = record {
      rows_are = ap length page_is
          ∙ length-page_from
          (edited line (spliced column cells (column + length cells) (length (line_at old.page line)))) old.page;
      columns_are = ap (λ (p : List (List Cell)). length (line_at p 0)) page_is
          ∙ width-page_from
          (edited line (spliced column cells (column + length cells) (length (line_at old.page line)))) old.page 0;
      cells_are = placed;
      rest = new_is ∙ ap (λ (p : List (List Cell)). record old { page = p }) (sym page_is);
    }

-- ---- rectangles that are free

-- a rectangle is free if its places on the page are blanks
pub free_of_blanks : (r : Rect) (page : List (List Cell)) → 0 < r.columns
    → ((l c : ℕ) → has r l c ≡ true → IsOnPage page l c) → ((l c : ℕ) → place page l c ≡ blank) → IsFree r page
free_of_blanks r page some inside blanks = record {
  wide = some;
  inside = inside;
  starts = λ l c h first. ap (λ (x : Cell). is_right x.shape) (blanks l c);
  ends = λ l c h last. ap (λ (x : Cell). is_left x.shape) (blanks l c);
}

-- a rectangle is free if it is as wide as the page
pub free_if_wide : (r : Rect) (page : List (List Cell)) → IsGrid page → r.column ≡ 0
    → r.columns ≡ length (line_at page 0) → r.line + r.rows ≤ length page → IsFree r page
free_if_wide r page grid first wide above = record {
  wide = omega (arith, wide, grid.size.least_columns);
  inside = λ l c h. let i = has_in r l c h in (omega (arith, i.below, above), omega (arith, first, wide, i.right));
  starts = λ l c h at.
      let none : c ≡ 0 = omega (arith, at, first) in
      ap (λ (k : ℕ). is_right (place page l k).shape) none ∙ (grid.well_formed.paired l).first;
  ends = λ l c h at.
      let i = has_in r l c h in
      let end : length (line_at page l) ≤ suc c = omega
      (arith, grid.well_formed.width l (omega (arith, i.below, above)), at, first, wide) in
      (grid.well_formed.paired l).next c
      ∙ ap (λ (x : Cell). is_right x.shape) (get_or_past (line_at page l) (suc c) blank end);
}

-- a rectangle stays free after another piece was laid beside it
pub still_free : (r : Rect) (p : Piece) (old new : View) → ((l c : ℕ) → has r l c ≡ true → has p.rect l c ≡ false)
    → Lays p old new → IsFree r old.page → IsFree r new.page
still_free r p old new apart lays free = record {
  wide = free.wide;
  inside = λ l c h. let on = free.inside l c h in (rw lays.rows_are on.0, rw lays.columns_are on.1);
  starts = λ l c h first. ap (λ (x : Cell). is_right x.shape) (same l c h) ∙ free.starts l c h first;
  ends = λ l c h last. ap (λ (x : Cell). is_left x.shape) (same l c h) ∙ free.ends l c h last;
}
  where
    same : (l c : ℕ) → has r l c ≡ true → place new.page l c ≡ place old.page l c
    same l c h =
        let out : has p.rect l c ≡ false = apart l c h in
        let kept : laid p old.page l c ≡ place old.page l c = rw out refl in
        lays.cells_are l c ∙ kept

-- ---- rows of a piece, one after the other

abbrev pub first_rows : Piece → ℕ → Piece
first_rows p n = record { rect = record p.rect { rows = n }; cell = p.cell }

pub none_lays : (p : Piece) (v : View) → Lays (first_rows p 0) v v
none_lays p v = record {
  rows_are = refl;
  columns_are = refl;
  cells_are = λ l c. let out : has (record p.rect { rows = 0 }) l c ≡ false = not_has (record p.rect { rows = 0 }) l c
      (λ i. omega (arith, i.above, i.below)) in rw out refl;
  rest = refl;
}

pub row_is_free : (p : Piece) (n : ℕ) (old mid : View) → IsFree p.rect old.page → n < p.rect.rows
    → Lays (first_rows p n) old mid → IsFree (row_of p.rect n) mid.page
row_is_free p n old mid free lt lays = record {
  wide = free.wide;
  inside = λ l c h.
      let i = has_in (row_of p.rect n) l c h in
      let on = free.inside l c
      (in_has p.rect l c
      (record { above = omega (arith, i.above); below = omega (arith, i.below); left = i.left; right = i.right }))
      in
      (rw lays.rows_are on.0, rw lays.columns_are on.1);
  starts = λ l c h first. ap (λ (x : Cell). is_right x.shape) (unchanged l c h) ∙ free.starts l c (inside l c h) first;
  ends = λ l c h last. ap (λ (x : Cell). is_left x.shape) (unchanged l c h) ∙ free.ends l c (inside l c h) last;
}
  where
    inside : (l c : ℕ) → has (row_of p.rect n) l c ≡ true → has p.rect l c ≡ true
    inside l c h =
        let i = has_in (row_of p.rect n) l c h in
        in_has p.rect l c
        (record { above = omega (arith, i.above); below = omega (arith, i.below); left = i.left; right = i.right })

    unchanged : (l c : ℕ) → has (row_of p.rect n) l c ≡ true → place mid.page l c ≡ place old.page l c
    unchanged l c h =
        let i = has_in (row_of p.rect n) l c h in
        let out : has (record p.rect { rows = n }) l c ≡ false = not_has (record p.rect { rows = n }) l c
        (λ j. omega (arith, i.above, j.below)) in
        let same : laid (first_rows p n) old.page l c ≡ place old.page l c = rw out refl in
        lays.cells_are l c ∙ same

pub one_more_row : (p : Piece) (n : ℕ) (old mid new : View) (cells : List Cell) → Lays (first_rows p n) old mid
    → Lays (row_piece (row_of p.rect n) cells) mid new → IsRow (p.cell n) p.rect.columns cells
    → Lays (first_rows p (n + 1)) old new
one_more_row p n old mid new cells first next row = record {
  rows_are = next.rows_are ∙ first.rows_are;
  columns_are = next.columns_are ∙ first.columns_are;
  cells_are = λ l c. next.cells_are l c ∙ ⊎_elim
      (λ (i : InRect (row_of p.rect n) l c).
      let more : has (record p.rect { rows = n + 1 }) l c ≡ true = in_has (record p.rect { rows = n + 1 }) l c
      (record { above = omega (arith, i.above); below = omega (arith, i.below); left = i.left; right = i.right }) in
      let at : n ≡ l - p.rect.line = omega (arith, i.above, i.below) in
      rw (in_has (row_of p.rect n) l c i, more)
      (row.cells_are (c - p.rect.column) (omega (arith, i.left, i.right))
      ∙ ap (λ (k : ℕ). p.cell k (c - p.rect.column)) at))
      (λ (out : has (row_of p.rect n) l c ≡ false). rw out (first.cells_are l c ∙ ⊎_elim
      (λ (i : InRect (record p.rect { rows = n }) l c).
      let more : has (record p.rect { rows = n + 1 }) l c ≡ true = in_has (record p.rect { rows = n + 1 }) l c
      (record { above = i.above; below = omega (arith, i.below); left = i.left; right = i.right }) in
      rw (in_has (record p.rect { rows = n }) l c i, more) refl)
      (λ (none : has (record p.rect { rows = n }) l c ≡ false).
      let less : has (record p.rect { rows = n + 1 }) l c ≡ false = not_has (record p.rect { rows = n + 1 }) l c
      (λ j. neither l c out none j) in
      rw (none, less) refl)
      (cases_has (record p.rect { rows = n }) l c)))
      (cases_has (row_of p.rect n) l c);
  rest = next.rest ∙ ap (λ (v : View). record v { page = new.page }) first.rest;
}
  where
    clash : (b : Bool) → b ≡ true → b ≡ false → ⊥
    clash b t f = cc

    neither : (l c : ℕ) → has (row_of p.rect n) l c ≡ false → has (record p.rect { rows = n }) l c ≡ false
        → InRect (record p.rect { rows = n + 1 }) l c → ⊥
    neither l c out none j = ⊎_elim
        (λ (h : l < p.rect.line + n). clash _
        (in_has (record p.rect { rows = n }) l c
        (record { above = j.above; below = h; left = j.left; right = j.right })) none)
        (λ (h : p.rect.line + n ≤ l). clash _
        (in_has (row_of p.rect n) l c
        (record { above = h; below = omega (arith, j.below); left = j.left; right = j.right })) out)
        (cases_lt l (p.rect.line + n))

pub all_rows : (p : Piece) (n : ℕ) (old new : View) → n ≡ p.rect.rows → Lays (first_rows p n) old new → Lays p old new
all_rows p n old new e lays = subst (λ (k : ℕ). Lays (first_rows p k) old new) e lays
