-- New cells over as many old ones, put in one piece or in two.
use Rattle.vt_screen.proofs.Vocabulary.{◌≡◌, ℕ, zero, suc, ◌+◌, ◌-◌, ◌<◌, ◌≤◌, Bool, true, false, ◌&&◌, eqb, ltb, leb}
use Rattle.vt_screen.proofs.Vocabulary.{cond, List, [], ◌∷◌, ◌++◌, length, set, refl, sym, ap, ◌∙◌, arith, ⊎_elim}
use Rattle.vt_screen.proofs.Vocabulary.{eq-eqb, length-append, subst, if◌then◌else◌, ◌==◌, append-nil, get_or-set_same}
use Rattle.vt_screen.proofs.Vocabulary.{get_or-set_other, length-set, cases_lt, cases_eq, ne_eqb, nat_tests, Cell}
use Rattle.vt_screen.proofs.Vocabulary.{blank, cell_at, is_left, is_right, marked, IsPaired, cells_from, spliced}
use Rattle.vt_screen.proofs.Vocabulary.{line_at, IsPage, page_from, page_marked, edited, whole, last_columns}
use Rattle.vt_screen.proofs.Vocabulary.{page_from-edited, IsPage-page_from}
use Rattle.std.proofs.lemmas.List.{ext_get_or, set-set, get_or_append_left, get_or-append_right}
use Rattle.cells.specs.declared.cell.Shape.{Shape}
use Rattle.cells.specs.declared.cell.Shape.TheVariants.{Narrow, Left, Right}
use Rattle.cells.proofs.Settling.{cell_at_past, length-cells_from, IsPaired-cells_from}
use Rattle.terminal_model.specs.Places.{overlaid_cell}
use Rattle.terminal_model.proofs.Places.{over-is}

-- a line with new cells over as many old ones
abbrev pub over : ℕ → List Cell → List Cell → List Cell
over at fresh cells = cells_from (spliced at fresh (at + length fresh) (length cells)) cells

length-over : (at : ℕ) (fresh cells : List Cell) → length (over at fresh cells) ≡ length cells
length-over at fresh cells = length-cells_from (spliced at fresh (at + length fresh) (length cells)) cells

-- the cell at a column before, in and after the new ones
module _ (fresh : List Cell) (at : ℕ) (old : List Cell) (k : ℕ) where
  before_new : k < at
      → overlaid_cell fresh at old k ≡
      (if (k + 1 == at) && is_left (cell_at old k).shape then blank else cell_at old k)
  before_new h =
      let a : leb at k ≡ false = grind (arith, nat_tests) in
      let b : eqb k (at + length fresh) ≡ false = ne_eqb k (at + length fresh) (omega arith) in
      rw (a, b) refl

  in_new : at ≤ k → k < at + length fresh → overlaid_cell fresh at old k ≡ cell_at fresh (k - at)
  in_new h l =
      let a : leb at k ≡ true = grind (arith, nat_tests) in
      let b : ltb k (at + length fresh) ≡ true = grind (arith, nat_tests) in
      rw (a, b) refl

  behind_new : at + length fresh ≤ k
      → overlaid_cell fresh at old k ≡
      (if (k == at + length fresh) && is_right (cell_at old k).shape then blank else cell_at old k)
  behind_new h =
      let a : leb at k ≡ true = grind (arith, nat_tests) in
      let b : ltb k (at + length fresh) ≡ false = grind (arith, nat_tests) in
      let c : eqb (k + 1) at ≡ false = ne_eqb (k + 1) at (omega arith) in
      rw (a, b, c) refl

-- some cells, and then others
module _ (at : ℕ) (front later cells : List Cell) (fronts : IsPaired front) (pairs : IsPaired later)
    (all : IsPaired (front ++ later)) (begun : 0 < length front) (some : 0 < length later) (paired : IsPaired cells)
    (room : at + length front + length later ≤ length cells) where
  abbrev one : List Cell
  one = over at front cells

  abbrev end : ℕ
  end = at + length front

  n : length (front ++ later) ≡ length front + length later
  n = length-append front later

  width : length one ≡ length cells
  width = length-over at front cells

  one_is : (k : ℕ) → cell_at one k ≡ overlaid_cell front at cells k
  one_is k = over-is front cells at paired fronts begun (omega arith) k

  both_is : (k : ℕ) → cell_at (over end later one) k ≡ overlaid_cell later end one k
  both_is k = over-is later one end (IsPaired-cells_from (spliced at front end (length cells)) cells paired) pairs some
      (rw width room) k

  all_is : (k : ℕ) → cell_at (over at (front ++ later) cells) k ≡ overlaid_cell (front ++ later) at cells k
  all_is k = over-is (front ++ later) cells at paired all (rw n (omega arith)) (rw n (omega arith)) k

  before : (k : ℕ) → k < at → cell_at (over end later one) k ≡ cell_at (over at (front ++ later) cells) k
  before k h =
      let inside : eqb (k + 1) end ≡ false = ne_eqb (k + 1) end (omega arith) in
      both_is k ∙ before_new later end one k (omega arith) ∙ rw inside (one_is k) ∙ before_new front at cells k h
      ∙ sym (all_is k ∙ before_new (front ++ later) at cells k h)

  -- the last one of the front cells is no left half
  closed : (k : ℕ) → k + 1 ≡ end → is_left (cell_at front (k - at)).shape ≡ false
  closed k e =
      let last : length front ≤ suc (k - at) = omega arith in
      fronts.next (k - at) ∙ ap (λ (c : Cell). is_right c.shape) (cell_at_past front (suc (k - at)) last)

  first : (k : ℕ) → at ≤ k → k < end → cell_at (over end later one) k ≡ cell_at (over at (front ++ later) cells) k
  first k low high =
      let is : cell_at one k ≡ cell_at front (k - at) = one_is k ∙ in_new front at cells k low high in
      both_is k ∙ before_new later end one k high
      ∙ ap (λ (c : Cell). if (k + 1 == end) && is_left c.shape then blank else c) is
      ∙ ⊎_elim
      (λ (e : k + 1 ≡ end). rw (eq-eqb (k + 1) end e, closed k e) refl)
      (λ (ne : k + 1 ≡ end → ⊥). rw (ne_eqb (k + 1) end ne) refl)
      (cases_eq (k + 1) end)
      ∙ sym
      (all_is k ∙ in_new (front ++ later) at cells k low (rw n (omega arith))
      ∙ get_or_append_left front later blank (k - at) (omega arith))

  among : (k : ℕ) → end ≤ k → k < end + length later
      → cell_at (over end later one) k ≡ cell_at (over at (front ++ later) cells) k
  among k low high =
      let e : k - at - length front ≡ k - end = omega arith in
      both_is k ∙ in_new later end one k low high
      ∙ sym
      (all_is k ∙ in_new (front ++ later) at cells k (omega arith) (rw n (omega arith))
      ∙ get_or-append_right front later (length front) (k - at) blank refl (omega arith) ∙ ap (cell_at later) e)

  behind : (k : ℕ) → end + length later ≤ k
      → cell_at (over end later one) k ≡ cell_at (over at (front ++ later) cells) k
  behind k h =
      let beyond : eqb k end ≡ false = ne_eqb k end (omega arith) in
      let is : cell_at one k ≡ cell_at cells k = one_is k ∙ behind_new front at cells k (omega arith) ∙ rw beyond refl
      in
      let e : at + length (front ++ later) ≡ end + length later = omega (arith, n) in
      both_is k ∙ behind_new later end one k h
      ∙ ap (λ (c : Cell). if (k == end + length later) && is_right c.shape then blank else c) is
      ∙ sym
      (all_is k ∙ behind_new (front ++ later) at cells k (omega (arith, n))
      ∙ ap (λ (m : ℕ). if (k == m) && is_right (cell_at cells k).shape then blank else cell_at cells k) e)

  pub over_more : over end later one ≡ over at (front ++ later) cells
  over_more =
      ext_get_or blank (over end later one) (over at (front ++ later) cells)
      (length-over end later one ∙ width ∙ sym (length-over at (front ++ later) cells)) (λ k h. ⊎_elim
      (λ (b : k < at). before k b)
      (λ (b : at ≤ k). ⊎_elim
      (λ (f : k < end). first k b f)
      (λ (f : end ≤ k). ⊎_elim
      (λ (l : k < end + length later). among k f l)
      (λ (l : end + length later ≤ k). behind k l)
      (cases_lt k (end + length later)))
      (cases_lt k end))
      (cases_lt k at))

-- the cells of a character
pairs_by : (s : Shape) (cell : Cell) (later : List Cell) → is_right s ≡ false → IsPaired later
    → IsPaired (whole (record cell { shape = s }) ++ later)
pairs_by Narrow cell later h paired = record {
  first = refl;
  next = λ column. elim column as
      (λ c. is_left (cell_at (record cell { shape = Narrow } ∷ later) c).shape ≡ is_right
      (cell_at (record cell { shape = Narrow } ∷ later) (suc c)).shape)
      [ zero ↦ sym paired.first | suc c ↦ paired.next c ];
}
pairs_by Left cell later h paired = record { first = refl; next = next }
  where
    next : (column : ℕ)
        → is_left (cell_at (whole (record cell { shape = Left }) ++ later) column).shape ≡ is_right
        (cell_at (whole (record cell { shape = Left }) ++ later) (suc column)).shape
    next zero = refl
    next (suc zero) = sym paired.first
    next (suc (suc c)) = paired.next c
pairs_by Right cell later h paired = absurd (cc)

last_by : (s : Shape) (cell : Cell) → is_right s ≡ false
    → last_columns (whole (record cell { shape = s })) ≡ length (whole (record cell { shape = s }))
last_by Narrow cell h = refl
last_by Left cell h = refl
last_by Right cell h = absurd (cc)

module _ (cell : Cell) (first : is_right cell.shape ≡ false) where
  pub whole_pairs : (later : List Cell) → IsPaired later → IsPaired (whole cell ++ later)
  whole_pairs later paired = pairs_by cell.shape cell later first paired

  pub whole_paired : IsPaired (whole cell)
  whole_paired = subst IsPaired (append-nil (whole cell))
      (whole_pairs [] (record { first = refl; next = λ column. refl }))

  pub whole_last : last_columns (whole cell) ≡ length (whole cell)
  whole_last = last_by cell.shape cell first

-- the last character of paired cells takes no more columns than they do
pub last_fits : (cells : List Cell) → IsPaired cells → 0 < length cells → last_columns cells ≤ length cells
last_fits [] paired some = absurd (omega arith)
last_fits (c ∷ []) paired some = rw paired.first (omega arith)
last_fits (c ∷ d ∷ more) paired some = go (is_right (cell_at (c ∷ d ∷ more) (length (c ∷ d ∷ more) - 1)).shape)
  where
    go : (b : Bool) → cond b 2 1 ≤ suc (suc (length more))
    go true = omega arith
    go false = omega arith

pub last_behind : (front later : List Cell) → 0 < length later → last_columns (front ++ later) ≡ last_columns later
last_behind front later some =
    let n : length (front ++ later) ≡ length front + length later = length-append front later in
    let e : length (front ++ later) - 1 - length front ≡ length later - 1 = omega (arith, n) in
    ap (λ (c : Cell). cond (is_right c.shape) 2 1)
    (get_or-append_right front later (length front) (length (front ++ later) - 1) blank refl (omega (arith, n))
    ∙ ap (cell_at later) e)

-- a character that was put, with one more mark
module _ (at mark : ℕ) (cell : Cell) (cells : List Cell) (first : is_right cell.shape ≡ false) (paired : IsPaired cells)
    (room : at + length (whole cell) ≤ length cells) where
  put_is : (c : Cell) → is_right c.shape ≡ false → at + length (whole c) ≤ length cells → (k : ℕ)
      → cell_at (over at (whole c) cells) k ≡ overlaid_cell (whole c) at cells k
  put_is c f r k = over-is (whole c) cells at paired (whole_paired c f) (omega arith) r k

  there : (c : Cell) → is_right c.shape ≡ false → at + length (whole c) ≤ length cells
      → cell_at (over at (whole c) cells) at ≡ c
  there c f r =
      let none : at - at ≡ 0 = omega arith in
      put_is c f r at ∙ in_new (whole c) at cells at (omega arith) (omega arith) ∙ ap (cell_at (whole c)) none

  elsewhere : (k : ℕ) → (k ≡ at → ⊥)
      → overlaid_cell (whole cell) at cells k ≡ overlaid_cell (whole (marked cell mark)) at cells k
  elsewhere k ne = ⊎_elim
      (λ (h : k < at). let no : leb at k ≡ false = grind (arith, nat_tests) in rw no refl)
      (λ (h : at ≤ k). let e : k - at ≡ suc (k - suc at) = omega arith in rw e refl)
      (cases_lt k at)

  pub over_marked : set (over at (whole cell) cells) at (marked (cell_at (over at (whole cell) cells) at) mark)
      ≡ over at (whole (marked cell mark)) cells
  over_marked =
      let one : List Cell = over at (whole cell) cells in
      let new : Cell = marked cell mark in
      let n : length one ≡ length cells = length-over at (whole cell) cells in
      ap (λ (c : Cell). set one at (marked c mark)) (there cell first room)
      ∙ ext_get_or blank (set one at new) (over at (whole new) cells)
      (length-set one at new ∙ n ∙ sym (length-over at (whole new) cells)) (λ k h. ⊎_elim
      (λ (e : k ≡ at). ap (cell_at (set one at new)) e ∙ get_or-set_same one at new blank (rw n (omega arith))
      ∙ sym (ap (cell_at (over at (whole new) cells)) e ∙ there new first room))
      (λ (ne : k ≡ at → ⊥). get_or-set_other one at k new blank ne ∙ put_is cell first room k ∙ elsewhere k ne
      ∙ sym (put_is new first room k))
      (cases_eq k at))

-- a page with new cells over as many old ones in one of its lines
abbrev pub page_over : ℕ → ℕ → ℕ → List Cell → List (List Cell) → List (List Cell)
page_over width line at fresh page = page_from (edited line (spliced at fresh (at + length fresh) width)) page

module _ (rows width line : ℕ) (page : List (List Cell)) (is_page : IsPage rows width page) (inside : line < rows) where
  pub IsPage-page_over : (at : ℕ) (fresh : List Cell) → IsPage rows width (page_over width line at fresh page)
  IsPage-page_over at fresh =
      IsPage-page_from (edited line (spliced at fresh (at + length fresh) width)) rows width page is_page

  page_over-set : (at : ℕ) (fresh : List Cell)
      → page_over width line at fresh page ≡ set page line (over at fresh (line_at page line))
  page_over-set at fresh =
      page_from-edited line (spliced at fresh (at + length fresh) width) rows width page is_page inside
      ∙ ap (λ w. set page line (cells_from (spliced at fresh (at + length fresh) w) (line_at page line)))
      (sym (is_page.width line inside))

  -- an edit of that line
  edited_over : (at : ℕ) (fresh : List Cell) (f : List Cell → List Cell)
      → set (page_over width line at fresh page) line (f (line_at (page_over width line at fresh page) line)) ≡ set page
      line (f (over at fresh (line_at page line)))
  edited_over at fresh f =
      let put : List Cell = over at fresh (line_at page line) in
      ap (λ p. set p line (f (line_at p line))) (page_over-set at fresh)
      ∙ ap (λ cells. set (set page line put) line (f cells))
      (get_or-set_same page line put [] (rw is_page.height inside))
      ∙ set-set page line put (f put)

module _ (rows width line at : ℕ) (cell : Cell) (page : List (List Cell)) (is_page : IsPage rows width page)
    (inside : line < rows) (first : is_right cell.shape ≡ false) where
  abbrev old : List Cell
  old = line_at page line

  abbrev first_page : List (List Cell)
  first_page = page_over width line at (whole cell) page

  pub page_over_marked : (mark : ℕ) → at + length (whole cell) ≤ width
      → page_marked line at mark first_page ≡ page_over width line at (whole (marked cell mark)) page
  page_over_marked mark room =
      edited_over rows width line page is_page inside at (whole cell)
      (λ cells. set cells at (marked (cell_at cells at) mark))
      ∙ ap (set page line)
      (over_marked at mark cell old first (is_page.paired line) (rw (is_page.width line inside) room))
      ∙ sym (page_over-set rows width line page is_page inside at (whole (marked cell mark)))

  pub page_over_more : (later : List Cell) → IsPaired later → 0 < length later
      → at + length (whole cell) + length later ≤ width
      → page_over width line (at + length (whole cell)) later first_page ≡ page_over width line at
      (whole cell ++ later) page
  page_over_more later pairs some room =
      let end : ℕ = at + length (whole cell) in
      page_over-set rows width line first_page (IsPage-page_over rows width line page is_page inside at (whole cell))
      inside end later
      ∙ edited_over rows width line page is_page inside at (whole cell) (over end later)
      ∙ ap (set page line)
      (over_more at (whole cell) later old (whole_paired cell first) pairs (whole_pairs cell first later pairs)
      (omega arith) some (is_page.paired line) (rw (is_page.width line inside) room))
      ∙ sym (page_over-set rows width line page is_page inside at (whole cell ++ later))
