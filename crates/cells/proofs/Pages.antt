-- The lines of a page from its origins.
use Rattle.cells.proofs.Vocabulary.{◌≡◌, ℕ, zero, suc, ◌+◌, ◌<◌, ◌≤◌, true, false, ◌&&◌, eqb, List, [], ◌∷◌, length}
use Rattle.cells.proofs.Vocabulary.{map, set, get_or, replicate, refl, sym, ap, ◌∙◌, subst, arith, ⊎_elim, eq-eqb}
use Rattle.cells.proofs.Vocabulary.{range_with_len, length-map-range_with_len, get_or-map-range_with_len, get_or_past}
use Rattle.cells.proofs.Vocabulary.{ext_get_or, get_or-set_same, get_or-set_other, length-set, get_or_default, cases_lt}
use Rattle.cells.proofs.Vocabulary.{cases_eq, cases_Bool, ne_eqb, Cell, blank, cell_at, is_left, is_right, IsPaired}
use Rattle.cells.proofs.Vocabulary.{Source, Fresh, Old, taken, are_halves, settled, source_before, source_after}
use Rattle.cells.proofs.Vocabulary.{cells_from}
use Rattle.cells.specs.Page.{line_at, IsPage, IsWellFormed, IsGrid, Origin, New, From, cell_from, are_own_halves}
use Rattle.cells.specs.Page.{settled_cell, origin_before, origin_after, line_from, page_from, on_line, edited}
use Rattle.cells.proofs.Settling.{kept_is, cells_from-is, settled_at, true≢false, cell_at_past, after_inside, left_kept}
use Rattle.cells.proofs.Settling.{right_kept, and_false, same_side}

-- lists made by equal functions
pub map_same : {X : Type 0} → (f g : ℕ → X) (a n : ℕ) → ((k : ℕ) → f k ≡ g k)
    → map f (range_with_len a n) ≡ map g (range_with_len a n)
map_same f g a zero h = refl
map_same f g a (suc n) h = ap (λ x. x ∷ map f (range_with_len (a + 1) n)) (h a)
    ∙ ap (λ xs. g a ∷ xs) (map_same f g (a + 1) n h)

own_on_line : (line : ℕ) (a b : Source) → are_own_halves (on_line line a) (on_line line b) ≡ are_halves a b
own_on_line line (Fresh l) (Fresh r) = refl
own_on_line line (Fresh l) (Old d) = refl
own_on_line line (Old c) (Fresh r) = refl
own_on_line line (Old c) (Old d) = rw (eq-eqb line line refl) refl

cell_on_line : (page : List (List Cell)) (line : ℕ) (a : Source)
    → cell_from page (on_line line a) ≡ taken (line_at page line) a
cell_on_line page line (Fresh x) = refl
cell_on_line page line (Old c) = refl

pub settled_on_line : (page : List (List Cell)) (line : ℕ) (a b c : Source)
    → settled_cell page (on_line line a) (on_line line b) (on_line line c) ≡ settled (line_at page line) a b c
settled_on_line page line a b c = rw (cell_on_line page line b, own_on_line line b c, own_on_line line a b) refl

pub before_on_line : (origin : ℕ → Origin) (source : ℕ → Source) (line : ℕ)
    → ((column : ℕ) → origin column ≡ on_line line (source column)) → (column : ℕ)
    → origin_before origin column ≡ on_line line (source_before source column)
before_on_line origin source line same zero = refl
before_on_line origin source line same (suc column) = same column

pub after_on_line : (origin : ℕ → Origin) (source : ℕ → Source) (line width : ℕ)
    → ((column : ℕ) → origin column ≡ on_line line (source column)) → (column : ℕ)
    → origin_after origin width column ≡ on_line line (source_after source width column)
after_on_line origin source line width same column = ⊎_elim
    (λ (e : eqb (suc column) width ≡ true). rw e refl)
    (λ (e : eqb (suc column) width ≡ false). rw e (same (suc column)))
    (cases_Bool (eqb (suc column) width))

-- a line that an edit changes, and one that it doesn't
pub line_from-edit : (origin : ℕ → Origin) (source : ℕ → Source) (page : List (List Cell)) (line width : ℕ)
    → width ≡ length (line_at page line) → ((column : ℕ) → origin column ≡ on_line line (source column))
    → line_from origin width page ≡ cells_from source (line_at page line)
line_from-edit origin source page line width w same =
    map_same _ _ 0 width (λ column.
    rw (before_on_line origin source line same column, same column, after_on_line origin source line width same column)
    (settled_on_line page line (source_before source column) (source column) (source_after source width column)))
    ∙ ap (λ n. map
    (λ column. settled (line_at page line) (source_before source column) (source column)
    (source_after source n column)) (range_with_len 0 n)) w

-- all cells stay
pub cells_from-old : (cells : List Cell) → IsPaired cells → cells_from Old cells ≡ cells
unfolding settled_at
cells_from-old cells paired = sym
    (cells_from-is Old cells cells refl
    (λ column within. sym
    (kept_is (cell_at cells column).shape (cell_at cells column) _ _ (left_stays column within) (right_stays column))))
  where
    left_stays : (column : ℕ) → column < length cells → is_left (cell_at cells column).shape ≡ true
        → are_halves (Old column) (source_after Old (length cells) column) ≡ true
    left_stays column within left = ⊎_elim
        (λ inside. rw (after_inside Old (length cells) column inside) (eq-eqb (suc column) (suc column) refl))
        (λ last. absurd
        (true≢false _ (sym (paired.next column) ∙ left)
        (ap (λ (x : Cell). is_right x.shape) (cell_at_past cells (suc column) last))))
        (cases_lt (suc column) (length cells))

    right_stays : (column : ℕ) → is_right (cell_at cells column).shape ≡ true
        → are_halves (source_before Old column) (Old column) ≡ true
    right_stays zero right = absurd (true≢false _ right paired.first)
    right_stays (suc column) right = eq-eqb (suc column) (suc column) refl

-- a whole line comes along
pub line_from-whole : (origin : ℕ → Origin) (page : List (List Cell)) (line width : ℕ)
    → width ≡ length (line_at page line) → IsPaired (line_at page line)
    → ((column : ℕ) → origin column ≡ From line column) → line_from origin width page ≡ line_at page line
line_from-whole origin page line width w paired same = line_from-edit origin Old page line width w same
    ∙ cells_from-old (line_at page line) paired

pub map_replicate : {X : Type 0} → (x : X) (a n : ℕ) → map (λ (_k : ℕ). x) (range_with_len a n) ≡ replicate n x
map_replicate x a zero = refl
map_replicate x a (suc n) = ap (λ xs. x ∷ xs) (map_replicate x (a + 1) n)

-- a line of blanks
pub line_from-blank : (origin : ℕ → Origin) (page : List (List Cell)) (width : ℕ)
    → ((column : ℕ) → origin column ≡ New blank) → line_from origin width page ≡ replicate width blank
line_from-blank origin page width same = map_same _ (λ (_k : ℕ). blank) 0 width (λ column. rw (same column) refl)
    ∙ map_replicate blank 0 width

pub length-page_from : (origin : ℕ → ℕ → Origin) (page : List (List Cell))
    → length (page_from origin page) ≡ length page
length-page_from origin page = length-map-range_with_len _ 0 (length page)

pub line_at-page_from : (origin : ℕ → ℕ → Origin) (page : List (List Cell)) (line : ℕ) → line < length page
    → line_at (page_from origin page) line ≡ line_from (origin line) (length (line_at page line)) page
line_at-page_from origin page line h = get_or-map-range_with_len _ 0 (length page) line line [] h (omega arith)

-- a page with the right lines is the page from the origins
pub page_from-is : (origin : ℕ → ℕ → Origin) (page lines : List (List Cell)) → length lines ≡ length page
    → ((line : ℕ) → line < length page → line_at lines line ≡ line_from (origin line) (length (line_at page line)) page)
    → lines ≡ page_from origin page
page_from-is origin page lines h each = ext_get_or [] lines (page_from origin page)
    (h ∙ sym (length-page_from origin page)) (λ line inside.
    each line (rw h at inside) ∙ sym (line_at-page_from origin page line (rw h at inside)))

-- an edit of one line
pub page_from-edited : (at : ℕ) (source : ℕ → Source) (rows columns : ℕ) (page : List (List Cell))
    → IsPage rows columns page → at < rows
    → page_from (edited at source) page ≡ set page at (cells_from source (line_at page at))
page_from-edited at source rows columns page is_page inside =
    let n : length page ≡ rows = is_page.height in
    sym (page_from-is (edited at source) page (set page at (cells_from source (line_at page at))) (length-set page at _)
    (λ line within. ⊎_elim
    (λ (e : line ≡ at). rw e (get_or-set_same page at _ [] (omega arith)
    ∙ sym
    (line_from-edit (edited at source at) source page at (length (line_at page at)) refl
    (λ column. rw (eq-eqb at at refl) refl))))
    (λ ne. get_or-set_other page at line _ [] ne
    ∙ sym
    (line_from-whole (edited at source line) page line (length (line_at page line)) refl (is_page.paired line)
    (λ column. rw (ne_eqb line at ne) refl)))
    (cases_eq line at)))

left_settled : (page : List (List Cell)) (before here after : Origin)
    → is_left (settled_cell page before here after).shape ≡ is_left (cell_from page here).shape && are_own_halves here
    after
left_settled page before here after = left_kept (cell_from page here).shape (cell_from page here)
    (are_own_halves here after) (are_own_halves before here) refl

right_settled : (page : List (List Cell)) (before here after : Origin)
    → is_right (settled_cell page before here after).shape ≡ is_right (cell_from page here).shape && are_own_halves
    before here
right_settled page before here after = right_kept (cell_from page here).shape (cell_from page here)
    (are_own_halves here after) (are_own_halves before here) refl

halves_agree : (rows columns : ℕ) (page : List (List Cell)) → IsPage rows columns page → (a b : Origin)
    → is_left (cell_from page a).shape && are_own_halves a b ≡ is_right (cell_from page b).shape && are_own_halves a b
halves_agree rows columns page is_page (New l) (New r) = same_side (is_left l.shape) (is_right r.shape)
halves_agree rows columns page is_page (New l) (From m d) = and_false _ ∙ sym (and_false _)
halves_agree rows columns page is_page (From k c) (New r) = and_false _ ∙ sym (and_false _)
halves_agree rows columns page is_page (From k c) (From m d) = ⊎_elim
    (λ (same : k ≡ m). ⊎_elim
    (λ (e : suc c ≡ d). let next : is_left (cell_at (line_at page k) c).shape ≡ is_right
    (cell_at (line_at page k) (suc c)).shape = (is_page.paired k).next c in
    rw (← same, ← e, next) refl)
    (λ ne. rw (ne_eqb (suc c) d ne, and_false (eqb k m)) (and_false _ ∙ sym (and_false _)))
    (cases_eq (suc c) d))
    (λ ne. rw (ne_eqb k m ne) (and_false _ ∙ sym (and_false _)))
    (cases_eq k m)

new_last : (page : List (List Cell)) (a : Origin)
    → is_left (cell_from page a).shape && are_own_halves a (New blank) ≡ false
new_last page (New l) = ap (λ x. is_left l.shape && x) (and_false _) ∙ and_false _
new_last page (From m c) = and_false _

new_first : (page : List (List Cell)) (b : Origin)
    → is_right (cell_from page b).shape && are_own_halves (New blank) b ≡ false
new_first page (New r) = and_false _
new_first page (From m c) = and_false _

after_within : (origin : ℕ → Origin) (width column : ℕ) → suc column < width
    → origin_after origin width column ≡ origin (suc column)
after_within origin width column h = rw (ne_eqb (suc column) width (omega arith)) refl

after_end : (origin : ℕ → Origin) (width column : ℕ) → suc column ≡ width → origin_after origin width column ≡ New blank
after_end origin width column h = rw (eq-eqb (suc column) width h) refl

cell_at-line_from : (origin : ℕ → Origin) (width : ℕ) (page : List (List Cell)) (column : ℕ) → column < width
    → cell_at (line_from origin width page) column ≡ settled_cell page (origin_before origin column) (origin column)
    (origin_after origin width column)
cell_at-line_from origin width page column h = get_or-map-range_with_len _ 0 width column column blank h (omega arith)

pub length-line_from : (origin : ℕ → Origin) (width : ℕ) (page : List (List Cell))
    → length (line_from origin width page) ≡ width
length-line_from origin width page = length-map-range_with_len _ 0 width

pub IsPaired-line_from : (origin : ℕ → Origin) (width rows columns : ℕ) (page : List (List Cell))
    → IsPage rows columns page → IsPaired (line_from origin width page)
IsPaired-line_from origin width rows columns page is_page = record {
  first = ⊎_elim
      (λ h. ap (λ x. is_right x.shape) (cell_at-line_from origin width page 0 h)
      ∙ right_settled page (New blank) (origin 0) _ ∙ new_first page (origin 0))
      (λ h. ap (λ x. is_right x.shape)
      (cell_at_past (line_from origin width page) 0 (rw (length-line_from origin width page) h)))
      (cases_lt 0 width);
  next = λ column. ⊎_elim
      (λ inside. ap (λ x. is_left x.shape) (cell_at-line_from origin width page column (omega arith))
      ∙ left_settled page _ (origin column) _
      ∙ ap (λ x. is_left (cell_from page (origin column)).shape && are_own_halves (origin column) x)
      (after_within origin width column inside)
      ∙ halves_agree rows columns page is_page (origin column) (origin (suc column))
      ∙ sym (right_settled page (origin column) (origin (suc column)) _)
      ∙ sym (ap (λ x. is_right x.shape) (cell_at-line_from origin width page (suc column) inside)))
      (λ outside. ⊎_elim
      (λ last. ap (λ x. is_left x.shape) (cell_at-line_from origin width page column last)
      ∙ left_settled page _ (origin column) _
      ∙ ap (λ x. is_left (cell_from page (origin column)).shape && are_own_halves (origin column) x)
      (after_end origin width column (omega arith))
      ∙ new_last page (origin column)
      ∙ sym
      (ap (λ x. is_right x.shape)
      (cell_at_past (line_from origin width page) (suc column) (rw (length-line_from origin width page) outside))))
      (λ past. ap (λ x. is_left x.shape)
      (cell_at_past (line_from origin width page) column (rw (length-line_from origin width page) past))
      ∙ sym
      (ap (λ x. is_right x.shape)
      (cell_at_past (line_from origin width page) (suc column) (rw (length-line_from origin width page) outside))))
      (cases_lt column width))
      (cases_lt (suc column) width);
}

pub IsPaired-nil : IsPaired []
IsPaired-nil = record { first = refl; next = λ column. refl }

-- whatever the origins, the page is well formed
pub IsPage-page_from : (origin : ℕ → ℕ → Origin) (rows columns : ℕ) (page : List (List Cell)) → IsPage rows columns page
    → IsPage rows columns (page_from origin page)
IsPage-page_from origin rows columns page is_page = let n : length page ≡ rows = is_page.height in record {
  height = length-page_from origin page ∙ n;
  width = λ line h. ap length (line_at-page_from origin page line (omega arith))
      ∙ length-line_from (origin line) (length (line_at page line)) page ∙ is_page.width line h;
  paired = λ line. ⊎_elim
      (λ h. subst IsPaired (sym (line_at-page_from origin page line h))
      (IsPaired-line_from (origin line) (length (line_at page line)) rows columns page is_page))
      (λ h. subst IsPaired (sym (get_or_past (page_from origin page) line [] (rw (length-page_from origin page) h)))
      IsPaired-nil)
      (cases_lt line (length page));
}

-- a page of a size is well formed
pub IsPage-is : (rows columns : ℕ) (page : List (List Cell)) → IsPage rows columns page → 0 < rows → IsWellFormed page
IsPage-is rows columns page is_page some = let n : length page ≡ rows = is_page.height in record {
  height = refl;
  width = λ line h. is_page.width line (rw n at h) ∙ sym (is_page.width 0 some);
  paired = is_page.paired;
}

pub IsWellFormed-page_from : (origin : ℕ → ℕ → Origin) (page : List (List Cell)) → IsWellFormed page → 0 < length page
    → IsWellFormed (page_from origin page)
IsWellFormed-page_from origin page well some = IsPage-is (length page) (length (line_at page 0)) (page_from origin page)
    (IsPage-page_from origin (length page) (length (line_at page 0)) page well) some

-- the width of a page's lines stays
pub width-page_from : (origin : ℕ → ℕ → Origin) (page : List (List Cell)) (line : ℕ)
    → length (line_at (page_from origin page) line) ≡ length (line_at page line)
width-page_from origin page line = ⊎_elim
    (λ (h : line < length page). ap length (line_at-page_from origin page line h)
    ∙ length-line_from (origin line) (length (line_at page line)) page)
    (λ (h : length page ≤ line). ap length
    (get_or_past (page_from origin page) line [] (rw (length-page_from origin page) h))
    ∙ sym (ap length (get_or_past page line [] h)))
    (cases_lt line (length page))

pub IsGrid-page_from : (origin : ℕ → ℕ → Origin) (page : List (List Cell)) → IsGrid page
    → IsGrid (page_from origin page)
IsGrid-page_from origin page grid = let n = length-page_from origin page in let w = width-page_from origin page 0 in
    record {
      well_formed = IsWellFormed-page_from origin page grid.well_formed (omega (arith, grid.size.least_rows));
      size = record {
        least_rows = rw n grid.size.least_rows;
        most_rows = rw n grid.size.most_rows;
        least_columns = rw w grid.size.least_columns;
        most_columns = rw w grid.size.most_columns;
      };
    }

-- a line that a call edits in its place
pub edit_is : (page : List (List Cell)) (line : ℕ) (d : List Cell) (source : ℕ → ℕ → Source) (new : List Cell)
    → IsWellFormed page → line < length page
    → new ≡ cells_from (source (length (get_or page line d))) (get_or page line d)
    → set page line new ≡ page_from (edited line (source (length (line_at page line)))) page
edit_is page line d source new well inside h =
    ap (λ x. set page line x)
    (h ∙ ap (λ (L : List Cell). cells_from (source (length L)) L) (get_or_default page line d [] inside))
    ∙ sym
    (page_from-edited line (source (length (line_at page line))) (length page) (length (line_at page 0)) page well
    inside)
