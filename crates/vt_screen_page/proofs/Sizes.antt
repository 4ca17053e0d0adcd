-- Pages that are new, filled, or in another size.
use Rattle.std.proofs.Common.{◌≡◌, ℕ, ◌+◌, ◌<◌, ◌≤◌, List, [], ◌∷◌, ◌++◌, length, get_or, map, take, drop}
use Rattle.std.proofs.Common.{replicate, refl, sym, ap, ◌∙◌, subst, arith, ⊎_elim}
use Rattle.std.specs.List.{range_with_len}
use Rattle.std.proofs.lemmas.List.FromFn.{length-range_with_len, get_or-range_with_len, map-range_with_len_more}
use Rattle.std.proofs.lemmas.List.{get_or-map, get_or_past, get_or-replicate, length-map, length-replicate, map-id}
use Rattle.std.proofs.lemmas.List.{take_at}
use Rattle.std.proofs.lemmas.Bool.{cases_lt}
use Rattle.cells.specs.declared.cell.Cell.{Cell}
use Rattle.cells.specs.declared.cell.Shape.TheVariants.{Narrow}
use Rattle.cells.specs.Line.{blank, IsPaired}
use Rattle.cells.specs.Page.{line_at, IsGrid, IsGridSize, From, line_from, page_from}
use Rattle.cells.specs.Moves.{filled}
use Rattle.cells.specs.Resizing.{line_resized, page_resized}
use Rattle.cells.proofs.Pages.{page_from-is, IsGrid-page_from, IsPaired-nil, map_same, map_replicate}
use Rattle.cells.proofs.Grids.{IsGrid-is, line_from-resized, line_from-filled, length-page_resized, IsGrid-page_resized}
use Rattle.cells.proofs.Splicing.{IsPaired-blanks}
use Rattle.vt_screen_page.specs.Store.{Placed, lines_in_order, ArePlaces, IsStore}
use Rattle.vt_screen_page.proofs.Stored.{seen, Makes, length-lines_in_order, line_at-lines_in_order, lines_in_order-is}
use Rattle.vt_screen_page.proofs.Stored.{IsStore-is}

pub range_more : (n : ℕ) → range_with_len 0 (n + 1) ≡ range_with_len 0 n ++ n ∷ []
range_more n = sym (map-id (range_with_len 0 (n + 1))) ∙ map-range_with_len_more (λ k. k) 0 n n (omega arith)
    ∙ ap (λ (ks : List ℕ). ks ++ n ∷ []) (map-id (range_with_len 0 n))

-- one more line of a resized page
pub page_resized_more : (rows columns : ℕ) (page : List (List Cell))
    → page_resized (rows + 1) columns page ≡ page_resized rows columns page ++ line_resized columns (line_at page rows)
    ∷ []
page_resized_more rows columns page = map-range_with_len_more (λ line. line_from (From line) columns page) 0 rows rows
    (omega arith)
    ∙ ap (λ (line : List Cell). page_resized rows columns page ++ line ∷ []) (line_from-resized page rows columns)

-- past the end of a page there is an empty line, which is blank in another width
pub resized_past : (stored : List (List Cell)) (places : List ℕ) (row width : ℕ) → length places ≤ row
    → replicate width blank ≡ line_resized width (line_at (lines_in_order stored places) row)
resized_past stored places row width h =
    sym (map_same _ (λ (_k : ℕ). blank) 0 width (λ column. refl) ∙ map_replicate blank 0 width)
    ∙ ap (line_resized width)
    (sym (get_or_past (lines_in_order stored places) row [] (rw (length-lines_in_order stored places) h)))

-- lines that are stored in their order
pub in_order : (rows : ℕ) (page : List (List Cell)) → length page ≡ rows → IsGrid page
    → Makes page (range_with_len 0 rows) page
in_order rows page n grid =
    let m : length (range_with_len 0 rows) ≡ rows = length-range_with_len 0 rows in
    let at : (k : ℕ) → k < length (range_with_len 0 rows) → get_or (range_with_len 0 rows) k 0 ≡ k = λ k h.
    let h' : k < rows = rw m at h in get_or-range_with_len 0 rows k 0 h' ∙ omega arith in
    let is : lines_in_order page (range_with_len 0 rows) ≡ page = lines_in_order-is page (range_with_len 0 rows) page
    (n ∙ sym m) (λ k h. ap (line_at page) (at k h)) in
    record {
      store = IsStore-is page (range_with_len 0 rows) page (record {
        inside = λ k h. rw (at k h, n, ← m) h;
        apart = λ k j h g same. sym (at k h) ∙ same ∙ at j g;
      }) is grid;
      lines = is;
    }

pub resized_in_order : {stored : List (List Cell)} {places : List ℕ} (rows columns : ℕ) → IsGridSize rows columns
    → IsStore stored places → Makes (page_resized rows columns (lines_in_order stored places)) (range_with_len 0 rows)
    (page_resized rows columns (lines_in_order stored places))
resized_in_order {stored = stored} {places = places} rows columns size store =
    let page : List (List Cell) = lines_in_order stored places in
    in_order rows (page_resized rows columns page) (length-page_resized rows columns page)
    (IsGrid-page_resized rows columns page store.grid.well_formed size)

pub IsGrid-blanks : (rows columns : ℕ) → IsGridSize rows columns → IsGrid (replicate rows (replicate columns blank))
IsGrid-blanks rows columns size = IsGrid-is rows columns (replicate rows (replicate columns blank))
    (record {
      height = length-replicate rows (replicate columns blank);
      width = λ line h. ap length (get_or-replicate rows line (replicate columns blank) [] h)
          ∙ length-replicate columns blank;
      paired = λ line. ⊎_elim
          (λ (h : line < rows). subst IsPaired (sym (get_or-replicate rows line (replicate columns blank) [] h))
          (IsPaired-blanks columns))
          (λ (h : rows ≤ line). subst IsPaired
          (sym
          (get_or_past (replicate rows (replicate columns blank)) line []
          (rw (length-replicate rows (replicate columns blank)) h))) IsPaired-nil)
          (cases_lt line rows);
    })
    size

abbrev fill_line : Cell → List Cell → List Cell
fill_line cell line = replicate (length line) cell

-- every line filled with one cell, after a call on all stored lines
pub filled_makes : {stored new now : List (List Cell)} {places : List ℕ} {len : ℕ} {v : Placed} (cell : Cell)
    → cell.shape ≡ Narrow → seen stored places ≡ v → IsStore stored places → length new ≡ len → now ≡ stored
    → new ≡ map (λ (line : List Cell). replicate (length line) cell) now
    → Makes (take len (new ++ drop (length new) stored)) places (page_from (filled cell) v.lines)
filled_makes {stored = stored} {new = new} {places = places} {len = len} {v = v} cell narrow view store n same is =
    let page : List (List Cell) = lines_in_order stored places in
    let made : new ≡ map (fill_line cell) stored = is ∙ ap (map (fill_line cell)) same in
    let m : length page ≡ length places = length-lines_in_order stored places in
    let lines : lines_in_order new places ≡ page_from (filled cell) page = page_from-is (filled cell) page
    (lines_in_order new places) (length-lines_in_order new places ∙ sym m) (λ k g.
    let h : k < length places = rw m at g in
    line_at-lines_in_order new places k h ∙ ap (λ x. line_at x (get_or places k 0)) made
    ∙ get_or-map (fill_line cell) stored (get_or places k 0) [] [] (store.places_apart.inside k h)
    ∙ ap (fill_line cell) (sym (line_at-lines_in_order stored places k h))
    ∙ sym (line_from-filled cell page k (length (line_at page k)) narrow)) in
    subst (λ (x : List (List Cell)). Makes x places (page_from (filled cell) v.lines))
    (sym (take_at new (drop (length new) stored) len n))
    (subst (λ (v : Placed). Makes new places (page_from (filled cell) v.lines)) view (record {
      store = IsStore-is new places (page_from (filled cell) page)
          (subst (λ m. ArePlaces m places) (sym (ap length made ∙ length-map stored (fill_line cell)))
          store.places_apart) lines (IsGrid-page_from (filled cell) page store.grid);
      lines = lines;
    }))

-- such lines are equal
pub filled_whole : (cell : Cell) (page : List (List Cell)) → cell.shape ≡ Narrow → IsGrid page
    → page_from (filled cell) page ≡ replicate (length page) (replicate (length (line_at page 0)) cell)
filled_whole cell page narrow grid =
    let line : List Cell = replicate (length (line_at page 0)) cell in
    sym (page_from-is (filled cell) page (replicate (length page) line) (length-replicate (length page) line) (λ k h.
    get_or-replicate (length page) k line [] h ∙ ap (λ w. replicate w cell) (sym (grid.well_formed.width k h))
    ∙ sym (line_from-filled cell page k (length (line_at page k)) narrow)))
