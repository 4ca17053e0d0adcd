-- Scrolls: some lines become blank, and lines are rotated.
use Rattle.std.proofs.Common.{◌≡◌, ℕ, ◌+◌, ◌-◌, ◌<◌, ◌≤◌, true, false, leb, List, [], ◌++◌, length, get_or, set}
use Rattle.std.proofs.Common.{replicate, take, drop, refl, sym, ap, ◌∙◌, ◌⊎◌, inl, inr, subst, arith, ⊎_elim}
use Rattle.std.proofs.lemmas.Bool.{cases_lt, cases_eq}
use Rattle.std.proofs.lemmas.List.{ext_get_or, length-set, get_or-set_same, get_or-set_other, length-replicate, take_at}
use Rattle.std.proofs.lemmas.List.FromFn.{length-map-range_with_len, get_or-map-range_with_len}
use Rattle.std.proofs.lemmas.Bool.Decides.{nat_tests}
use Rattle.cells.specs.declared.cell.Cell.{Cell}
use Rattle.cells.specs.Line.{blank, IsPaired, spliced, cells_spliced}
use Rattle.cells.specs.Page.{line_at, IsGrid, Origin, New, From, line_from, page_from, page_spliced}
use Rattle.cells.specs.Moves.{scrolled_up, scrolled_down, erased_lines}
use Rattle.cells.proofs.Pages.{page_from-is, page_from-edited, line_from-whole, line_from-blank, IsGrid-page_from}
use Rattle.cells.proofs.Pages.{length-page_from, line_at-page_from, width-page_from}
use Rattle.cells.proofs.Grids.{IsGrid-set}
use Rattle.cells.proofs.Settling.{length-cells_from, IsPaired-cells_from}
use Rattle.cells.proofs.Splicing.{IsPaired-blanks}
use Rattle.vt_screen_page.specs.Store.{Placed, lines_in_order, ArePlaces, IsStore, IsTurned, turned_from, turned}
use Rattle.vt_screen_page.specs.Store.{turned_lines}
use Rattle.vt_screen_page.proofs.Stored.{seen, Makes, length-lines_in_order, line_at-lines_in_order, IsStore-is}
use Rattle.vt_screen_page.proofs.Stored.{inside_places, replaced, cleared_line}

pub le-leb' : (a b : ℕ) → a ≤ b → leb a b ≡ true
le-leb' a b h = grind (arith, nat_tests)

pub lt-leb' : (a b : ℕ) → b < a → leb a b ≡ false
lt-leb' a b h = grind (arith, nat_tests)

-- no line is blanked yet
pub erased_none : (first : ℕ) (page : List (List Cell)) → IsGrid page → page ≡ page_from (erased_lines first first) page
erased_none first page grid = page_from-is (erased_lines first first) page page refl (λ k h. sym
    (line_from-whole (erased_lines first first k) page k (length (line_at page k)) refl
    (grid.well_formed.paired k) (λ column. stays k column)))
  where
    stays : (k column : ℕ) → erased_lines first first k column ≡ From k column
    stays k column = grind (arith, nat_tests)

abbrev pub blanked : ℕ → List (List Cell) → List (List Cell)
blanked k page = set page k (replicate (length (line_at page k)) blank)

-- one more line is blanked
pub erased_next : (first k : ℕ) (page : List (List Cell)) → first ≤ k → k < length page
    → blanked k (page_from (erased_lines first k) page) ≡ page_from (erased_lines first (k + 1)) page
erased_next first k page order inside =
    let now : List (List Cell) = page_from (erased_lines first k) page in
    let n : length now ≡ length page = length-page_from (erased_lines first k) page in
    page_from-is (erased_lines first (k + 1)) page (blanked k now) (length-set now k _ ∙ n) (λ j h. ⊎_elim
    (λ (e : j ≡ k). rw e (get_or-set_same now k _ [] (rw n inside)
    ∙ ap (λ w. replicate w blank) (width-page_from (erased_lines first k) page k)
    ∙ sym (line_from-blank _ page (length (line_at page k)) (λ column. new column))))
    (λ (ne : j ≡ k → ⊥). get_or-set_other now k j _ [] ne ∙ line_at-page_from (erased_lines first k) page j h
    ∙ ap (λ (origin : ℕ → Origin). line_from origin (length (line_at page j)) page)
    (λ i column. stays j column ne i))
    (cases_eq j k))
  where
    new : (column : ℕ) → erased_lines first (k + 1) k column ≡ New blank
    new column = grind (arith, nat_tests)

    stays : (j column : ℕ) → (j ≡ k → ⊥)
        → erased_lines first k j column ≡ erased_lines first (k + 1) j column
    stays j column ne = grind (arith, nat_tests)

pub erased_first : (page : List (List Cell)) → IsGrid page → 0 < length page
    → blanked 0 page ≡ page_from (erased_lines 0 (0 + 1)) page
erased_first page grid some = ap (blanked 0) (erased_none 0 page grid) ∙ erased_next 0 0 page (omega arith) some

-- so it is for the stored lines, when one of them is cleared
pub erased_more : {stored : List (List Cell)} {places : List ℕ} {place : ℕ} {old new : List Cell} (first k : ℕ)
    (page : List (List Cell)) → IsStore stored places
    → lines_in_order stored places ≡ page_from (erased_lines first k) page → first ≤ k → k < length page
    → place ≡ get_or places k place → old ≡ get_or stored place old → new ≡ replicate (length old) blank
    → Makes (set stored place new) places (page_from (erased_lines first (k + 1)) page)
erased_more {stored = stored} {places = places} {place = place} {new = new} first k page store lines order inside e
    there is = subst (Makes (set stored place new) places) (erased_next first k page order inside)
    (cleared_line is (ap (λ (l : List (List Cell)). record { lines = l; places = places }) lines) store
    (rw (length-page_from (erased_lines first k) page) inside) e there)

-- where a place comes from
abbrev ComesFrom : ℕ → ℕ → ℕ → ℕ → ℕ → Type 0
ComesFrom top bottom count k from =
    ((k < top) × (from ≡ k)) ⊎
    (((top ≤ k) × (k + count ≤ bottom) × (from ≡ k + count)) ⊎
    (((top ≤ k) × (k ≤ bottom) × (bottom < k + count) × (from ≡ k + count - (bottom + 1 - top))) ⊎
    ((bottom < k) × (from ≡ k))))

turned_from-is : (top bottom count k : ℕ) → ComesFrom top bottom count k (turned_from top bottom count k)
turned_from-is top bottom count k = ⊎_elim
    (λ (above : k < top). inl (above, rw (lt-leb' top k above) refl))
    (λ (past : top ≤ k). ⊎_elim
    (λ (below : bottom < k). inr (inr (inr (below, rw (le-leb' top k past, lt-leb' k bottom below) refl))))
    (λ (here : k ≤ bottom). ⊎_elim
    (λ (last : bottom < k + count). inr (inr (inl (
      past,
      here,
      last,
      rw
          (le-leb' top k past, le-leb' k bottom here, lt-leb' (k + count) bottom last) refl,
    ))))
    (λ (risen : k + count ≤ bottom). inr (inl (
      past,
      risen,
      rw
          (le-leb' top k past, le-leb' k bottom here, le-leb' (k + count) bottom risen) refl,
    )))
    (cases_lt bottom (k + count)))
    (cases_lt bottom k))
    (cases_lt k top)

module _ (top bottom count : ℕ) (order : top ≤ bottom) (room : count ≤ bottom + 1 - top) where
  abbrev from : ℕ → ℕ
  from k = turned_from top bottom count k

  within : (k n : ℕ) → bottom < n → k < n → from k < n
  within k n inside h = let is = turned_from-is top bottom count k in omega arith

  same_from : (k j : ℕ) → from k ≡ from j → k ≡ j
  same_from k j e =
      let a = turned_from-is top bottom count k in let b = turned_from-is top bottom count j in omega arith

  turned_at : (places : List ℕ) (k : ℕ) → k < length places
      → get_or (turned top bottom count places) k 0 ≡ get_or places (from k) 0
  turned_at places k h = get_or-map-range_with_len (λ line. get_or places (from line) 0) 0 (length places) k k 0 h
      (omega arith)

  -- places that were rotated, as a list
  pub turned_is : (old new : List ℕ) → bottom < length old → IsTurned top bottom count old new
      → new ≡ turned top bottom count old
  turned_is old new inside is =
      let n : length (turned top bottom count old) ≡ length old = length-map-range_with_len
      (λ line. get_or old (from line) 0) 0 (length old) in
      ext_get_or 0 new (turned top bottom count old) (is.size ∙ sym n) (λ k h. let h' : k < length old = rw is.size at h
      in there k (turned_from-is top bottom count k) ∙ sym (turned_at old k h'))
    where
      there : (k : ℕ) → ComesFrom top bottom count k (from k) → get_or new k 0 ≡ get_or old (from k) 0
      there k (inl (above, e)) = is.above k above ∙ ap (λ i. get_or old i 0) (sym e)
      there k (inr (inl (past, risen, e))) = is.risen k past risen ∙ ap (λ i. get_or old i 0) (sym e)
      there k (inr (inr (inl (past, here, last, e)))) = is.last k past here last ∙ ap (λ i. get_or old i 0) (sym e)
      there k (inr (inr (inr (below, e)))) = is.below k below ∙ ap (λ i. get_or old i 0) (sym e)

  -- a line of the rotated lines is a line of the page
  line_at-turned : (page : List (List Cell)) (k : ℕ) → IsGrid page → bottom < length page → k < length page
      → line_at (page_from (turned_lines top bottom count) page) k ≡ line_at page (from k)
  line_at-turned page k grid inside h = line_at-page_from (turned_lines top bottom count) page k h
      ∙ line_from-whole (From (from k)) page (from k) (length (line_at page k))
      (grid.well_formed.width k h ∙ sym (grid.well_formed.width (from k) (within k (length page) inside h)))
      (grid.well_formed.paired (from k)) (λ column. refl)

  -- to rotate the places is to rotate the lines
  moved_makes : (stored : List (List Cell)) (places : List ℕ) → IsStore stored places → bottom < length places
      → Makes stored (turned top bottom count places)
      (page_from (turned_lines top bottom count) (lines_in_order stored places))
  moved_makes stored places store inside =
      let page : List (List Cell) = lines_in_order stored places in
      let moved : List ℕ = turned top bottom count places in
      let n : length page ≡ length places = length-lines_in_order stored places in
      let m : length moved ≡ length places = length-map-range_with_len (λ line. get_or places (from line) 0) 0
      (length places) in
      let is : lines_in_order stored moved ≡ page_from (turned_lines top bottom count) page = ext_get_or []
      (lines_in_order stored moved) (page_from (turned_lines top bottom count) page)
      (length-lines_in_order stored moved ∙ m ∙ sym n ∙ sym (length-page_from (turned_lines top bottom count) page))
      (λ k g. let h : k < length places = rw (length-lines_in_order stored moved ∙ m) at g in
      line_at-lines_in_order stored moved k (rw m h) ∙ ap (line_at stored) (turned_at places k h)
      ∙ sym (line_at-lines_in_order stored places (from k) (within k (length places) inside h))
      ∙ sym (line_at-turned page k store.grid (rw n inside) (rw n h))) in
      let are : ArePlaces (length stored) moved = record {
        inside = λ k g. let h : k < length places = rw m at g in rw (turned_at places k h)
            (store.places_apart.inside (from k) (within k (length places) inside h));
        apart = λ k j g f e. let h : k < length places = rw m at g in let i : j < length places = rw m at f in
            same_from k j
            (store.places_apart.apart (from k) (from j) (within k (length places) inside h)
            (within j (length places) inside i) (sym (turned_at places k h) ∙ e ∙ turned_at places j i));
      } in
      record {
        store = IsStore-is stored moved (page_from (turned_lines top bottom count) page) are is
            (IsGrid-page_from (turned_lines top bottom count) page store.grid);
        lines = is;
      }

  -- the places after a call that rotates them
  module _ {stored : List (List Cell)} {places new now : List ℕ} {len : ℕ} {v : Placed} (view : seen stored places ≡ v)
      (store : IsStore stored places) (inside : bottom < length v.lines) (n : length new ≡ len) (same : now ≡ places)
      (is : IsTurned top bottom count now new) where
    within_places : bottom < length places
    within_places = inside_places stored places view inside

    kept : take len (new ++ drop (length new) places) ≡ turned top bottom count places
    kept = take_at new (drop (length new) places) len n ∙ turned_is now new (rw same within_places) is
        ∙ ap (turned top bottom count) same

    pub turned_places : take len (new ++ drop (length new) places) ≡ turned top bottom count v.places
    turned_places = kept ∙ ap (λ (v : Placed). turned top bottom count v.places) view

    pub turned_makes : Makes stored (take len (new ++ drop (length new) places))
        (page_from (turned_lines top bottom count) v.lines)
    turned_makes = subst (λ (p : List ℕ). Makes stored p (page_from (turned_lines top bottom count) v.lines)) (sym kept)
        (subst
        (λ (v : Placed). Makes stored (turned top bottom count places)
        (page_from (turned_lines top bottom count) v.lines)) view (moved_makes stored places store within_places))

  -- lines that move as wholes after others were blanked
  turned_after : (f h : ℕ → ℕ → Origin) (page : List (List Cell)) → IsGrid page → bottom < length page
      → ((k column : ℕ) → f (from k) column ≡ h k column)
      → page_from (turned_lines top bottom count) (page_from f page) ≡ page_from h page
  turned_after f h page grid inside same =
      let now : List (List Cell) = page_from f page in
      let n : length now ≡ length page = length-page_from f page in
      page_from-is h page (page_from (turned_lines top bottom count) now)
      (length-page_from (turned_lines top bottom count) now ∙ n) (λ k g.
      let there : from k < length page = within k (length page) inside g in
      line_at-turned now k (IsGrid-page_from f page grid) (rw n inside) (rw n g)
      ∙ line_at-page_from f page (from k) there
      ∙ ap (λ w. line_from (f (from k)) w page)
      (grid.well_formed.width (from k) there ∙ sym (grid.well_formed.width k g))
      ∙ ap (λ (origin : ℕ → Origin). line_from origin (length (line_at page k)) page) (λ i column. same k column i))

  pub scrolled_up_is : (page : List (List Cell)) → IsGrid page → bottom < length page
      → page_from (turned_lines top bottom count) (page_from (erased_lines top (top + count)) page) ≡ page_from
      (scrolled_up top bottom count) page
  scrolled_up_is page grid inside = turned_after (erased_lines top (top + count)) (scrolled_up top bottom count) page
      grid inside (λ k column. up k column)
    where
      up : (k column : ℕ) → erased_lines top (top + count) (from k) column ≡ scrolled_up top bottom count k column
      up k column = grind (arith, nat_tests)

-- down by a count: the other lines go up
pub scrolled_down_is : (top bottom count : ℕ) → top ≤ bottom → count ≤ bottom + 1 - top → (page : List (List Cell))
    → IsGrid page → bottom < length page
    → page_from (turned_lines top bottom (bottom + 1 - top - count))
    (page_from (erased_lines (top + (bottom + 1 - top - count)) (bottom + 1)) page) ≡ page_from
    (scrolled_down top bottom count) page
scrolled_down_is top bottom count order room page grid inside = turned_after top bottom (bottom + 1 - top - count) order
    (omega arith) (erased_lines (top + (bottom + 1 - top - count)) (bottom + 1)) (scrolled_down top bottom count) page
    grid inside (λ k column. down k column)
  where
    down : (k column : ℕ)
        → erased_lines (top + (bottom + 1 - top - count)) (bottom + 1)
        (turned_from top bottom (bottom + 1 - top - count) k) column ≡ scrolled_down top bottom count k column
    down k column = grind (arith, nat_tests)

-- the first line is blanked, and comes in at the bottom
pub scrolled_in_is : (bottom : ℕ) (page : List (List Cell)) → IsGrid page → bottom < length page
    → page_from (turned_lines 0 bottom 1) (blanked 0 page) ≡ page_from (scrolled_up 0 bottom 1) page
scrolled_in_is bottom page grid inside = ap (page_from (turned_lines 0 bottom 1))
    (erased_first page grid (omega arith))
    ∙ scrolled_up_is 0 bottom 1 (omega arith) (omega arith) page grid inside

-- a blank line that begins with other cells
abbrev pub begun : List Cell → ℕ → ℕ → List Cell
begun fresh rest width = cells_spliced 0 fresh rest (replicate width blank)

module _ (page : List (List Cell)) (fresh : List Cell) (rest : ℕ) where
  abbrev line : List Cell
  line = begun fresh rest (length (line_at page 0))

  abbrev empty : List Cell
  empty = replicate (length (line_at page 0)) blank

  size : length line ≡ length (line_at page 0)
  size = length-cells_from (spliced 0 fresh rest (length empty)) empty
      ∙ length-replicate (length (line_at page 0)) blank

  paired : IsPaired line
  paired = IsPaired-cells_from (spliced 0 fresh rest (length empty)) empty (IsPaired-blanks (length (line_at page 0)))

  -- it comes in at the bottom
  pub begun_in_is : (bottom : ℕ) → IsGrid page → bottom < length page
      → page_from (turned_lines 0 bottom 1) (set page 0 line) ≡ page_spliced bottom 0 fresh rest
      (page_from (scrolled_up 0 bottom 1) page)
  begun_in_is bottom grid inside =
      let T : ℕ → ℕ → Origin = turned_lines 0 bottom 1 in
      let up : List (List Cell) = page_from (scrolled_up 0 bottom 1) page in
      let some : 0 < length page = omega arith in
      let n : length up ≡ length page = length-page_from (scrolled_up 0 bottom 1) page in
      let turned_at : (x : List Cell) (k : ℕ) → IsGrid (set page 0 x) → k < length page
      → line_at (page_from T (set page 0 x)) k ≡ line_at (set page 0 x) (turned_from 0 bottom 1 k) = λ x k g h.
      line_at-turned 0 bottom 1 (omega arith) (omega arith) (set page 0 x) k g (rw (length-set page 0 x) inside)
      (rw (length-set page 0 x) h) in
      let up_at : (k : ℕ) → k < length page → line_at up k ≡ line_at (blanked 0 page) (turned_from 0 bottom 1 k) =
      λ k h. ap (λ (p : List (List Cell)). line_at p k) (sym (scrolled_in_is bottom page grid inside))
      ∙ turned_at empty k
      (IsGrid-set page 0 empty grid some (length-replicate (length (line_at page 0)) blank) (IsPaired-blanks _)) h in
      let first : turned_from 0 bottom 1 bottom ≡ 0 = let e = turned_from-is 0 bottom 1 bottom in omega arith in
      let last : line_at up bottom ≡ empty = up_at bottom inside ∙ ap (line_at (blanked 0 page)) first
      ∙ get_or-set_same page 0 empty [] some in
      ext_get_or [] (page_from T (set page 0 line)) (set up bottom line)
      (length-page_from T (set page 0 line) ∙ length-set page 0 line ∙ sym (length-set up bottom line ∙ n)) (λ k g.
      let h : k < length page = rw (length-page_from T (set page 0 line) ∙ length-set page 0 line) at g in
      turned_at line k (IsGrid-set page 0 line grid some size paired) h ∙ ⊎_elim
      (λ (e : k ≡ bottom). ap (λ j. line_at (set page 0 line) (turned_from 0 bottom 1 j)) e
      ∙ ap (line_at (set page 0 line)) first ∙ get_or-set_same page 0 line [] some
      ∙ sym (ap (line_at (set up bottom line)) e ∙ get_or-set_same up bottom line [] (rw n inside)))
      (λ (ne : k ≡ bottom → ⊥).
      let other : turned_from 0 bottom 1 k ≡ 0 → ⊥ = λ z. ne
      (same_from 0 bottom 1 (omega arith) (omega arith) k bottom (z ∙ sym first)) in
      get_or-set_other page 0 (turned_from 0 bottom 1 k) line [] other
      ∙ sym (get_or-set_other up bottom k line [] ne ∙ up_at k h
      ∙ get_or-set_other page 0 (turned_from 0 bottom 1 k) empty [] other))
      (cases_eq k bottom))
      ∙ ap (λ (before : List Cell). set up bottom (cells_spliced 0 fresh rest before)) (sym last)
      ∙ sym
      (page_from-edited bottom (spliced 0 fresh rest (length (line_at up bottom))) (length up)
      (length (line_at up 0)) up (IsGrid-page_from (scrolled_up 0 bottom 1) page grid).well_formed (rw n inside))

pub begun_line : {stored : List (List Cell)} {places : List ℕ} {v : Placed} {place : ℕ} {new : List Cell}
    (fresh : List Cell) (rest width : ℕ) → width ≡ length (line_at v.lines 0) → new ≡ begun fresh rest width
    → seen stored places ≡ v → IsStore stored places → 0 < length v.lines → place ≡ get_or places 0 place
    → Makes (set stored place new) places (set v.lines 0 (begun fresh rest (length (line_at v.lines 0))))
begun_line {v = v} fresh rest width w is = replaced (begun fresh rest (length (line_at v.lines 0)))
    (is ∙ ap (begun fresh rest) w) (size v.lines fresh rest) (paired v.lines fresh rest)
