-- Writing to a stored line writes to its line of the page.
use Rattle.std.proofs.Common.{◌≡◌, ℕ, ◌<◌, List, [], length, get_or, set, replicate, refl, sym, ap, ◌∙◌, subst, ⊎_elim}
use Rattle.std.proofs.lemmas.List.{ext_get_or, get_or-map, length-map, length-set, get_or-set_same, get_or-set_other}
use Rattle.std.proofs.lemmas.List.{get_or_default, length-replicate}
use Rattle.std.proofs.lemmas.Bool.{cases_eq}
use Rattle.cells.specs.declared.cell.Cell.{Cell}
use Rattle.cells.specs.Line.{blank, cell_at, marked, IsPaired, Source, cells_from, spliced, cells_spliced}
use Rattle.cells.specs.Page.{line_at, IsGrid, page_from, page_spliced, page_marked, edited}
use Rattle.cells.proofs.Pages.{page_from-edited}
use Rattle.cells.proofs.Grids.{IsGrid-set}
use Rattle.cells.proofs.Putting.{IsPaired-set}
use Rattle.cells.proofs.Splicing.{IsPaired-blanks}
use Rattle.cells.proofs.Settling.{length-cells_from, IsPaired-cells_from}
use Rattle.vt_screen_page.specs.Store.{Placed, lines_in_order, ArePlaces, IsStore}

pub length-lines_in_order : (stored : List (List Cell)) (places : List ℕ)
    → length (lines_in_order stored places) ≡ length places
length-lines_in_order stored places = length-map places (line_at stored)

-- the stored line of a line of the page
pub line_at-lines_in_order : (stored : List (List Cell)) (places : List ℕ) (k : ℕ) → k < length places
    → line_at (lines_in_order stored places) k ≡ line_at stored (get_or places k 0)
line_at-lines_in_order stored places k h = get_or-map (line_at stored) places k 0 [] h

-- the lines in order, given line by line
pub lines_in_order-is : (stored : List (List Cell)) (places : List ℕ) (page : List (List Cell))
    → length page ≡ length places
    → ((k : ℕ) → k < length places → line_at stored (get_or places k 0) ≡ line_at page k)
    → lines_in_order stored places ≡ page
lines_in_order-is stored places page n each = ext_get_or [] (lines_in_order stored places) page
    (length-lines_in_order stored places ∙ sym n) (λ k h.
    let within : k < length places = rw (length-lines_in_order stored places) at h in line_at-lines_in_order stored
    places k within ∙ each k within)

pub lines_in_order-set : (stored : List (List Cell)) (places : List ℕ) (k : ℕ) (line : List Cell)
    → ArePlaces (length stored) places → k < length places
    → lines_in_order (set stored (get_or places k 0) line) places ≡ set (lines_in_order stored places) k line
lines_in_order-set stored places k line are within =
    lines_in_order-is (set stored (get_or places k 0) line) places (set (lines_in_order stored places) k line)
    (length-set (lines_in_order stored places) k line ∙ length-lines_in_order stored places) (λ j inside. ⊎_elim
    (λ (e : j ≡ k). ap (λ i. line_at (set stored (get_or places k 0) line) (get_or places i 0)) e
    ∙ get_or-set_same stored (get_or places k 0) line [] (are.inside k within)
    ∙ sym
    (ap (line_at (set (lines_in_order stored places) k line)) e
    ∙ get_or-set_same (lines_in_order stored places) k line [] (rw (length-lines_in_order stored places) within)))
    (λ (ne : j ≡ k → ⊥). get_or-set_other stored (get_or places k 0) (get_or places j 0) line []
    (λ e. ne (are.apart j k inside within e))
    ∙ sym
    (get_or-set_other (lines_in_order stored places) k j line [] ne
    ∙ line_at-lines_in_order stored places j inside))
    (cases_eq j k))

-- stored lines that make another page
pub IsStore-is : (stored : List (List Cell)) (places : List ℕ) (page : List (List Cell))
    → ArePlaces (length stored) places → lines_in_order stored places ≡ page → IsGrid page → IsStore stored places
IsStore-is stored places page are is grid = record { places_apart = are; grid = subst IsGrid (sym is) grid }

-- the view of a page
abbrev pub seen : List (List Cell) → List ℕ → Placed
seen stored places = record { lines = lines_in_order stored places; places = places }

-- stored lines that make a page
pub record Makes (stored : List (List Cell)) (places : List ℕ) (page : List (List Cell)) : Type 0 where
  pub store : IsStore stored places
  pub lines : lines_in_order stored places ≡ page

pub places_stay : {v w : Placed} → v ≡ w → v.places ≡ w.places
places_stay view = ap (λ (v : Placed). v.places) view

pub inside_places : (stored : List (List Cell)) (places : List ℕ) {v : Placed} {k : ℕ} → seen stored places ≡ v
    → k < length v.lines → k < length places
inside_places stored places {v = v} {k = k} view h = subst (λ n. k < n)
    (ap (λ (v : Placed). length v.lines) (sym view) ∙ length-lines_in_order stored places) h

-- a stored line is a line of the page
pub stored_line : {stored : List (List Cell)} {places : List ℕ} {v : Placed} {k place : ℕ} {old : List Cell}
    → seen stored places ≡ v → IsStore stored places → k < length v.lines → place ≡ get_or places k place
    → old ≡ get_or stored place old → old ≡ line_at v.lines k
stored_line {stored = stored} {places = places} {k = k} {place = place} {old = old} view store h e there =
    let within : k < length places = inside_places stored places view h in
    let p : place ≡ get_or places k 0 = e ∙ get_or_default places k place 0 within in
    there ∙ get_or_default stored place old [] (rw p (store.places_apart.inside k within))
    ∙ ap (line_at stored) p ∙ sym (line_at-lines_in_order stored places k within)
    ∙ ap (λ (v : Placed). line_at v.lines k) view

pub view_grid : {stored : List (List Cell)} {places : List ℕ} {v : Placed} → seen stored places ≡ v
    → IsStore stored places → IsGrid v.lines
view_grid view store = subst (λ (v : Placed). IsGrid v.lines) view store.grid

-- a new line in the place of line `k` makes another page
pub replaced : {stored : List (List Cell)} {places : List ℕ} {v : Placed} {k place : ℕ} {new : List Cell}
    (line : List Cell) → new ≡ line → length line ≡ length (line_at v.lines k) → IsPaired line
    → seen stored places ≡ v → IsStore stored places → k < length v.lines → place ≡ get_or places k place
    → Makes (set stored place new) places (set v.lines k line)
replaced {stored = stored} {places = places} {v = v} {k = k} {place = place} {new = new} line is size paired view store
    h e =
    let same : lines_in_order stored places ≡ v.lines = ap (λ (v : Placed). v.lines) view in
    let within : k < length places = inside_places stored places view h in
    let done : lines_in_order (set stored place new) places ≡ set v.lines k line =
    ap (λ q. lines_in_order (set stored q new) places) (e ∙ get_or_default places k place 0 within)
    ∙ lines_in_order-set stored places k new store.places_apart within
    ∙ ap (λ p. set p k new) same ∙ ap (set v.lines k) is in
    record {
      store = IsStore-is (set stored place new) places (set v.lines k line)
          (subst (λ n. ArePlaces n places) (sym (length-set stored place new)) store.places_apart) done
          (IsGrid-set v.lines k line (view_grid view store) h size paired);
      lines = done;
    }

-- a line that is made of the old one, which is line `k` of the page
abbrev pub Writes : List (List Cell) → List ℕ → Placed → ℕ → ℕ → List Cell → List Cell → List (List Cell) → Type 0
Writes stored places v k place old new page = seen stored places ≡ v → IsStore stored places → k < length v.lines
    → place ≡ get_or places k place → old ≡ get_or stored place old → Makes (set stored place new) places page

written : {stored : List (List Cell)} {places : List ℕ} {v : Placed} {k place : ℕ} {old new : List Cell}
    (f : List Cell → List Cell) → new ≡ f old → ((line : List Cell) → length (f line) ≡ length line)
    → ((line : List Cell) → IsPaired line → IsPaired (f line))
    → Writes stored places v k place old new (set v.lines k (f (line_at v.lines k)))
written {v = v} {k = k} f is size paired view store h e there = replaced (f (line_at v.lines k))
    (is ∙ ap f (stored_line view store h e there)) (size (line_at v.lines k))
    (paired (line_at v.lines k) ((view_grid view store).well_formed.paired k)) view store h e

pub cleared_line : {stored : List (List Cell)} {places : List ℕ} {v : Placed} {k place : ℕ} {old new : List Cell}
    → new ≡ replicate (length old) blank
    → Writes stored places v k place old new (set v.lines k (replicate (length (line_at v.lines k)) blank))
cleared_line is = written (λ line. replicate (length line) blank) is (λ line. length-replicate (length line) blank)
    (λ line p. IsPaired-blanks (length line))

-- a line whose cells have sources
pub edited_line : {stored : List (List Cell)} {places : List ℕ} {v : Placed} {k place : ℕ} {old new : List Cell}
    (source : List Cell → ℕ → Source) → new ≡ cells_from (source old) old
    → Writes stored places v k place old new (page_from (edited k (source (line_at v.lines k))) v.lines)
edited_line {stored = stored} {places = places} {v = v} {k = k} {place = place} {new = new} source is view store h e
    there = subst (Makes (set stored place new) places)
    (sym
    (page_from-edited k (source (line_at v.lines k)) (length v.lines) (length (line_at v.lines 0)) v.lines
    (view_grid view store).well_formed h))
    (written (λ line. cells_from (source line) line) is (λ line. length-cells_from (source line) line)
    (λ line. IsPaired-cells_from (source line) line) view store h e there)

pub spliced_line : {stored : List (List Cell)} {places : List ℕ} {v : Placed} {k place : ℕ} {old new : List Cell}
    (at rest : ℕ) (fresh : List Cell) → new ≡ cells_spliced at fresh rest old
    → Writes stored places v k place old new (page_spliced k at fresh rest v.lines)
spliced_line at rest fresh is = edited_line (λ line. spliced at fresh rest (length line)) is

pub marked_line : {stored : List (List Cell)} {places : List ℕ} {v : Placed} {k place : ℕ} {old new : List Cell}
    (column mark : ℕ) → new ≡ set old column (marked (cell_at old column) mark)
    → Writes stored places v k place old new (page_marked k column mark v.lines)
marked_line column mark is = written (λ line. set line column (marked (cell_at line column) mark)) is
    (λ line. length-set line column (marked (cell_at line column) mark))
    (λ line. IsPaired-set line column (marked (cell_at line column) mark) refl)
