-- What marks do to a screen on which a frame is drawn: each joins the character before it.
use Rattle.redraw.proofs.Vocabulary.{◌≡◌, ℕ, ◌+◌, ◌<◌, true, List, [], length, set, Option, Some, refl, sym, ap, ◌∙◌}
use Rattle.redraw.proofs.Vocabulary.{subst, arith, ⊎_elim, eq-eqb, cases_eq, ne_eqb, lt-ltb, le-ltb, get_or-set_same}
use Rattle.redraw.proofs.Vocabulary.{get_or-set_other, Cell, Rendition, blank, cell_at, unprotected, marked, line_at}
use Rattle.redraw.proofs.Vocabulary.{IsPage, page_marked, Print, spelling, Position, Page, Screen, IsSound, effect}
use Rattle.redraw.proofs.Vocabulary.{StandsAt, cell_of, has_room, mark_place, place_by, Differs, IsSound-effect}
use Rattle.redraw.proofs.Vocabulary.{IsGlyph, Pen, Glyph, func_of, seen, row_written, row_of}
use Rattle.terminal_model.specs.Printing.{marked_at}
use Rattle.redraw.proofs.Screens.{sized, LeadsTo}
use Rattle.redraw.proofs.Seen.{over_same}
use Rattle.redraw.proofs.Printing.{Inked, pen_behind, print_is, printed_leads}

module _ (rows columns : ℕ) (old new : Page) (pen_line pen_column : ℕ) (known : Option Rendition) (cell : Cell)
    (n m : ℕ) (x y : Screen) (k : Inked rows columns pen_line pen_column known cell n x y) (g : IsGlyph 0 m)
    (lh : pen_line < rows) (ch : pen_column < columns) (some : 0 < n) where
  abbrev next : Pen
  next = pen_behind columns pen_line pen_column known n

  abbrev there : Position
  there = record { line = pen_line; column = pen_column }

  inked_cell : seen y pen_line pen_column ≡ unprotected cell
  inked_cell = (k.writes).here pen_column ch
      ∙ rw (
        le-ltb pen_column pen_column (omega arith),
        lt-ltb pen_column (pen_column + n) (omega arith),
        eq-eqb pen_column
            pen_column refl,
      ) refl

  mark_is : effect y (Print m) ≡ record y { page = page_marked pen_line pen_column m y.page }
  mark_is = print_is rows columns old new next y (k.writes).drawing 0 m g ∙ ap (λ q. marked_at q m y) k.joining

  place_is : has_room cell.marks ≡ true → place_by 0 (record { before = y; func = Print m }) ≡ Some there
  place_is room =
      let marks : (cell_of y.page there).marks ≡ cell.marks = ap (λ (z : Cell). z.marks) inked_cell in
      ap (mark_place y.page) k.joining ∙ rw (marks, room) refl

  abbrev line : List Cell
  line = line_at y.page pen_line

  abbrev line' : List Cell
  line' = set line pen_column (marked (cell_at line pen_column) m)

  abbrev page' : Page
  page' = page_marked pen_line pen_column m y.page

  is_page : IsPage rows columns y.page
  is_page = sized rows columns next y (k.writes).drawing

  line_marked : line_at page' pen_line ≡ line'
  line_marked = get_or-set_same y.page pen_line line' [] (rw is_page.height lh)

  mark_here : (c : ℕ) → c < columns
      → unprotected (cell_at (line_at page' pen_line) c) ≡ row_written (seen x pen_line) pen_column n
      (row_of (marked cell m) pen_column) c
  mark_here c hc = ap (λ z. unprotected (cell_at z c)) line_marked ∙ ⊎_elim
      (λ (e : c ≡ pen_column).
      let wide : pen_column < length line = rw (is_page.width pen_line lh) ch in
      ap (λ j. unprotected (cell_at line' j)) e
      ∙ ap unprotected (get_or-set_same line pen_column (marked (cell_at line pen_column) m) blank wide)
      ∙ ap (λ (z : Cell). marked z m) inked_cell
      ∙ sym (ap (row_written (seen x pen_line) pen_column n (row_of (marked cell m) pen_column)) e
      ∙ rw (
        le-ltb pen_column pen_column (omega arith),
        lt-ltb pen_column (pen_column + n) (omega arith),
        eq-eqb
            pen_column pen_column refl,
      ) refl))
      (λ (ne : c ≡ pen_column → ⊥).
      ap unprotected (get_or-set_other line pen_column c (marked (cell_at line pen_column) m) blank ne)
      ∙ (k.writes).here c hc
      ∙ over_same (seen x pen_line) pen_column n (row_of cell pen_column) (row_of (marked cell m) pen_column) c
      (λ p q. rw (ne_eqb c pen_column ne) refl))
      (cases_eq c pen_column)

  mark_elsewhere : (l : ℕ) → (l ≡ pen_line → ⊥) → line_at page' l ≡ line_at y.page l
  mark_elsewhere l ne = get_or-set_other y.page pen_line l line' [] ne

  pub mark_leads : has_room cell.marks ≡ true → StandsAt 0 new there m → Differs old new pen_line pen_column
      → LeadsTo rows columns old new y (spelling (func_of (Glyph m)))
      (Inked rows columns pen_line pen_column known (marked cell m) n x)
  mark_leads room stands differs =
      let d = (k.writes).drawing in
      let z : Screen = record y { page = page' } in (
        z,
        printed_leads rows columns old new next y d 0 m pen_line pen_column z g mark_is (place_is room) stands differs,
        record {
          writes = record {
            drawing = record {
              sound = subst IsSound mark_is (IsSound-effect y (Print m) d.sound);
              rows_are = d.rows_are;
              columns_are = d.columns_are;
              state_is = d.state_is;
              tabs_are = d.tabs_are;
              none_saved = d.none_saved;
              line_is = d.line_is;
              column_is = d.column_is;
              rendition_is = d.rendition_is;
            };
            here = mark_here;
            elsewhere = λ l c ne. ap (λ q. unprotected (cell_at q c)) (mark_elsewhere l ne)
                ∙ (k.writes).elsewhere l c ne;
            modes = (k.writes).modes;
          };
          joining = k.joining;
        },
      )
