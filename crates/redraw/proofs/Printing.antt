-- What characters do to a screen on which a frame is drawn.
use Rattle.redraw.proofs.Vocabulary.{◌≡◌, ℕ, ◌+◌, ◌-◌, ◌<◌, ◌≤◌, Bool, true, false, cond, eqb, ltb, List, [], ◌∷◌}
use Rattle.redraw.proofs.Vocabulary.{length, Option, Some, refl, sym, ap, ◌∙◌, subst, arith, ⊎_elim, eq-eqb, cases_lt}
use Rattle.redraw.proofs.Vocabulary.{cases_eq, cases_Bool, ne_eqb, lt-ltb, le-ltb, Cell, Rendition, cell_at}
use Rattle.redraw.proofs.Vocabulary.{unprotected, fresh_at, spliced, narrow_cell, left_cell, right_cell, line_at}
use Rattle.redraw.proofs.Vocabulary.{page_from, edited, Print, spelling, State, Page, Screen, IsSound, with_state}
use Rattle.redraw.proofs.Vocabulary.{effect, acted_from, drawn_state, StandsAt, place_by, Differs, IsSound-effect}
use Rattle.redraw.proofs.Vocabulary.{IsGlyph, Pen, Glyph, func_of, Row, seen, row_of, Drawing, Knows, Leads, Writes}
use Rattle.std.specs.Bool.{then_some}
use Rattle.charsets.specs.declared.decoder.Unit.{Unit}
use Rattle.charsets.specs.declared.decoder.Unit.TheVariants.{Code}
use Rattle.charsets.specs.declared.shifts.Shifts.{Shifts}
use Rattle.charsets.specs.Shifts.{mapped, spent, is_position, is_graphic, starting as starting_shifts}
use Rattle.charsets.specs.Sets.{character_at}
use Rattle.terminal_model.specs.Printing.{printed, printed_as, placed, advanced, following, drawn}
use Rattle.redraw.proofs.Writing.{written, written_elsewhere}
use Rattle.redraw.proofs.Effects.{one_leads}
use Rattle.redraw.proofs.Screens.{utf8, no_insert, none_pending, sized, LeadsTo, at_place}
use Rattle.redraw.proofs.Seen.{over_same, page_written}

-- THE SETS: a graphic character stands for itself

graphic_mapped : (s : Shifts) (c : ℕ) → s ≡ starting_shifts → is_graphic (Code c) ≡ true → mapped s (Code c) ≡ Some c
unfolding mapped character_at
graphic_mapped s c e g = ⊎_elim
    (λ (h : is_position c ≡ true). rw (e, h) refl)
    (λ (h : is_position c ≡ false). rw (e, h, g) refl)
    (cases_Bool (is_position c))

spent_nothing : (s : Shifts) (u : Unit) → s ≡ starting_shifts → spent s u ≡ s
spent_nothing s u e = ⊎_elim
    (λ (h : is_graphic u ≡ true). rw (e, h) refl)
    (λ (h : is_graphic u ≡ false). rw h refl)
    (cases_Bool (is_graphic u))

-- CHARACTERS

both_false : (b : Bool) → cond b false false ≡ false
both_false true = refl
both_false false = refl

advanced_drawn : (s : State) (w : ℕ) → s ≡ drawn_state s → advanced s w ≡ drawn_state (advanced s w)
advanced_drawn s w e =
    ap (λ z. advanced z w) e
    ∙ ap (λ (b : Bool). record (drawn_state (advanced s w)) { is_wrap_pending = b })
    (both_false (ltb (s.column + w) s.columns))

-- the column after a character, if the page has one
abbrev pub column_behind : ℕ → ℕ → Option ℕ
column_behind columns next = then_some (ltb next columns) next

knows_behind : (columns next at : ℕ) → (next < columns → at ≡ next) → Knows (column_behind columns next) at
knows_behind columns next at is = ⊎_elim
    (λ (h : next < columns). rw (lt-ltb next columns h) (is h))
    (λ (h : columns ≤ next). rw (le-ltb next columns h) tt)
    (cases_lt next columns)

-- a pen after it wrote n columns from a place on
abbrev pub pen_behind : ℕ → ℕ → ℕ → Option Rendition → ℕ → Pen
pen_behind columns line column known n = record
    { line = Some line; column = column_behind columns (column + n); rendition = known }

-- a cell was written at the pen's place, and the next mark joins it
pub record Inked (rows columns pen_line pen_column : ℕ) (known : Option Rendition) (cell : Cell) (n : ℕ) (x y : Screen)
    : Type 0 where
  pub writes : Writes rows columns (pen_behind columns pen_line pen_column known n) pen_line pen_column n
      (row_of cell pen_column) x y
  pub joining : y.state.joining ≡ Some (record { line = pen_line; column = pen_column })

module _ (rows columns : ℕ) (old new : Page) (pen : Pen) (x : Screen) (d : Drawing rows columns pen x) where
  shifts_start : x.state.shifts ≡ starting_shifts
  shifts_start = ap (λ (s : State). s.shifts) d.state_is

  print_maps : (w c : ℕ) → IsGlyph w c → mapped x.state.shifts (Code c) ≡ Some c
  print_maps w c g = graphic_mapped x.state.shifts c shifts_start g.given.0

  pub print_is : (w c : ℕ) → IsGlyph w c → effect x (Print c) ≡ printed_as w c x
  unfolding acted_from
  print_is w c g =
      ap (λ u. printed u (with_state x (record x.state { shifts = spent x.state.shifts (Code c) }))) (print_maps w c g)
      ∙ ap (λ (z : Shifts). printed (Some c) (with_state x (record x.state { shifts = z })))
      (spent_nothing x.state.shifts (Code c) shifts_start)
      ∙ ap (λ n. printed_as n (drawn c) x) g.columns_are
      ∙ ap (λ n. printed_as w n x) g.stays

  -- printing a character that has room, at a place at which the old page differs, leads to its
  -- effect
  pub printed_leads : (w c line column : ℕ) (y : Screen) → IsGlyph w c → effect x (Print c) ≡ y
      → place_by w (record { before = x; func = Print c }) ≡ Some (record { line = line; column = column })
      → StandsAt w new (record { line = line; column = column }) c → Differs old new line column
      → Leads old new x (spelling (func_of (Glyph c))) y
  printed_leads w c line column y g is place stands differs =
      let there = ap (λ n. place_by n (record { before = x; func = Print c })) g.columns_are ∙ place in
      subst (Leads old new x (spelling (func_of (Glyph c)))) is
      (one_leads old new x (Glyph c) (utf8 rows columns pen x d) g.given
      (record {
        character = c;
        place = record { line = line; column = column };
        prints = (print_maps w c g, there);
        stands =
            subst (λ n. StandsAt n new (record { line = line; column = column }) c) (sym g.columns_are) stands;
      })
      (record {
        character = c;
        place = record { line = line; column = column };
        prints = (print_maps w c g, there);
        further = 0;
        taken = omega arith;
        differs = let e : column + 0 ≡ column = omega arith in subst (Differs old new line) (sym e) differs;
      }))

module _ (rows columns : ℕ) (old new : Page) (pen_line pen_column : ℕ) (known : Option Rendition) (x : Screen)
    (d : Drawing rows columns (at_place pen_line pen_column known) x) (lh : pen_line < rows) (ch : pen_column < columns)
  where
    abbrev placed_pen : Pen
    placed_pen = at_place pen_line pen_column known

    placed_page : (fresh : List Cell) → (placed fresh x).page ≡ written pen_line pen_column columns fresh x.page
    placed_page fresh =
        let s : State = x.state in
        let goes : following s (length fresh) ≡ s.column + length fresh = rw (no_insert rows columns placed_pen x d)
        refl
        in
        ap (λ j. page_from (edited s.line (spliced s.column fresh j s.columns)) x.page) goes
        ∙ ap (λ j. page_from (edited j (spliced s.column fresh (s.column + length fresh) s.columns)) x.page) d.line_is
        ∙ ap (λ j. page_from (edited pen_line (spliced j fresh (j + length fresh) s.columns)) x.page) d.column_is
        ∙ ap (λ j. page_from (edited pen_line (spliced pen_column fresh (pen_column + length fresh) j)) x.page)
        d.columns_are

    placed_joins : (fresh : List Cell)
        → (placed fresh x).state.joining ≡ Some (record { line = pen_line; column = pen_column })
    placed_joins fresh = rw (d.line_is, d.column_is) refl

    placed_writes : (fresh : List Cell) (f : Row) → IsSound (placed fresh x) → 0 < length fresh
        → pen_column + length fresh ≤ columns
        → ((c : ℕ) → pen_column ≤ c → c < pen_column + length fresh
        → unprotected (fresh_at fresh (c - pen_column)) ≡ f c)
        → Writes rows columns (pen_behind columns pen_line pen_column known (length fresh)) pen_line pen_column
        (length fresh) f x (placed fresh x)
    placed_writes fresh f sound some room is =
        let s : State = x.state in
        let n : ℕ = length fresh in
        record {
          drawing = record {
            sound = sound;
            rows_are = d.rows_are;
            columns_are = d.columns_are;
            state_is = advanced_drawn s n d.state_is;
            tabs_are = d.tabs_are;
            none_saved = d.none_saved;
            line_is = d.line_is;
            column_is = knows_behind columns (pen_column + n) _
                (λ h. rw (lt-ltb (s.column + n) s.columns (omega (arith, d.column_is, d.columns_are)))
                (omega (arith, d.column_is)));
            rendition_is = d.rendition_is;
          };
          here = λ c hc. ap (λ g. unprotected (cell_at (line_at g pen_line) c)) (placed_page fresh)
              ∙ page_written rows columns pen_line pen_column fresh x.page (sized rows columns placed_pen x d) lh room
              some c hc
              ∙ over_same (seen x pen_line) pen_column n (λ k. unprotected (fresh_at fresh (k - pen_column))) f c
              (λ p q. is c p q);
          elsewhere = λ l c ne. ap (λ g. unprotected (cell_at (line_at g l) c)) (placed_page fresh)
              ∙ ap (λ z. unprotected (cell_at z c))
              (written_elsewhere pen_line pen_column rows columns fresh x.page (sized rows columns placed_pen x d) lh
              l ne);
          modes = refl;
        }

    narrow_is : (c : ℕ) → IsGlyph 1 c
        → effect x (Print c) ≡ placed (narrow_cell c x.state.rendition x.state.is_protecting ∷ []) x
    narrow_is c g = print_is rows columns old new placed_pen x d 1 c g
        ∙ rw (none_pending rows columns placed_pen x d) refl

    pub narrow_leads : (c : ℕ) → IsGlyph 1 c → StandsAt 1 new (record { line = pen_line; column = pen_column }) c
        → Differs old new pen_line pen_column
        → LeadsTo rows columns old new x (spelling (func_of (Glyph c)))
        (Inked rows columns pen_line pen_column known (narrow_cell c x.state.rendition false) 1 x)
    narrow_leads c g stands differs =
        let s : State = x.state in
        let fresh : List Cell = narrow_cell c s.rendition s.is_protecting ∷ [] in
        let is = narrow_is c g in
        let sound : IsSound (placed fresh x) = subst IsSound is (IsSound-effect x (Print c) d.sound) in (
          placed fresh x,
          printed_leads rows columns old new placed_pen x d 1 c pen_line pen_column (placed fresh x) g is
              (ap (λ (y : Screen). y.state.joining) is ∙ placed_joins fresh) stands differs,
          record {
            writes = placed_writes fresh (row_of (narrow_cell c s.rendition false) pen_column) sound (omega arith)
                (omega arith)
                (λ k p q. let e : k ≡ pen_column = omega arith in let z : k - pen_column ≡ 0 = omega arith in rw
                (z, eq-eqb k pen_column e) refl);
            joining = placed_joins fresh;
          },
        )

    wide_is : (c : ℕ) → IsGlyph 2 c → pen_column + 2 ≤ columns
        → effect x (Print c) ≡ placed
        (left_cell c x.state.rendition x.state.is_protecting ∷ right_cell c x.state.rendition x.state.is_protecting ∷
        [])
        x
    wide_is c g room =
        let some : eqb (x.state.column + 1) x.state.columns ≡ false = ne_eqb (x.state.column + 1) x.state.columns
        (λ e. absurd (omega (arith, d.column_is, d.columns_are))) in
        print_is rows columns old new placed_pen x d 2 c g
        ∙ rw (none_pending rows columns placed_pen x d, some, some) refl

    pub wide_leads : (c : ℕ) → IsGlyph 2 c → pen_column + 2 ≤ columns
        → StandsAt 2 new (record { line = pen_line; column = pen_column }) c → Differs old new pen_line pen_column
        → LeadsTo rows columns old new x (spelling (func_of (Glyph c)))
        (Inked rows columns pen_line pen_column known (left_cell c x.state.rendition false) 2 x)
    wide_leads c g room stands differs =
        let s : State = x.state in
        let fresh : List Cell = left_cell c s.rendition s.is_protecting ∷ right_cell c s.rendition s.is_protecting ∷ []
        in
        let is = wide_is c g room in
        let sound : IsSound (placed fresh x) = subst IsSound is (IsSound-effect x (Print c) d.sound) in (
          placed fresh x,
          printed_leads rows columns old new placed_pen x d 2 c pen_line pen_column (placed fresh x) g is
              (ap (λ (y : Screen). y.state.joining) is ∙ placed_joins fresh) stands differs,
          record {
            writes = placed_writes fresh (row_of (left_cell c s.rendition false) pen_column) sound (omega arith) room
                (λ k p q. ⊎_elim
                (λ (e : k ≡ pen_column). let z : k - pen_column ≡ 0 = omega arith in rw (z, eq-eqb k pen_column e) refl)
                (λ (ne : k ≡ pen_column → ⊥). let z : k - pen_column ≡ 1 = omega arith in rw (z, ne_eqb k pen_column ne)
                refl)
                (cases_eq k pen_column));
            joining = placed_joins fresh;
          },
        )
