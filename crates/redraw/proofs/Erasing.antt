-- What erasures do to a screen on which a frame is drawn.
use Rattle.redraw.proofs.Vocabulary.{◌≡◌, ℕ, ◌+◌, ◌-◌, ◌<◌, ◌≤◌, min, max, length, replicate, Option, refl, sym, ap}
use Rattle.redraw.proofs.Vocabulary.{◌∙◌, arith, ⊎_elim, cases_lt, get_or-replicate, get_or_past, length-replicate}
use Rattle.redraw.proofs.Vocabulary.{Rendition, blank, cell_at, unprotected, fresh_at, spliced, line_at, page_from}
use Rattle.redraw.proofs.Vocabulary.{edited, spelling, State, Page, Screen, IsSound, plain_sequence, unpending, effect}
use Rattle.redraw.proofs.Vocabulary.{acted_from, drawn_state, IsSound-effect, Pen, EraseCells, EraseToEnd, func_of}
use Rattle.redraw.proofs.Vocabulary.{seen, row_written, Drawing, Writes}
use Rattle.redraw.proofs.Writing.{written, written_elsewhere}
use Rattle.redraw.proofs.Effects.{silent_leads}
use Rattle.redraw.proofs.Screens.{utf8, sized, LeadsTo, at_place}
use Rattle.redraw.proofs.Seen.{over_same, page_written}

blanks_at : (n k : ℕ) → cell_at (replicate n blank) k ≡ blank
blanks_at n k = ⊎_elim
    (λ (h : k < n). get_or-replicate n k blank blank h)
    (λ (h : n ≤ k). get_or_past (replicate n blank) k blank (rw (length-replicate n blank) h))
    (cases_lt k n)

fresh_blank : (n k : ℕ) → fresh_at (replicate n blank) k ≡ blank
fresh_blank n k = rw (blanks_at n k) refl

module _ (rows columns : ℕ) (old new : Page) (pen_line pen_column : ℕ) (known : Option Rendition) (x : Screen)
    (d : Drawing rows columns (at_place pen_line pen_column known) x) (lh : pen_line < rows)
    (ch : pen_column < columns) where
  abbrev pen : Pen
  pen = at_place pen_line pen_column known

  -- ERASURES
  erase_writes : (y : Screen) (n : ℕ) → IsSound y → 0 < n → pen_column + n ≤ columns → y.state ≡ unpending x.state
      → y.tabs ≡ x.tabs → y.saved ≡ x.saved → y.page ≡ written pen_line pen_column columns (replicate n blank) x.page
      → Writes rows columns pen pen_line pen_column n (λ c. blank) x y
  erase_writes y n sound some room state tabs saved page =
      let m : length (replicate n blank) ≡ n = length-replicate n blank in
      let k : y.state.columns ≡ x.state.columns = ap (λ (s : State). s.columns) state in
      record {
        drawing = record {
          sound = sound;
          rows_are = ap (λ (s : State). s.rows) state ∙ d.rows_are;
          columns_are = k ∙ d.columns_are;
          state_is = state ∙ ap unpending d.state_is ∙ ap drawn_state (sym state);
          tabs_are = tabs ∙ d.tabs_are ∙ rw k refl;
          none_saved = saved ∙ d.none_saved;
          line_is = ap (λ (s : State). s.line) state ∙ d.line_is;
          column_is = ap (λ (s : State). s.column) state ∙ d.column_is;
          rendition_is = rw (ap (λ (s : State). s.rendition) state) d.rendition_is;
        };
        here = λ c hc. ap (λ g. unprotected (cell_at (line_at g pen_line) c)) page
            ∙ page_written rows columns pen_line pen_column (replicate n blank) x.page (sized rows columns pen x d) lh
            (rw m room) (rw m some) c hc
            ∙ ap (λ j. row_written (seen x pen_line) pen_column j
            (λ k'. unprotected (fresh_at (replicate n blank) (k' - pen_column))) c) m
            ∙ over_same (seen x pen_line) pen_column n
            (λ k'. unprotected (fresh_at (replicate n blank) (k' - pen_column))) (λ k'. blank) c
            (λ p q. ap unprotected (fresh_blank n (c - pen_column)));
        elsewhere = λ l c ne. ap (λ g. unprotected (cell_at (line_at g l) c)) page
            ∙ ap (λ z. unprotected (cell_at z c))
            (written_elsewhere pen_line pen_column rows columns (replicate n blank) x.page
            (sized rows columns pen x d) lh l ne);
        modes = ap (λ (s : State). s.modes) state;
      }

  -- the erasure of n cells, by the numbers of the table
  erased_is : (line from end width n : ℕ) → line ≡ pen_line → from ≡ pen_column → end ≡ pen_column + n
      → width ≡ columns
      → page_from (edited line (spliced from (replicate (end - from) blank) end width)) x.page ≡ written pen_line
      pen_column columns (replicate n blank) x.page
  erased_is line from end width n el ef ee ew =
      let m : length (replicate n blank) ≡ n = length-replicate n blank in
      let k : end - from ≡ n = omega arith in
      let z : end ≡ pen_column + length (replicate n blank) = ee ∙ ap (λ j. pen_column + j) (sym m) in
      ap (λ j. page_from (edited line (spliced from (replicate j blank) end width)) x.page) k
      ∙ ap (λ j. page_from (edited j (spliced from (replicate n blank) end width)) x.page) el
      ∙ ap (λ j. page_from (edited pen_line (spliced j (replicate n blank) end width)) x.page) ef
      ∙ ap (λ j. page_from (edited pen_line (spliced pen_column (replicate n blank) j width)) x.page) z
      ∙ ap (λ j. page_from
      (edited pen_line (spliced pen_column (replicate n blank) (pen_column + length (replicate n blank)) j))
      x.page) ew

  pub erase_leads : (n : ℕ) → 0 < n → n < 9999 → pen_column + n ≤ columns
      → LeadsTo rows columns old new x (spelling (func_of (EraseCells n)))
      (Writes rows columns pen pen_line pen_column n (λ c. blank) x)
  unfolding acted_from plain_sequence
  erase_leads n some few room =
      let s : State = x.state in
      let line = d.line_is in
      let column = d.column_is in (
        effect x (func_of (EraseCells n)),
        silent_leads old new x (EraseCells n) (utf8 rows columns pen x d) (some, few) tt,
        erase_writes (effect x (func_of (EraseCells n))) n (IsSound-effect x (func_of (EraseCells n)) d.sound) some
            room refl refl refl
            (erased_is s.line s.column (min (s.column + max 1 n) s.columns) s.columns n line column
            (omega (arith, d.columns_are)) d.columns_are),
      )

  pub erase_end_leads : (n : ℕ) → 0 < n → pen_column + n ≡ columns
      → LeadsTo rows columns old new x (spelling (func_of EraseToEnd))
      (Writes rows columns pen pen_line pen_column n (λ c. blank) x)
  unfolding acted_from plain_sequence
  erase_end_leads n some room =
      let s : State = x.state in
      let line = d.line_is in
      let column = d.column_is in (
        effect x (func_of EraseToEnd),
        silent_leads old new x EraseToEnd (utf8 rows columns pen x d) tt tt,
        erase_writes (effect x (func_of EraseToEnd)) n (IsSound-effect x (func_of EraseToEnd) d.sound) some
            (omega arith) refl refl refl
            (erased_is s.line s.column s.columns s.columns n line column (omega (arith, d.columns_are))
            d.columns_are),
      )
