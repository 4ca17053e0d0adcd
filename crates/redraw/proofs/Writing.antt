-- The cells of a page of which one line gets new cells.
use Rattle.redraw.proofs.Vocabulary.{◌≡◌, ℕ, zero, suc, ◌+◌, ◌-◌, ◌<◌, ◌≤◌, Bool, true, false, ◌&&◌, cond, eqb, List}
use Rattle.redraw.proofs.Vocabulary.{length, set, refl, sym, ap, ◌∙◌, arith, ⊎_elim, eq-eqb, get_or-set_same}
use Rattle.redraw.proofs.Vocabulary.{get_or-set_other, cases_lt, cases_eq, ne_eqb, lt-ltb, Cell, Shape, Narrow, Left}
use Rattle.redraw.proofs.Vocabulary.{Right, blank, cell_at, is_left, is_right, IsPaired, Source, Old, are_halves, kept}
use Rattle.redraw.proofs.Vocabulary.{settled, source_before, source_after, cells_from, spliced, fresh_at, line_at}
use Rattle.redraw.proofs.Vocabulary.{IsPage, page_from, edited, cell_at_past, true≢false, Row, row_written}
use Rattle.cells.proofs.Settling.{settled_at, cell_at-cells_from, after_inside, kept_is}
use Rattle.cells.proofs.Splicing.{at_front, at_fresh, at_rest}
use Rattle.cells.proofs.Putting.{settled_new}
use Rattle.cells.proofs.Pages.{page_from-edited}
use Rattle.redraw.proofs.Rows.{over_fresh, over_behind}

left_torn : (s : Shape) (cell : Cell) (p q : Bool) → p ≡ false → (is_right s ≡ true → q ≡ true)
    → kept s cell p q ≡ cond (is_left s) blank cell
left_torn Narrow cell p q e h = refl
left_torn Left cell p q e h = rw e refl
left_torn Right cell p q e h = rw (h refl) refl

right_torn : (s : Shape) (cell : Cell) (p q : Bool) → q ≡ false → (is_left s ≡ true → p ≡ true)
    → kept s cell p q ≡ cond (is_right s) blank cell
right_torn Narrow cell p q e h = refl
right_torn Left cell p q e h = rw (h refl) refl
right_torn Right cell p q e h = rw e refl

module _ (at : ℕ) (fresh cells : List Cell) (room : at + length fresh ≤ length cells) (paired : IsPaired cells)
    (some : 0 < length fresh) where
  abbrev source : ℕ → Source
  source column = spliced at fresh (at + length fresh) (length cells) column

  abbrev row : Row
  row column = cell_at cells column

  source_front : (k : ℕ) → k < at → source k ≡ Old k
  source_front k h = at_front at fresh (at + length fresh) (length cells) k h

  source_behind : (k : ℕ) → at + length fresh ≤ k → k < length cells → source k ≡ Old k
  source_behind k h within =
      let e : k + (at + length fresh) - (at + length fresh) ≡ k = omega arith in
      at_rest at fresh (at + length fresh) (length cells) k h (omega arith) ∙ ap Old e

  -- a left half stays if its right half stays
  left_stays : (k : ℕ) → k < length cells → (suc k < length cells → source (suc k) ≡ Old (suc k))
      → is_left (row k).shape ≡ true → are_halves (Old k) (source_after source (length cells) k) ≡ true
  left_stays k within next left = ⊎_elim
      (λ (inside : suc k < length cells). ap (are_halves (Old k))
      (after_inside source (length cells) k inside ∙ next inside) ∙ eq-eqb (suc k) (suc k) refl)
      (λ (past : length cells ≤ suc k). absurd
      (true≢false _ (sym (paired.next k) ∙ left)
      (ap (λ (x : Cell). is_right x.shape) (cell_at_past cells (suc k) past))))
      (cases_lt (suc k) (length cells))

  right_stays : (k : ℕ) → ((i : ℕ) → suc i ≡ k → source i ≡ Old i) → is_right (row k).shape ≡ true
      → are_halves (source_before source k) (Old k) ≡ true
  right_stays zero before right = absurd (true≢false _ right paired.first)
  right_stays (suc i) before right = ap (λ s. are_halves s (Old (suc i))) (before i refl) ∙ eq-eqb (suc i) (suc i) refl

  old_cell : (k : ℕ) → source k ≡ Old k
      → settled_at source cells k ≡ kept (row k).shape (row k)
      (are_halves (Old k) (source_after source (length cells) k)) (are_halves (source_before source k) (Old k))
  unfolding settled_at
  old_cell k here = ap (λ s. settled cells (source_before source k) s (source_after source (length cells) k)) here

  torn_after : (k : ℕ) → suc k ≡ at → are_halves (Old k) (source_after source (length cells) k) ≡ false
  torn_after k e =
      ap (are_halves (Old k))
      (after_inside source (length cells) k (omega arith)
      ∙ at_fresh at fresh (at + length fresh) (length cells) (suc k) (omega arith) (omega arith))

  torn_before : (k : ℕ) → k ≡ at + length fresh → are_halves (source_before source k) (Old k) ≡ false
  torn_before zero e = absurd (omega arith)
  torn_before (suc i) e = ap (λ s. are_halves s (Old (suc i)))
      (at_fresh at fresh (at + length fresh) (length cells) i (omega arith) (omega arith))

  cell_front : (k : ℕ) → k < at
      → settled_at source cells k ≡ cond (eqb (k + 1) at && is_left (row k).shape) blank (row k)
  cell_front k h =
      let q : is_right (row k).shape ≡ true
      → are_halves (source_before source k) (Old k) ≡ true = right_stays k (λ i e. source_front i (omega arith)) in
      old_cell k (source_front k h) ∙ ⊎_elim
      (λ (e : suc k ≡ at). let j : k + 1 ≡ at = omega arith in left_torn (row k).shape (row k) _ _ (torn_after k e) q
      ∙ sym (rw (eq-eqb (k + 1) at j) refl))
      (λ (ne : suc k ≡ at → ⊥). let j : k + 1 ≡ at → ⊥ = (λ z. ne (omega arith)) in
      kept_is (row k).shape (row k) _ _ (left_stays k (omega arith) (λ inside. source_front (suc k) (omega arith))) q
      ∙ sym (rw (ne_eqb (k + 1) at j) refl))
      (cases_eq (suc k) at)

  cell_behind : (k : ℕ) → at + length fresh ≤ k → k < length cells
      → settled_at source cells k ≡ cond (eqb k (at + length fresh) && is_right (row k).shape) blank (row k)
  cell_behind k h within =
      let p : is_left (row k).shape ≡ true
      → are_halves (Old k) (source_after source (length cells) k) ≡ true = left_stays k within
      (λ inside. source_behind (suc k) (omega arith) inside) in
      old_cell k (source_behind k h within) ∙ ⊎_elim
      (λ (e : k ≡ at + length fresh). right_torn (row k).shape (row k) _ _ (torn_before k e) p
      ∙ sym (rw (eq-eqb k (at + length fresh) e) refl))
      (λ (ne : k ≡ at + length fresh → ⊥).
      kept_is (row k).shape (row k) _ _ p (right_stays k (λ i e. source_behind i (omega arith) (omega arith)))
      ∙ sym (rw (ne_eqb k (at + length fresh) ne) refl))
      (cases_eq k (at + length fresh))

  pub cell_at-spliced : (k : ℕ) → k < length cells
      → cell_at (cells_from source cells) k ≡ row_written row at (length fresh) (λ c. fresh_at fresh (c - at)) k
  cell_at-spliced k within = cell_at-cells_from source cells k within ∙ ⊎_elim
      (λ (front : k < at). cell_front k front ∙ sym (rw (lt-ltb k at front) refl))
      (λ (past : at ≤ k). ⊎_elim
      (λ (inside : k < at + length fresh).
      let e : at + (k - at) ≡ k = omega arith in
      ap (settled_at source cells) (sym e) ∙ settled_new at fresh cells room (k - at) (omega arith)
      ∙ sym (over_fresh row at (length fresh) (λ c. fresh_at fresh (c - at)) k past inside))
      (λ (behind : at + length fresh ≤ k). cell_behind k behind within
      ∙ sym (over_behind row at (length fresh) (λ c. fresh_at fresh (c - at)) k behind))
      (cases_lt k (at + length fresh)))
      (cases_lt k at)

-- a page, of which one line gets new cells
abbrev pub written : ℕ → ℕ → ℕ → List Cell → List (List Cell) → List (List Cell)
written line at columns fresh page = page_from (edited line (spliced at fresh (at + length fresh) columns)) page

module _ (line at rows columns : ℕ) (fresh : List Cell) (page : List (List Cell)) (is_page : IsPage rows columns page)
    (inside : line < rows) where
  written_is : written line at columns fresh page ≡ set page line
      (cells_from (spliced at fresh (at + length fresh) columns) (line_at page line))
  written_is = page_from-edited line (spliced at fresh (at + length fresh) columns) rows columns page is_page inside

  pub written_elsewhere : (l : ℕ) → (l ≡ line → ⊥) → line_at (written line at columns fresh page) l ≡ line_at page l
  written_elsewhere l ne = ap (λ g. line_at g l) written_is ∙ get_or-set_other page line l _ _ ne

  pub written_here : (c : ℕ) → c < columns → at + length fresh ≤ columns → 0 < length fresh
      → cell_at (line_at (written line at columns fresh page) line) c ≡ row_written (cell_at (line_at page line)) at
      (length fresh) (λ k. fresh_at fresh (k - at)) c
  written_here c within room some =
      let cells : List Cell = line_at page line in
      let w : length cells ≡ columns = is_page.width line inside in
      let tall : line < length page = rw is_page.height inside in
      ap (λ g. cell_at (line_at g line) c) written_is
      ∙ ap (λ k. cell_at k c) (get_or-set_same page line _ _ tall)
      ∙ ap (λ n. cell_at (cells_from (spliced at fresh (at + length fresh) n) cells) c) (sym w)
      ∙ cell_at-spliced at fresh cells (rw w room) (is_page.paired line) some c (rw w within)
