-- The cell at each place after new cells were put over a line.
use Rattle.terminal_model.proofs.Vocabulary.{get_or, ◌≡◌, ℕ, zero, suc, ◌+◌, ◌-◌, ◌<◌, ◌≤◌, Bool, true, false, ◌&&◌}
use Rattle.terminal_model.proofs.Vocabulary.{eqb, ltb, leb, List, [], length, set, refl, sym, ap, ◌∙◌, arith, ⊎_elim}
use Rattle.terminal_model.proofs.Vocabulary.{eq-eqb, common_steps, if◌then◌else◌, ◌==◌, cases_lt, ne_eqb, nat_tests}
use Rattle.terminal_model.proofs.Vocabulary.{Cell, blank, cell_at, is_left, is_right, marked, IsPaired, Source, Fresh}
use Rattle.terminal_model.proofs.Vocabulary.{Old, are_halves, kept, settled, source_before, source_after, cells_from}
use Rattle.terminal_model.proofs.Vocabulary.{spliced, line_at, IsPage, page_from, page_marked, edited, cell_at_past}
use Rattle.terminal_model.proofs.Vocabulary.{at_front, at_fresh, at_rest, page_from-edited, Page, blank_page, place}
use Rattle.std.proofs.lemmas.Bool.{cases_eq, cases_Bool}
use Rattle.cells.proofs.Settling.{true≢false, settled_at, after_inside, length-cells_from, cell_at-cells_from, kept_is}
use Rattle.cells.proofs.Settling.{left_only, right_only}
use Rattle.terminal_model.specs.Places.{overlaid_cell, with_mark}

and_true : (a b : Bool) → a ≡ true → b ≡ true → (a && b) ≡ true
and_true a b h k = rw h k

same_number : (n : ℕ) → eqb n n ≡ true
same_number n = eq-eqb n n refl

module _ (fresh cells : List Cell) (at : ℕ) (paired : IsPaired cells) (pairs : IsPaired fresh) (some : 0 < length fresh)
    (room : at + length fresh ≤ length cells) where
  abbrev source : ℕ → Source
  source = spliced at fresh (at + length fresh) (length cells)

  front : (k : ℕ) → k < at → source k ≡ Old k
  front k h = at_front at fresh (at + length fresh) (length cells) k h

  inside : (j k : ℕ) → k ≡ at + j → j < length fresh → source k ≡ Fresh (cell_at fresh j)
  inside j k e h = at_fresh at fresh (at + length fresh) (length cells) k (omega arith) (omega arith)
      ∙ ap (λ i. Fresh (cell_at fresh i)) (omega arith)

  behind : (k : ℕ) → at + length fresh ≤ k → k < length cells → source k ≡ Old k
  behind k l h =
      let e : k + (at + length fresh) - (at + length fresh) ≡ k = omega arith in
      at_rest at fresh (at + length fresh) (length cells) k l (omega arith) ∙ ap Old e

  -- an old cell whose other half comes along stays
  stays : (k : ℕ) → k < length cells → source k ≡ Old k
      → (is_left (cell_at cells k).shape ≡ true → source_after source (length cells) k ≡ Old (suc k))
      → (is_right (cell_at cells k).shape ≡ true → (j : ℕ) → k ≡ suc j → source j ≡ Old j)
      → cell_at (cells_from source cells) k ≡ cell_at cells k
  unfolding settled_at
  stays zero h here left right =
      cell_at-cells_from source cells zero h
      ∙ ap (λ s. settled cells (source_before source zero) s (source_after source (length cells) zero)) here
      ∙ kept_is (cell_at cells zero).shape (cell_at cells zero) _ _
      (λ l. ap (are_halves (Old zero)) (left l) ∙ same_number 1)
      (λ r. absurd (true≢false _ r paired.first))
  stays (suc j) h here left right =
      cell_at-cells_from source cells (suc j) h
      ∙ ap (λ s. settled cells (source j) s (source_after source (length cells) (suc j))) here
      ∙ kept_is (cell_at cells (suc j)).shape (cell_at cells (suc j)) _ _
      (λ l. ap (are_halves (Old (suc j))) (left l) ∙ same_number (suc (suc j)))
      (λ r. ap (λ s. are_halves s (Old (suc j))) (right r j refl) ∙ same_number (suc j))

  -- a left half whose right half is covered
  left_lost : (k : ℕ) (c : Cell) → k < length cells → source k ≡ Old k → is_left (cell_at cells k).shape ≡ true
      → source_after source (length cells) k ≡ Fresh c → cell_at (cells_from source cells) k ≡ blank
  unfolding settled_at
  left_lost k c h here left after =
      cell_at-cells_from source cells k h
      ∙ ap (λ s. settled cells (source_before source k) s (source_after source (length cells) k)) here
      ∙ ap (λ s. settled cells (source_before source k) (Old k) s) after
      ∙ ap (λ s. kept s (cell_at cells k) false (are_halves (source_before source k) (Old k)))
      (left_only (cell_at cells k).shape left)

  -- a right half whose left half is covered
  right_lost : (j : ℕ) (c : Cell) → suc j < length cells → source (suc j) ≡ Old (suc j)
      → is_right (cell_at cells (suc j)).shape ≡ true → source j ≡ Fresh c
      → cell_at (cells_from source cells) (suc j) ≡ blank
  unfolding settled_at
  right_lost j c h here right before =
      cell_at-cells_from source cells (suc j) h
      ∙ ap (λ s. settled cells (source j) s (source_after source (length cells) (suc j))) here
      ∙ ap (λ s. settled cells s (Old (suc j)) (source_after source (length cells) (suc j))) before
      ∙ ap (λ s. kept s (cell_at cells (suc j)) (are_halves (Old (suc j)) (source_after source (length cells) (suc j)))
      false) (right_only (cell_at cells (suc j)).shape right)

  -- the other half of a new left half is new
  new_left : (j k : ℕ) → k ≡ at + j → j < length fresh → is_left (cell_at fresh j).shape ≡ true
      → are_halves (Fresh (cell_at fresh j)) (source_after source (length cells) k) ≡ true
  new_left j k e h left =
      let next : is_right (cell_at fresh (suc j)).shape ≡ true = sym (pairs.next j) ∙ left in
      let within : suc j < length fresh = ⊎_elim (λ x. x)
      (λ past. absurd (true≢false _ next (ap (λ (c : Cell). is_right c.shape) (cell_at_past fresh (suc j) past))))
      (cases_lt (suc j) (length fresh)) in
      ap (are_halves (Fresh (cell_at fresh j)))
      (after_inside source (length cells) k (omega arith) ∙ inside (suc j) (suc k) (omega arith) within)
      ∙ and_true _ _ left next

  new : (j k : ℕ) → k ≡ at + j → j < length fresh → cell_at (cells_from source cells) k ≡ cell_at fresh j
  unfolding settled_at
  new zero zero e h =
      cell_at-cells_from source cells zero (omega arith)
      ∙ ap (λ s. settled cells (source_before source zero) s (source_after source (length cells) zero))
      (inside zero zero e h)
      ∙ kept_is (cell_at fresh zero).shape (cell_at fresh zero) _ _ (new_left zero zero e h)
      (λ r. absurd (true≢false _ r pairs.first))
  new zero (suc m) e h =
      cell_at-cells_from source cells (suc m) (omega arith)
      ∙ ap (λ s. settled cells (source m) s (source_after source (length cells) (suc m))) (inside zero (suc m) e h)
      ∙ kept_is (cell_at fresh zero).shape (cell_at fresh zero) _ _ (new_left zero (suc m) e h)
      (λ r. absurd (true≢false _ r pairs.first))
  new (suc i) zero e h = absurd (omega arith)
  new (suc i) (suc m) e h =
      cell_at-cells_from source cells (suc m) (omega arith)
      ∙ ap (λ s. settled cells (source m) s (source_after source (length cells) (suc m))) (inside (suc i) (suc m) e h)
      ∙ kept_is (cell_at fresh (suc i)).shape (cell_at fresh (suc i)) _ _ (new_left (suc i) (suc m) e h)
      (λ r. ap (λ s. are_halves s (Fresh (cell_at fresh (suc i)))) (inside i m (omega arith) (omega arith))
      ∙ and_true _ _ (pairs.next i ∙ r) r)

  -- before the new cells
  before_new : (k : ℕ) → k < at
      → cell_at (cells_from source cells) k ≡
      (if (k + 1 == at) && is_left (cell_at cells k).shape then blank else cell_at cells k)
  before_new k h = ⊎_elim
      (λ (e : k + 1 ≡ at). ⊎_elim
      (λ (l : is_left (cell_at cells k).shape ≡ true).
      left_lost k (cell_at fresh 0) (omega arith) (front k h) l
      (after_inside source (length cells) k (omega arith) ∙ inside 0 (suc k) (omega arith) some)
      ∙ sym (rw (eq-eqb (k + 1) at e, l) refl))
      (λ (l : is_left (cell_at cells k).shape ≡ false).
      stays k (omega arith) (front k h) (λ t. absurd (true≢false _ t l)) (λ r j w. front j (omega arith))
      ∙ sym (rw (eq-eqb (k + 1) at e, l) refl))
      (cases_Bool (is_left (cell_at cells k).shape)))
      (λ (ne : k + 1 ≡ at → ⊥).
      stays k (omega arith) (front k h)
      (λ t. after_inside source (length cells) k (omega arith) ∙ front (suc k) (omega arith))
      (λ r j w. front j (omega arith))
      ∙ sym (rw (ne_eqb (k + 1) at ne) refl))
      (cases_eq (k + 1) at)

  -- after the new cells
  after_old : (k : ℕ) → at + length fresh ≤ k → k < length cells → is_left (cell_at cells k).shape ≡ true
      → source_after source (length cells) k ≡ Old (suc k)
  after_old k h w l =
      let next : is_right (cell_at cells (suc k)).shape ≡ true = sym (paired.next k) ∙ l in
      let within : suc k < length cells = ⊎_elim (λ x. x)
      (λ past. absurd (true≢false _ next (ap (λ (c : Cell). is_right c.shape) (cell_at_past cells (suc k) past))))
      (cases_lt (suc k) (length cells)) in
      after_inside source (length cells) k within ∙ behind (suc k) (omega arith) within

  after_new : (k : ℕ) → at + length fresh ≤ k → k < length cells
      → cell_at (cells_from source cells) k ≡
      (if (k == at + length fresh) && is_right (cell_at cells k).shape then blank else cell_at cells k)
  after_new zero h w = absurd (omega arith)
  after_new (suc j) h w = ⊎_elim
      (λ (e : suc j ≡ at + length fresh). ⊎_elim
      (λ (r : is_right (cell_at cells (suc j)).shape ≡ true).
      right_lost j (cell_at fresh (length fresh - 1)) w (behind (suc j) h w) r
      (inside (length fresh - 1) j (omega arith) (omega arith))
      ∙ sym (rw (eq-eqb (suc j) (at + length fresh) e, r) refl))
      (λ (r : is_right (cell_at cells (suc j)).shape ≡ false).
      stays (suc j) w (behind (suc j) h w) (after_old (suc j) h w) (λ t i u. absurd (true≢false _ t r))
      ∙ sym (rw (eq-eqb (suc j) (at + length fresh) e, r) refl))
      (cases_Bool (is_right (cell_at cells (suc j)).shape)))
      (λ (ne : suc j ≡ at + length fresh → ⊥).
      stays (suc j) w (behind (suc j) h w) (after_old (suc j) h w)
      (λ t i u. let same : i ≡ j = omega arith in behind i (omega arith) (omega arith))
      ∙ sym (rw (ne_eqb (suc j) (at + length fresh) ne) refl))
      (cases_eq (suc j) (at + length fresh))

  pub over-is : (k : ℕ) → cell_at (cells_from source cells) k ≡ overlaid_cell fresh at cells k
  over-is k = ⊎_elim
      (λ (h : k < at).
      let no : leb at k ≡ false = grind (arith, nat_tests) in
      let back : eqb k (at + length fresh) ≡ false = ne_eqb k (at + length fresh) (omega arith) in
      before_new k h ∙ sym (rw (no, back) refl))
      (λ (h : at ≤ k). ⊎_elim
      (λ (l : k < at + length fresh).
      let yes : leb at k ≡ true = grind (arith, nat_tests) in
      let yes' : ltb k (at + length fresh) ≡ true = grind (arith, nat_tests) in
      new (k - at) k (omega arith) (omega arith) ∙ sym (rw (yes, yes') refl))
      (λ (l : at + length fresh ≤ k).
      let no : ltb k (at + length fresh) ≡ false = grind (arith, nat_tests) in
      let yes : leb at k ≡ true = grind (arith, nat_tests) in
      let front' : eqb (k + 1) at ≡ false = ne_eqb (k + 1) at (omega arith) in
      ⊎_elim
      (λ (w : k < length cells). after_new k l w ∙ sym (rw (yes, no, front') refl))
      (λ (w : length cells ≤ k).
      let none : cell_at cells k ≡ blank = cell_at_past cells k w in
      cell_at_past (cells_from source cells) k (rw (length-cells_from source cells) w)
      ∙ sym (rw (yes, no, front', none) (past (eqb k (at + length fresh)))))
      (cases_lt k (length cells)))
      (cases_lt k (at + length fresh)))
      (cases_lt k at)
    where
      past : (b : Bool) → (if b && false then blank else blank) ≡ blank
      past true = refl
      past false = refl

-- a page of which one line is edited
pub edited-at : (rows columns at : ℕ) (source : ℕ → Source) (page : Page) → IsPage rows columns page → at < rows
    → (line column : ℕ)
    → place (page_from (edited at source) page) line column ≡
    (if line == at then cell_at (cells_from source (line_at page at)) column else place page line column)
edited-at rows columns at source page p h line column =
    rw (page_from-edited at source rows columns page p h) (grind (arith, common_steps, p.height))

-- new cells over a line of a page
pub over-at : (rows columns at from rest : ℕ) (fresh : List Cell) (page : Page) → IsPage rows columns page → at < rows
    → IsPaired fresh → 0 < length fresh → from + length fresh ≤ columns → rest ≡ from + length fresh
    → (line column : ℕ)
    → place (page_from (edited at (spliced from fresh rest columns)) page) line column ≡
    (if line == at then overlaid_cell fresh from (line_at page at) column else place page line column)
over-at rows columns at from rest fresh page p h pairs some room e line column =
    let wide : length (line_at page at) ≡ columns = p.width at h in
    edited-at rows columns at (spliced from fresh rest columns) page p h line column
    ∙ ap (λ (c : Cell). if line == at then c else place page line column)
    (rw (e, ← wide) (over-is fresh (line_at page at) from (p.paired at) pairs some (rw wide room) column))

set-is : {A : Type 0} (xs : List A) (at : ℕ) (new d : A) (k : ℕ) → at < length xs
    → get_or (set xs at new) k d ≡ (if k == at then new else get_or xs k d)
set-is xs at new d k h = grind (arith, common_steps)

-- a mark
pub marked-at : (rows columns at from mark : ℕ) (page : Page) → IsPage rows columns page → at < rows → from < columns
    → (line column : ℕ)
    → place (page_marked at from mark page) line column ≡ with_mark at from mark page line column
marked-at rows columns at from mark page p h w line column =
    let old : List Cell = line_at page at in
    let cell : Cell = marked (cell_at old from) mark in
    rw (set-is page at (set old from cell) [] line (rw p.height h))
    (grind (arith, nat_tests, set-is old from cell blank column, p.width at h))

-- a blank page
pub blank-at : (rows columns line column : ℕ) → place (blank_page rows columns) line column ≡ blank
blank-at rows columns line column = grind (arith, common_steps)
