-- New cells put over as many old ones.
use Rattle.cells.proofs.Vocabulary.{◌≡◌, ℕ, zero, suc, ◌+◌, ◌-◌, ◌<◌, ◌≤◌, min, Bool, false, ◌&&◌, List, [], ◌∷◌, ◌++◌}
use Rattle.cells.proofs.Vocabulary.{length, set, subst, replicate, refl, sym, ap, ◌∙◌, ◌⊎◌, inl, inr, arith, ⊎_elim}
use Rattle.cells.proofs.Vocabulary.{length-set, get_or-set_same, get_or-set_other, length-replicate, length-map}
use Rattle.cells.proofs.Vocabulary.{length-append, get_or_append_left, get_or-append_right, cases_lt, cases_eq, Cell}
use Rattle.cells.proofs.Vocabulary.{Rendition, Narrow, blank, cell_at, is_left, is_right, IsPaired, Source, Fresh, Old}
use Rattle.cells.proofs.Vocabulary.{taken, are_halves, kept, settled, source_before, source_after, cells_from, cut_of}
use Rattle.cells.proofs.Vocabulary.{spliced, fresh_at, right_follows, narrow_cell, narrow_cells, IsPut, AreNarrow}
use Rattle.cells.proofs.Settling.{cell_at_past, settled_at, cells_from-is, cells_from-agree, after_inside, after_last}
use Rattle.cells.proofs.Settling.{length-cut_of, cell_at-cells_from, and_false}
use Rattle.cells.proofs.Splicing.{cell_at-plain_from, at_front, at_fresh, at_rest, cells_from-spliced, cut_thrice}
use Rattle.cells.proofs.Splicing.{length-cut_thrice, IsPaired-blanks}

pub IsPaired-shapes : (a b : List Cell) → ((column : ℕ) → (cell_at a column).shape ≡ (cell_at b column).shape)
    → IsPaired a → IsPaired b
IsPaired-shapes a b same paired = record {
  first = sym (ap is_right (same 0)) ∙ paired.first;
  next = λ column. sym (ap is_left (same column)) ∙ paired.next column ∙ ap is_right (same (suc column));
}

-- new cells of any kind: each of their columns
module _ (at : ℕ) (fresh cells : List Cell) (room : at + length fresh ≤ length cells) where
  abbrev source : ℕ → Source
  source column = spliced at fresh (at + length fresh) (length cells) column

  after_new : (j : ℕ) → j < length fresh
      → are_halves (Fresh (cell_at fresh j)) (source_after source (length cells) (at + j)) ≡ is_left
      (cell_at fresh j).shape && is_right (cell_at fresh (suc j)).shape
  after_new j h = ⊎_elim
      (λ (next : suc j < length fresh). let e : suc (at + j) - at ≡ suc j = omega arith in let w : suc (at + j) < length
      cells = omega arith in
      ap (are_halves (Fresh (cell_at fresh j))) (after_inside source (length cells) (at + j) w
      ∙ at_fresh at fresh (at + length fresh) (length cells) (suc (at + j)) (omega arith) (omega arith)
      ∙ ap (λ i. Fresh (cell_at fresh i)) e))
      (λ (last : length fresh ≤ suc j).
      ap (are_halves (Fresh (cell_at fresh j))) refl
      ∙ ⊎_elim
      (λ (inside : suc (at + j) < length cells).
      ap (are_halves (Fresh (cell_at fresh j)))
      (after_inside source (length cells) (at + j) inside
      ∙ at_rest at fresh (at + length fresh) (length cells) (suc (at + j)) (omega arith) (omega arith)))
      (λ outside. let e : suc (at + j) ≡ length cells = omega arith in
      ap (are_halves (Fresh (cell_at fresh j))) (after_last source (length cells) (at + j) e) ∙ and_false _)
      (cases_lt (suc (at + j)) (length cells))
      ∙ sym
      (ap (λ (x : Cell). is_left (cell_at fresh j).shape && is_right x.shape) (cell_at_past fresh (suc j) last)
      ∙ and_false _))
      (cases_lt (suc j) (length fresh))

  old_and_new : (k : ℕ) (x : Cell) → k < at → are_halves (source k) (Fresh x) ≡ false
  old_and_new k x h = ap (λ s. are_halves s (Fresh x)) (at_front at fresh (at + length fresh) (length cells) k h)

  before_first : (at' : ℕ) → at' ≡ at → (x : Cell) → are_halves (source_before source at') (Fresh x) ≡ false
  before_first zero e x = refl
  before_first (suc k) e x = old_and_new k x (omega arith)

  before_new : (j : ℕ) → j < length fresh
      → are_halves (source_before source (at + j)) (Fresh (cell_at fresh j)) ≡ right_follows fresh j
  before_new zero h = before_first (at + 0) (omega arith) (cell_at fresh 0)
  before_new (suc i) h = let e : at + suc i ≡ suc (at + i) = omega arith in let z : at + i - at ≡ i = omega arith in
      ap (λ n. are_halves (source_before source n) (Fresh (cell_at fresh (suc i)))) e
      ∙ ap (λ s. are_halves s (Fresh (cell_at fresh (suc i))))
      (at_fresh at fresh (at + length fresh) (length cells) (at + i) (omega arith) (omega arith)
      ∙ ap (λ n. Fresh (cell_at fresh n)) z)

  pub settled_new : (j : ℕ) → j < length fresh → settled_at source cells (at + j) ≡ fresh_at fresh j
  unfolding settled_at
  settled_new j h = let z : at + j - at ≡ j = omega arith in
      let here : source (at + j) ≡ Fresh (cell_at fresh j) = at_fresh at fresh (at + length fresh) (length cells)
      (at + j) (omega arith) (omega arith) ∙ ap (λ n. Fresh (cell_at fresh n)) z in
      ap (λ s. settled cells (source_before source (at + j)) s (source_after source (length cells) (at + j))) here
      ∙ ap (λ q. kept (cell_at fresh j).shape (cell_at fresh j) q
      (are_halves (source_before source (at + j)) (Fresh (cell_at fresh j)))) (after_new j h)
      ∙ ap (λ q. kept (cell_at fresh j).shape (cell_at fresh j)
      (is_left (cell_at fresh j).shape && is_right (cell_at fresh (suc j)).shape) q) (before_new j h)

  abbrev blanks : List Cell
  blanks = replicate (length fresh) blank

  abbrev blank_source : ℕ → Source
  blank_source column = spliced at blanks (at + length fresh) (length cells) column

  n_blanks : length blanks ≡ length fresh
  n_blanks = length-replicate (length fresh) blank

  -- a column outside of the new cells
  abbrev IsOutside : ℕ → Type 0
  IsOutside k = (k < at) ⊎ (at + length fresh ≤ k)

  kept_place : (k : ℕ) → IsOutside k → k < length cells → source k ≡ Old k
  kept_place k h within = ⊎_elim
      (λ front. at_front at fresh (at + length fresh) (length cells) k front)
      (λ behind. let e : k + (at + length fresh) - (at + length fresh) ≡ k = omega arith in at_rest at fresh
      (at + length fresh) (length cells) k behind (omega arith) ∙ ap Old e)
      h

  kept_place_blank : (k : ℕ) → IsOutside k → k < length cells → blank_source k ≡ Old k
  kept_place_blank k h within = let n = n_blanks in ⊎_elim
      (λ front. at_front at blanks (at + length fresh) (length cells) k front)
      (λ behind. let e : k + (at + length fresh) - (at + length blanks) ≡ k = omega arith in at_rest at blanks
      (at + length fresh) (length cells) k (omega arith) (omega arith) ∙ ap Old e)
      h

  -- an old half pairs with the same columns, whatever the new cells are
  same_halves : (j c : ℕ) → j < length cells
      → (are_halves (source j) (Old c) ≡ are_halves (blank_source j) (Old c)) ×
      (are_halves (Old c) (source j) ≡ are_halves (Old c) (blank_source j))
  same_halves j c within =
      let n = n_blanks in
      let outside : IsOutside j → source j ≡ blank_source j = λ h. kept_place j h within
      ∙ sym (kept_place_blank j h within) in
      ⊎_elim
      (λ (front : j < at).
      (ap (λ s. are_halves s (Old c)) (outside (inl front)), ap (are_halves (Old c)) (outside (inl front))))
      (λ (past : at ≤ j). ⊎_elim
      (λ (new : j < at + length fresh).
      let f = at_fresh at fresh (at + length fresh) (length cells) j past new in
      let g = at_fresh at blanks (at + length fresh) (length cells) j past (omega arith) in (
        ap (λ s. are_halves s (Old c)) f ∙ sym (ap (λ s. are_halves s (Old c)) g),
        ap (are_halves (Old c)) f ∙ sym (ap (are_halves (Old c)) g),
      ))
      (λ (behind : at + length fresh ≤ j).
      (ap (λ s. are_halves s (Old c)) (outside (inr behind)), ap (are_halves (Old c)) (outside (inr behind))))
      (cases_lt j (at + length fresh)))
      (cases_lt j at)

  sources_before : (k c : ℕ) → k < length cells
      → are_halves (source_before source k) (Old c) ≡ are_halves (source_before blank_source k) (Old c)
  sources_before zero c within = refl
  sources_before (suc j) c within = (same_halves j c (omega arith)).0

  sources_after : (k c : ℕ) → k < length cells
      → are_halves (Old c) (source_after source (length cells) k) ≡ are_halves (Old c)
      (source_after blank_source (length cells) k)
  sources_after k c within = ⊎_elim
      (λ (inside : suc k < length cells). ap (are_halves (Old c)) (after_inside source (length cells) k inside)
      ∙ (same_halves (suc k) c inside).1
      ∙ sym (ap (are_halves (Old c)) (after_inside blank_source (length cells) k inside)))
      (λ outside. let e : suc k ≡ length cells = omega arith in
      ap (are_halves (Old c)) (after_last source (length cells) k e)
      ∙ sym (ap (are_halves (Old c)) (after_last blank_source (length cells) k e)))
      (cases_lt (suc k) (length cells))

  settled_outside : (k : ℕ) → IsOutside k → k < length cells
      → settled_at source cells k ≡ settled_at blank_source cells k
  unfolding settled_at
  settled_outside k h within =
      ap (λ s. settled cells (source_before source k) s (source_after source (length cells) k)) (kept_place k h within)
      ∙ ap (λ q. kept (cell_at cells k).shape (cell_at cells k) q (are_halves (source_before source k) (Old k)))
      (sources_after k k within)
      ∙ ap (λ q. kept (cell_at cells k).shape (cell_at cells k)
      (are_halves (Old k) (source_after blank_source (length cells) k)) q) (sources_before k k within)
      ∙ sym
      (ap (λ s. settled cells (source_before blank_source k) s (source_after blank_source (length cells) k))
      (kept_place_blank k h within))

  -- the line with both boundaries of the new cells cut
  abbrev cut_twice : List Cell
  cut_twice = cut_of (at + length fresh) (cut_of at cells)

  module _ (some : 0 < length fresh) (paired : IsPaired cells) where
    thrice : cut_thrice at (length blanks) (at + length fresh) cells ≡ cut_twice
    thrice = let n = n_blanks in
        let end : at + length fresh + min (length cells - (at + length fresh)) (length cells - (at + length blanks)) ≡
        length cells = omega arith in
        let two : length cut_twice ≡ length cells = length-cut_of (at + length fresh) (cut_of at cells)
        ∙ length-cut_of at cells in
        let none : is_right (cell_at cut_twice (length cells)).shape ≡ false = ap (λ (x : Cell). is_right x.shape)
        (cell_at_past cut_twice (length cells) (omega (arith, two))) in
        ap (λ m. cut_of m cut_twice) end ∙ rw none refl

    pub outside_is : (k : ℕ) → IsOutside k → k < length cells → settled_at source cells k ≡ cell_at cut_twice k
    outside_is k h within = let n = n_blanks in
        settled_outside k h within
        ∙ sym (cell_at-cells_from blank_source cells k within)
        ∙ ap (λ x. cell_at x k)
        (cells_from-spliced at blanks (at + length fresh) cells (omega arith) room (omega arith) (omega arith)
        paired (IsPaired-blanks (length fresh)))
        ∙ cell_at-plain_from blank_source (cut_thrice at (length blanks) (at + length fresh) cells) k
        (rw (length-cut_thrice at (length blanks) (at + length fresh) cells) within)
        ∙ ap (taken (cut_thrice at (length blanks) (at + length fresh) cells)) (kept_place_blank k h within)
        ∙ ap (λ x. cell_at x k) thrice

    -- a line with the right cells is the line into which the new cells were put
    pub put_is : (line : List Cell) → length line ≡ length cells
        → ((k : ℕ) → IsOutside k → cell_at line k ≡ cell_at cut_twice k)
        → ((j : ℕ) → j < length fresh → cell_at line (at + j) ≡ fresh_at fresh j)
        → line ≡ cells_from source cells
    put_is line same outside new = cells_from-is source cells line same (λ k within. ⊎_elim
        (λ (front : k < at). outside k (inl front) ∙ sym (outside_is k (inl front) within))
        (λ (past : at ≤ k). ⊎_elim
        (λ (h : k < at + length fresh). let e : at + (k - at) ≡ k = omega arith in
        ap (cell_at line) (sym e) ∙ new (k - at) (omega arith) ∙ sym (settled_new (k - at) (omega arith))
        ∙ ap (settled_at source cells) e)
        (λ (behind : at + length fresh ≤ k). outside k (inr behind) ∙ sym (outside_is k (inr behind) within))
        (cases_lt k (at + length fresh)))
        (cases_lt k at))

-- the first `count` new cells are in their places
pub record IsPutSoFar (at : ℕ) (fresh old : List Cell) (count : ℕ) (line : List Cell) : Type 0 where
  pub outside : (k : ℕ) → (k < at) ⊎ (at + count ≤ k) → cell_at line k ≡ cell_at old k
  pub new : (j : ℕ) → j < count → cell_at line (at + j) ≡ fresh_at fresh j

pub put_next : (at : ℕ) (fresh old : List Cell) (count : ℕ) (line : List Cell) → IsPutSoFar at fresh old count line
    → at + count < length line
    → IsPutSoFar at fresh old (count + 1) (set line (at + count) (fresh_at fresh count))
put_next at fresh old count line so_far inside = record {
  outside = λ k h. get_or-set_other line (at + count) k (fresh_at fresh count) blank (omega arith)
      ∙ so_far.outside k (⊎_elim (λ a. inl a) (λ b. inr (omega arith)) h);
  new = λ j h. ⊎_elim
      (λ (e : j ≡ count). ap (λ i. cell_at (set line (at + count) (fresh_at fresh count)) (at + i)) e
      ∙ get_or-set_same line (at + count) (fresh_at fresh count) blank inside ∙ sym (ap (fresh_at fresh) e))
      (λ (ne : j ≡ count → ⊥). get_or-set_other line (at + count) (at + j) (fresh_at fresh count) blank (omega arith)
      ∙ so_far.new j (omega arith))
      (cases_eq j count);
}

-- one more new cell
pub IsPut-more : (at : ℕ) (fresh old line : List Cell) (cell : Cell) → IsPut at fresh old line
    → at + length fresh < length old
    → IsPut at (fresh ++ cell ∷ []) old (set line (at + length fresh) cell)
IsPut-more at fresh old line cell is room =
    let n : length (fresh ++ cell ∷ []) ≡ length fresh + 1 = length-append fresh (cell ∷ []) in
    let end : ℕ = at + length fresh in
    let within : end < length line = rw is.width room in
    record {
      width = length-set line end cell ∙ is.width;
      front = λ k h. get_or-set_other line end k cell blank (omega arith) ∙ is.front k h;
      placed = λ k h. ⊎_elim
          (λ (e : k ≡ length fresh). let z : length fresh - length fresh ≡ 0 = omega arith in
          ap (λ i. cell_at (set line end cell) (at + i)) e ∙ get_or-set_same line end cell blank within
          ∙ sym
          (ap (cell_at (fresh ++ cell ∷ [])) e
          ∙ get_or-append_right fresh (cell ∷ []) (length fresh) (length fresh) blank refl (omega arith)
          ∙ ap (cell_at (cell ∷ [])) z))
          (λ (ne : k ≡ length fresh → ⊥). let inside : k < length fresh = omega (arith, n, h) in
          get_or-set_other line end (at + k) cell blank (omega arith) ∙ is.placed k inside
          ∙ sym (get_or_append_left fresh (cell ∷ []) blank k inside))
          (cases_eq k (length fresh));
      rest = λ k h. get_or-set_other line end k cell blank (omega (arith, n, h)) ∙ is.rest k (omega (arith, n, h));
    }

pub IsPut-none : (at : ℕ) (old : List Cell) → IsPut at [] old old
IsPut-none at old = record {
  width = refl;
  front = λ k h. refl;
  placed = λ k h. absurd (omega arith);
  rest = λ k h. refl;
}

pub IsPut-one : (at : ℕ) (cell : Cell) (cells : List Cell) → at < length cells
    → IsPut at (cell ∷ []) cells (set cells at cell)
IsPut-one at cell cells inside =
    let e : at + 0 ≡ at = omega arith in
    subst (λ n. IsPut at (cell ∷ []) cells (set cells n cell)) e
    (IsPut-more at [] cells cells cell (IsPut-none at cells) (omega arith))

-- one of the new cells takes another value
pub IsPut-other : (at : ℕ) (fresh old line : List Cell) (last : ℕ) (cell : Cell) → IsPut at fresh old line
    → last < length fresh → at + last < length old
    → IsPut at (set fresh last cell) old (set line (at + last) cell)
IsPut-other at fresh old line last cell is n room =
    let m : length (set fresh last cell) ≡ length fresh = length-set fresh last cell in
    let within : at + last < length line = rw is.width room in
    record {
      width = length-set line (at + last) cell ∙ is.width;
      front = λ k h. get_or-set_other line (at + last) k cell blank (omega arith) ∙ is.front k h;
      placed = λ k h. ⊎_elim
          (λ (e : k ≡ last).
          ap (λ i. cell_at (set line (at + last) cell) (at + i)) e ∙ get_or-set_same line (at + last) cell blank within
          ∙ sym
          (ap (cell_at (set fresh last cell)) e ∙ get_or-set_same fresh last cell blank (omega (arith, n))))
          (λ (ne : k ≡ last → ⊥).
          get_or-set_other line (at + last) (at + k) cell blank (omega arith) ∙ is.placed k (omega (arith, m, h))
          ∙ sym (get_or-set_other fresh last k cell blank ne))
          (cases_eq k last);
      rest = λ k h. get_or-set_other line (at + last) k cell blank (omega (arith, n, m, h))
          ∙ is.rest k (omega (arith, m, h));
    }

-- new cells over others that were put before
pub spliced_over : (at count : ℕ) (begun fresh old line : List Cell) → length fresh ≡ count → length begun ≤ count
    → IsPut at begun old line
    → cells_from (spliced at fresh (at + count) (length line)) line ≡ cells_from
    (spliced at fresh (at + count) (length old)) old
spliced_over at count begun fresh old line n few put =
    let source : ℕ → Source = spliced at fresh (at + count) (length old) in
    ap (λ m. cells_from (spliced at fresh (at + count) m) line) put.width
    ∙ cells_from-agree source line old put.width (λ k inside. ⊎_elim
    (λ (front : k < at). let s = at_front at fresh (at + count) (length old) k front in
    ap (taken line) s ∙ put.front k front ∙ sym (ap (taken old) s))
    (λ (past : at ≤ k). ⊎_elim
    (λ (new : k < at + length fresh). let s = at_fresh at fresh (at + count) (length old) k past new in
    ap (taken line) s ∙ sym (ap (taken old) s))
    (λ (behind : at + length fresh ≤ k).
    let e : k + (at + count) - (at + length fresh) ≡ k = omega arith in
    let s = at_rest at fresh (at + count) (length old) k behind (omega arith) ∙ ap Old e in
    ap (taken line) s ∙ put.rest k (omega arith) ∙ sym (ap (taken old) s))
    (cases_lt k (at + length fresh)))
    (cases_lt k at))

-- cells of width 1 need nothing beside them
pub whole_narrow : (fresh : List Cell) (j : ℕ) → (cell_at fresh j).shape ≡ Narrow → fresh_at fresh j ≡ cell_at fresh j
whole_narrow fresh j narrow = ap
    (λ s. kept s (cell_at fresh j) (is_left (cell_at fresh j).shape && is_right (cell_at fresh (suc j)).shape)
    (right_follows fresh j)) narrow

pub put_narrow_is : (at : ℕ) (fresh cells line : List Cell) → at + length fresh ≤ length cells → 0 < length fresh
    → IsPaired cells → length (cut_of (at + length fresh) (cut_of at cells)) ≡ length cells
    → IsPut at fresh (cut_of (at + length fresh) (cut_of at cells)) line → AreNarrow fresh
    → line ≡ cells_from (spliced at fresh (at + length fresh) (length cells)) cells
put_narrow_is at fresh cells line room some paired same is narrow =
    put_is at fresh cells room some paired line (is.width ∙ same)
    (λ k h. ⊎_elim (λ a. is.front k a) (λ b. is.rest k b) h)
    (λ j h. is.placed j h ∙ sym (whole_narrow fresh j (narrow j (omega arith) h)))

-- a cell that keeps its shape
pub IsPaired-set : (cells : List Cell) (column : ℕ) (cell : Cell) → cell.shape ≡ (cell_at cells column).shape
    → IsPaired cells → IsPaired (set cells column cell)
IsPaired-set cells column cell same paired = IsPaired-shapes cells (set cells column cell) (λ k. ⊎_elim
    (λ (e : k ≡ column). ⊎_elim
    (λ (inside : column < length cells). ap (λ i. (cell_at cells i).shape) e ∙ sym same
    ∙ sym
    (ap (λ i. (cell_at (set cells column cell) i).shape) e
    ∙ ap (λ (x : Cell). x.shape) (get_or-set_same cells column cell blank inside)))
    (λ (past : length cells ≤ column). let p : length cells ≤ k = omega arith in
    ap (λ (x : Cell). x.shape)
    (cell_at_past cells k p ∙ sym (cell_at_past (set cells column cell) k (rw (length-set cells column cell) p))))
    (cases_lt column (length cells)))
    (λ (ne : k ≡ column → ⊥). sym (ap (λ (x : Cell). x.shape) (get_or-set_other cells column k cell blank ne)))
    (cases_eq k column)) paired

-- a run of characters of width 1
module _ (codes : List ℕ) (rendition : Rendition) (is_protected : Bool) where
  pub length-narrow_cells : length (narrow_cells codes rendition is_protected) ≡ length codes
  length-narrow_cells = length-map codes (λ code. narrow_cell code rendition is_protected)
