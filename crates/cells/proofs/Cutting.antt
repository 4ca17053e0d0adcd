-- A cut at a boundary keeps halves paired, and leaves no wide character across it.
use Rattle.cells.proofs.Vocabulary.{◌≡◌, ℕ, suc, ◌-◌, ◌<◌, true, false, List, length, set, refl, sym, ap, ◌∙◌, arith}
use Rattle.cells.proofs.Vocabulary.{⊎_elim, get_or-set_same, get_or-set_other, length-set, cases_lt, cases_eq}
use Rattle.cells.proofs.Vocabulary.{cases_Bool, Cell, Shape, blank, cell_at, is_left, is_right, IsPaired, cut_of}
use Rattle.cells.proofs.Settling.{cell_at_past, true≢false, right_only, left_only}

left_not_right : (s : Shape) → is_left s ≡ true → is_right s ≡ false
left_not_right s h = rw (left_only s h) refl

right_not_left : (s : Shape) → is_right s ≡ true → is_left s ≡ false
right_not_left s h = rw (right_only s h) refl

-- a right half has a column before it
pub before_right : (at : ℕ) (cells : List Cell) → IsPaired cells → is_right (cell_at cells at).shape ≡ true → 0 < at
before_right at cells paired right = ⊎_elim (λ h. h)
    (λ h. let e : at ≡ 0 = omega arith in absurd (true≢false _ right (rw e paired.first))) (cases_lt 0 at)

-- a right half is a cell of the line
pub right_inside : (at : ℕ) (cells : List Cell) → is_right (cell_at cells at).shape ≡ true → at < length cells
right_inside at cells right = ⊎_elim (λ h. h)
    (λ h. absurd (true≢false _ right (ap (λ (x : Cell). is_right x.shape) (cell_at_past cells at h))))
    (cases_lt at (length cells))

module _ (cells : List Cell) (at : ℕ) (paired : IsPaired cells) (right : is_right (cell_at cells at).shape ≡ true) where
  above : 0 < at
  above = before_right at cells paired right

  inside : at < length cells
  inside = right_inside at cells right

  there : cell_at (set (set cells (at - 1) blank) at blank) at ≡ blank
  there = get_or-set_same _ at blank blank (rw (length-set cells (at - 1) blank) inside)

  before : cell_at (set (set cells (at - 1) blank) at blank) (at - 1) ≡ blank
  before = let a = above in let i = inside in
      let ne : at - 1 ≡ at → ⊥ = omega arith in
      get_or-set_other (set cells (at - 1) blank) at (at - 1) blank blank ne
      ∙ get_or-set_same cells (at - 1) blank blank (omega arith)

  elsewhere : (column : ℕ) → (column ≡ at → ⊥) → (column ≡ at - 1 → ⊥)
      → cell_at (set (set cells (at - 1) blank) at blank) column ≡ cell_at cells column
  elsewhere column n m = get_or-set_other (set cells (at - 1) blank) at column blank blank n
      ∙ get_or-set_other cells (at - 1) column blank blank m

  left_before : is_left (cell_at cells (at - 1)).shape ≡ true
  left_before = let a = above in let e : suc (at - 1) ≡ at = omega arith in paired.next (at - 1) ∙ rw e right

  paired_cut : IsPaired (set (set cells (at - 1) blank) at blank)
  paired_cut = record {
    first = ⊎_elim
        (λ (e : 0 ≡ at - 1). ap (λ (x : Cell). is_right x.shape)
        (ap (cell_at (set (set cells (at - 1) blank) at blank)) e ∙ before))
        (λ ne. let a = above in ap (λ (x : Cell). is_right x.shape) (elsewhere 0 (omega arith) ne) ∙ paired.first)
        (cases_eq 0 (at - 1));
    next = λ column. let a = above in ⊎_elim
        (λ (e : column ≡ at). let far : suc column ≡ at → ⊥ = omega arith in let far2 : suc column ≡ at - 1
        → ⊥ = omega arith in
        ap (λ (x : Cell). is_left x.shape) (ap (cell_at (set (set cells (at - 1) blank) at blank)) e ∙ there)
        ∙ sym
        (ap (λ (x : Cell). is_right x.shape) (elsewhere (suc column) far far2) ∙ sym (paired.next column)
        ∙ rw e (right_not_left _ right)))
        (λ ne. ⊎_elim
        (λ (e : column ≡ at - 1). let e2 : suc column ≡ at = omega arith in
        ap (λ (x : Cell). is_left x.shape) (ap (cell_at (set (set cells (at - 1) blank) at blank)) e ∙ before)
        ∙ sym (ap (λ (x : Cell). is_right x.shape) (ap (cell_at (set (set cells (at - 1) blank) at blank)) e2 ∙ there)))
        (λ ne2. let far : suc column ≡ at → ⊥ = omega arith in ⊎_elim
        (λ (e : suc column ≡ at - 1).
        ap (λ (x : Cell). is_left x.shape) (elsewhere column ne ne2) ∙ paired.next column
        ∙ rw e (left_not_right _ left_before)
        ∙ sym (ap (λ (x : Cell). is_right x.shape) (ap (cell_at (set (set cells (at - 1) blank) at blank)) e ∙ before)))
        (λ ne3. ap (λ (x : Cell). is_left x.shape) (elsewhere column ne ne2) ∙ paired.next column
        ∙ sym (ap (λ (x : Cell). is_right x.shape) (elsewhere (suc column) far ne3)))
        (cases_eq (suc column) (at - 1)))
        (cases_eq column (at - 1)))
        (cases_eq column at);
  }

  fewer_cut : (column : ℕ) → is_right (cell_at cells column).shape ≡ false
      → is_right (cell_at (set (set cells (at - 1) blank) at blank) column).shape ≡ false
  fewer_cut column h = ⊎_elim
      (λ (e : column ≡ at). ap (λ (x : Cell). is_right x.shape)
      (ap (cell_at (set (set cells (at - 1) blank) at blank)) e ∙ there))
      (λ ne. ⊎_elim
      (λ (e : column ≡ at - 1). ap (λ (x : Cell). is_right x.shape)
      (ap (cell_at (set (set cells (at - 1) blank) at blank)) e ∙ before))
      (λ ne2. ap (λ (x : Cell). is_right x.shape) (elsewhere column ne ne2) ∙ h)
      (cases_eq column (at - 1)))
      (cases_eq column at)

pub IsPaired-cut_of : (at : ℕ) (cells : List Cell) → IsPaired cells → IsPaired (cut_of at cells)
IsPaired-cut_of at cells paired = ⊎_elim
    (λ (e : is_right (cell_at cells at).shape ≡ true). rw e (paired_cut cells at paired e))
    (λ (e : is_right (cell_at cells at).shape ≡ false). rw e paired)
    (cases_Bool (is_right (cell_at cells at).shape))

pub right-cut_of_same : (at : ℕ) (cells : List Cell) → IsPaired cells
    → is_right (cell_at (cut_of at cells) at).shape ≡ false
right-cut_of_same at cells paired = ⊎_elim
    (λ (e : is_right (cell_at cells at).shape ≡ true). rw e
    (ap (λ (x : Cell). is_right x.shape) (there cells at paired e)))
    (λ (e : is_right (cell_at cells at).shape ≡ false). rw e e)
    (cases_Bool (is_right (cell_at cells at).shape))

pub right-cut_of_other : (at : ℕ) (cells : List Cell) → IsPaired cells → (column : ℕ)
    → is_right (cell_at cells column).shape ≡ false → is_right (cell_at (cut_of at cells) column).shape ≡ false
right-cut_of_other at cells paired column h = ⊎_elim
    (λ (e : is_right (cell_at cells at).shape ≡ true). rw e (fewer_cut cells at paired e column h))
    (λ (e : is_right (cell_at cells at).shape ≡ false). rw e h)
    (cases_Bool (is_right (cell_at cells at).shape))
