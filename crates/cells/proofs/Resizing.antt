-- The first cells of a line, put on a blank line of another width, make the resized line.
use Rattle.cells.proofs.Vocabulary.{◌≡◌, ℕ, zero, suc, ◌+◌, ◌-◌, ◌<◌, ◌≤◌, min, Bool, true, ◌&&◌, cond, List, length}
use Rattle.cells.proofs.Vocabulary.{take, replicate, refl, sym, ap, ◌∙◌, arith, ⊎_elim, eq-eqb, length-take}
use Rattle.cells.proofs.Vocabulary.{length-map-range_with_len, get_or-map-range_with_len, ext_get_or, get_or-take}
use Rattle.cells.proofs.Vocabulary.{get_or-replicate, length-replicate, cases_lt, Cell, Shape, Narrow, Left, Right}
use Rattle.cells.proofs.Vocabulary.{blank, cell_at, is_left, is_right, IsPaired, Source, Old, are_halves, kept, settled}
use Rattle.cells.proofs.Vocabulary.{source_before, source_after, cells_from, spliced, fresh_at, right_follows}
use Rattle.cells.proofs.Vocabulary.{line_resized}
use Rattle.cells.proofs.Settling.{cell_at_past, true≢false, settled_at, after_inside, after_last, length-cells_from}
use Rattle.cells.proofs.Settling.{cell_at-cells_from, and_false}
use Rattle.cells.proofs.Splicing.{at_rest}
use Rattle.cells.proofs.Putting.{settled_new}

pub length-line_resized : (width : ℕ) (cells : List Cell) → length (line_resized width cells) ≡ width
length-line_resized width cells = length-map-range_with_len _ 0 width

pub cell_at-line_resized : (width : ℕ) (cells : List Cell) (k : ℕ) → k < width
    → cell_at (line_resized width cells) k ≡ settled cells (source_before Old k) (Old k) (source_after Old width k)
cell_at-line_resized width cells k h = get_or-map-range_with_len _ 0 width k k blank h (omega arith)

-- which cell is kept depends only on the other half of a half
kept_same : (s : Shape) (cell : Cell) (p q p' q' : Bool) → (is_left s ≡ true → p ≡ p') → (is_right s ≡ true → q ≡ q')
    → kept s cell p q ≡ kept s cell p' q'
kept_same Narrow cell p q p' q' l r = refl
kept_same Left cell p q p' q' l r = ap (λ b. cond b cell blank) (l refl)
kept_same Right cell p q p' q' l r = ap (λ b. cond b cell blank) (r refl)

settled_blank : (source : ℕ → Source) (line : List Cell) (k : ℕ) → source k ≡ Old k → cell_at line k ≡ blank
    → settled_at source line k ≡ blank
unfolding settled_at
settled_blank source line k here b =
    ap (λ s. settled line (source_before source k) s (source_after source (length line) k)) here
    ∙ ap (λ (x : Cell). kept x.shape x (are_halves (Old k) (source_after source (length line) k))
    (are_halves (source_before source k) (Old k))) b

resized_blank : (width : ℕ) (cells : List Cell) (k : ℕ) → cell_at cells k ≡ blank
    → settled cells (source_before Old k) (Old k) (source_after Old width k) ≡ blank
resized_blank width cells k b = ap
    (λ (x : Cell). kept x.shape x (are_halves (Old k) (source_after Old width k))
    (are_halves (source_before Old k) (Old k))) b

module _ (width : ℕ) (cells fresh : List Cell) (paired : IsPaired cells)
    (first : fresh ≡ take (min width (length cells)) cells) where
  n_fresh : length fresh ≡ min width (length cells)
  n_fresh = ap length first ∙ simp length-take (omega arith)

  same_cell : (k : ℕ) → k < length fresh → cell_at fresh k ≡ cell_at cells k
  same_cell k h = let n = n_fresh in ap (λ x. cell_at x k) first
      ∙ get_or-take (min width (length cells)) cells k blank (omega arith)

  left_stays : (k : ℕ) → k < length fresh → is_left (cell_at cells k).shape ≡ true
      → is_left (cell_at fresh k).shape && is_right (cell_at fresh (suc k)).shape ≡ are_halves (Old k)
      (source_after Old width k)
  left_stays k h left = let n = n_fresh in ⊎_elim
      (λ (inside : suc k < width).
      let next : suc k < length cells = ⊎_elim (λ x. x)
      (λ past. absurd
      (true≢false _ (sym (paired.next k) ∙ left)
      (ap (λ (x : Cell). is_right x.shape) (cell_at_past cells (suc k) past)))) (cases_lt (suc k) (length cells)) in
      rw (
        same_cell k h,
        same_cell (suc k) (omega arith),
        ← (paired.next k),
        left,
        after_inside Old width k inside,
        eq-eqb (suc k) (suc k) refl,
      ) refl)
      (λ outside. let e : suc k ≡ width = omega arith in
      ap (λ (x : Cell). is_left (cell_at fresh k).shape && is_right x.shape) (cell_at_past fresh (suc k) (omega arith))
      ∙ and_false _ ∙ sym (ap (are_halves (Old k)) (after_last Old width k e)))
      (cases_lt (suc k) width)

  right_stays : (k : ℕ) → k < length fresh → is_right (cell_at cells k).shape ≡ true
      → right_follows fresh k ≡ are_halves (source_before Old k) (Old k)
  right_stays zero h right = absurd (true≢false _ right paired.first)
  right_stays (suc k) h right =
      rw (same_cell k (omega arith), same_cell (suc k) h, paired.next k, right, eq-eqb (suc k) (suc k) refl) refl

  fresh_is : (k : ℕ) → k < length fresh → fresh_at fresh k ≡ cell_at (line_resized width cells) k
  fresh_is k h = let n = n_fresh in
      ap (λ (x : Cell). kept x.shape x (is_left (cell_at fresh k).shape && is_right (cell_at fresh (suc k)).shape)
      (right_follows fresh k)) (same_cell k h)
      ∙ kept_same (cell_at cells k).shape (cell_at cells k) _ _ _ _ (left_stays k h) (right_stays k h)
      ∙ sym (cell_at-line_resized width cells k (omega arith))

  pub resized_is : (line : List Cell) → line ≡ replicate width blank
      → cells_from (spliced 0 fresh (0 + length fresh) (length line)) line ≡ line_resized width cells
  resized_is line blank_line =
      let n = n_fresh in
      let w : length line ≡ width = ap length blank_line ∙ length-replicate width blank in
      let room : 0 + length fresh ≤ length line = omega arith in
      let source : ℕ → Source = spliced 0 fresh (0 + length fresh) (length line) in
      let a : length (cells_from source line) ≡ length line = length-cells_from source line in
      ext_get_or blank (cells_from source line) (line_resized width cells)
      (a ∙ w ∙ sym (length-line_resized width cells)) (λ k h.
      let within : k < length line = rw a at h in
      cell_at-cells_from source line k within ∙ ⊎_elim
      (λ (new : k < length fresh). let e : 0 + k ≡ k = omega arith in
      ap (settled_at source line) (sym e) ∙ settled_new 0 fresh line room k new ∙ fresh_is k new)
      (λ (past : length fresh ≤ k). let e : k + (0 + length fresh) - (0 + length fresh) ≡ k = omega arith in
      let here : source k ≡ Old k = at_rest 0 fresh (0 + length fresh) (length line) k (omega arith) (omega arith)
      ∙ ap Old e in
      settled_blank source line k here
      (ap (λ x. cell_at x k) blank_line ∙ get_or-replicate width k blank blank (omega arith))
      ∙ sym
      (cell_at-line_resized width cells k (omega arith)
      ∙ resized_blank width cells k (cell_at_past cells k (omega arith))))
      (cases_lt k (length fresh)))
