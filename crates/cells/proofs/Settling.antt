-- The cell of each column of `cells_from`, which keeps halves paired.
use Rattle.cells.proofs.Vocabulary.{◌≡◌, ℕ, zero, suc, ◌-◌, ◌<◌, ◌≤◌, Bool, true, false, ◌&&◌, cond, eqb, List, length}
use Rattle.cells.proofs.Vocabulary.{set, refl, sym, ap, ◌∙◌, arith, ⊎_elim, eq-eqb, length-map-range_with_len}
use Rattle.cells.proofs.Vocabulary.{get_or-map-range_with_len, get_or_past, ext_get_or, get_or-set_same}
use Rattle.cells.proofs.Vocabulary.{get_or-set_other, length-set, cases_lt, cases_eq, cases_Bool, ne_eqb, Cell, Shape}
use Rattle.cells.proofs.Vocabulary.{Narrow, Left, Right, blank, cell_at, is_left, is_right, IsPaired, Source, Fresh}
use Rattle.cells.proofs.Vocabulary.{Old, taken, are_halves, kept, settled, source_before, source_after, cells_from}
use Rattle.cells.proofs.Vocabulary.{cut_of}

pub length-cells_from : (source : ℕ → Source) (cells : List Cell) → length (cells_from source cells) ≡ length cells
length-cells_from source cells = length-map-range_with_len _ 0 (length cells)

-- the cell of a column
unfoldable pub settled_at : (ℕ → Source) → List Cell → ℕ → Cell
settled_at source cells column = settled cells (source_before source column) (source column)
    (source_after source (length cells) column)

pub cell_at-cells_from : (source : ℕ → Source) (cells : List Cell) (column : ℕ) → column < length cells
    → cell_at (cells_from source cells) column ≡ settled_at source cells column
unfolding settled_at
cell_at-cells_from source cells column h = get_or-map-range_with_len _ 0 (length cells) column column blank h
    (omega arith)

pub cell_at_past : (cells : List Cell) (column : ℕ) → length cells ≤ column → cell_at cells column ≡ blank
cell_at_past cells column h = get_or_past cells column blank h

pub left_kept : (s : Shape) (cell : Cell) (p q : Bool) → cell.shape ≡ s
    → is_left (kept s cell p q).shape ≡ is_left s && p
left_kept Narrow cell p q h = ap is_left h
left_kept Left cell true q h = ap is_left h
left_kept Left cell false q h = refl
left_kept Right cell p true h = ap is_left h
left_kept Right cell p false h = refl

pub right_kept : (s : Shape) (cell : Cell) (p q : Bool) → cell.shape ≡ s
    → is_right (kept s cell p q).shape ≡ is_right s && q
right_kept Narrow cell p q h = ap is_right h
right_kept Left cell true q h = ap is_right h
right_kept Left cell false q h = refl
right_kept Right cell p true h = ap is_right h
right_kept Right cell p false h = refl

left_settled : (cells : List Cell) (before here after : Source)
    → is_left (settled cells before here after).shape ≡ is_left (taken cells here).shape && are_halves here after
left_settled cells before here after = left_kept (taken cells here).shape (taken cells here) (are_halves here after)
    (are_halves before here) refl

right_settled : (cells : List Cell) (before here after : Source)
    → is_right (settled cells before here after).shape ≡ is_right (taken cells here).shape && are_halves before here
right_settled cells before here after = right_kept (taken cells here).shape (taken cells here) (are_halves here after)
    (are_halves before here) refl

pub and_false : (p : Bool) → p && false ≡ false
and_false true = refl
and_false false = refl

pub same_side : (p q : Bool) → p && (p && q) ≡ q && (p && q)
same_side true true = refl
same_side true false = refl
same_side false true = refl
same_side false false = refl

-- the two halves of one pair of sources
halves_agree : (cells : List Cell) → IsPaired cells → (a b : Source)
    → is_left (taken cells a).shape && are_halves a b ≡ is_right (taken cells b).shape && are_halves a b
halves_agree cells paired (Fresh l) (Fresh r) = same_side (is_left l.shape) (is_right r.shape)
halves_agree cells paired (Fresh l) (Old d) = and_false _ ∙ sym (and_false _)
halves_agree cells paired (Old c) (Fresh r) = and_false _ ∙ sym (and_false _)
halves_agree cells paired (Old c) (Old d) = ⊎_elim
    (λ (e : suc c ≡ d). ap (λ x. is_left (cell_at cells c).shape && eqb (suc c) x) (sym e)
    ∙ ap (λ x. x && eqb (suc c) (suc c)) (paired.next c)
    ∙ ap (λ x. is_right (cell_at cells x).shape && eqb (suc c) x) e)
    (λ ne. rw (ne_eqb (suc c) d ne) (and_false _ ∙ sym (and_false _)))
    (cases_eq (suc c) d)

fresh_last : (cells : List Cell) (a : Source) → is_left (taken cells a).shape && are_halves a (Fresh blank) ≡ false
fresh_last cells (Fresh l) = ap (λ x. is_left l.shape && x) (and_false _) ∙ and_false _
fresh_last cells (Old c) = and_false _

fresh_first : (cells : List Cell) (b : Source) → is_right (taken cells b).shape && are_halves (Fresh blank) b ≡ false
fresh_first cells (Fresh r) = and_false _
fresh_first cells (Old c) = and_false _

pub after_inside : (source : ℕ → Source) (width column : ℕ) → suc column < width
    → source_after source width column ≡ source (suc column)
after_inside source width column h = rw (ne_eqb (suc column) width (omega arith)) refl

pub after_last : (source : ℕ → Source) (width column : ℕ) → suc column ≡ width
    → source_after source width column ≡ Fresh blank
after_last source width column h = rw (eq-eqb (suc column) width h) refl

-- halves stay paired, whatever the sources are
pub IsPaired-cells_from : (source : ℕ → Source) (cells : List Cell) → IsPaired cells
    → IsPaired (cells_from source cells)
unfolding settled_at
IsPaired-cells_from source cells paired = record {
  first = ⊎_elim
      (λ h. ap (λ x. is_right x.shape) (cell_at-cells_from source cells 0 h)
      ∙ right_settled cells (Fresh blank) (source 0) _ ∙ fresh_first cells (source 0))
      (λ h. ap (λ x. is_right x.shape)
      (cell_at_past (cells_from source cells) 0 (rw (length-cells_from source cells) h)))
      (cases_lt 0 (length cells));
  next = λ column. ⊎_elim
      (λ inside. ap (λ x. is_left x.shape) (cell_at-cells_from source cells column (omega arith))
      ∙ left_settled cells _ (source column) _
      ∙ ap (λ x. is_left (taken cells (source column)).shape && are_halves (source column) x)
      (after_inside source (length cells) column inside)
      ∙ halves_agree cells paired (source column) (source (suc column))
      ∙ sym (right_settled cells (source column) (source (suc column)) _)
      ∙ sym (ap (λ x. is_right x.shape) (cell_at-cells_from source cells (suc column) inside)))
      (λ outside. ⊎_elim
      (λ last. ap (λ x. is_left x.shape) (cell_at-cells_from source cells column last)
      ∙ left_settled cells _ (source column) _
      ∙ ap (λ x. is_left (taken cells (source column)).shape && are_halves (source column) x)
      (after_last source (length cells) column (omega arith))
      ∙ fresh_last cells (source column)
      ∙ sym
      (ap (λ x. is_right x.shape)
      (cell_at_past (cells_from source cells) (suc column) (rw (length-cells_from source cells) outside))))
      (λ past. ap (λ x. is_left x.shape)
      (cell_at_past (cells_from source cells) column (rw (length-cells_from source cells) past))
      ∙ sym
      (ap (λ x. is_right x.shape)
      (cell_at_past (cells_from source cells) (suc column) (rw (length-cells_from source cells) outside))))
      (cases_lt column (length cells)))
      (cases_lt (suc column) (length cells));
}

-- a line with the right cells is the line from the sources
pub cells_from-is : (source : ℕ → Source) (cells line : List Cell) → length line ≡ length cells
    → ((column : ℕ) → column < length cells → cell_at line column ≡ settled_at source cells column)
    → line ≡ cells_from source cells
cells_from-is source cells line h each = ext_get_or blank line (cells_from source cells)
    (h ∙ sym (length-cells_from source cells)) (λ column inside.
    each column (rw h at inside) ∙ sym (cell_at-cells_from source cells column (rw h at inside)))

-- lines that have the same cells at the sources
pub cells_from-agree : (source : ℕ → Source) (line other : List Cell) → length line ≡ length other
    → ((column : ℕ) → column < length other → taken line (source column) ≡ taken other (source column))
    → cells_from source line ≡ cells_from source other
unfolding settled_at
cells_from-agree source line other same each =
    cells_from-is source other (cells_from source line) (length-cells_from source line ∙ same) (λ column inside.
    cell_at-cells_from source line column (rw same inside)
    ∙ ap
    (λ (x : Cell). kept x.shape x (are_halves (source column) (source_after source (length line) column))
    (are_halves (source_before source column) (source column)))
    (each column inside)
    ∙ ap (λ n. settled other (source_before source column) (source column) (source_after source n column)) same)

-- a cell stays if its other half comes along
pub kept_is : (s : Shape) (cell : Cell) (p q : Bool) → (is_left s ≡ true → p ≡ true) → (is_right s ≡ true → q ≡ true)
    → kept s cell p q ≡ cell
kept_is Narrow cell p q l r = refl
kept_is Left cell p q l r = rw (l refl) refl
kept_is Right cell p q l r = rw (r refl) refl

-- no two neighbouring columns bring both halves across the boundary before `at` along
pub record Tears (source : ℕ → Source) (width at : ℕ) : Type 0 where
  pub apart : (column : ℕ) → suc column < width → source column ≡ Old (at - 1) → source (suc column) ≡ Old at → ⊥

no_left : (b : Source) (at : ℕ) → 0 < at → (b ≡ Old (at - 1) → ⊥) → are_halves b (Old at) ≡ false
no_left (Fresh l) at h apart = refl
no_left (Old d) at h apart = ne_eqb (suc d) at (λ e. apart (ap Old (omega arith)))

no_right : (a : Source) (at : ℕ) → 0 < at → (a ≡ Old at → ⊥) → are_halves (Old (at - 1)) a ≡ false
no_right (Fresh l) at h apart = refl
no_right (Old d) at h apart = ne_eqb (suc (at - 1)) d (λ e. apart (ap Old (omega arith)))

pub right_only : (s : Shape) → is_right s ≡ true → s ≡ Right
right_only Narrow h = cc
right_only Left h = cc
right_only Right h = refl

pub left_only : (s : Shape) → is_left s ≡ true → s ≡ Left
left_only Narrow h = cc
left_only Left h = refl
left_only Right h = cc

pub cut_cells : ℕ → List Cell → List Cell
cut_cells at cells = set (set cells (at - 1) blank) at blank

settled_cut : (cells : List Cell) (at : ℕ) (b h a : Source) → IsPaired cells → 0 < at → at < length cells
    → is_right (cell_at cells at).shape ≡ true → (h ≡ Old at → b ≡ Old (at - 1) → ⊥)
    → (h ≡ Old (at - 1) → a ≡ Old at → ⊥) → settled (cut_cells at cells) b h a ≡ settled cells b h a
unfolding cut_cells
settled_cut cells at b (Fresh x) a paired above inside right l r = refl
settled_cut cells at b (Old c) a paired above inside right l r = ⊎_elim
    (λ (e : c ≡ at).
    let here : cell_at (set (set cells (at - 1) blank) at blank) c ≡ blank = rw e
    (get_or-set_same _ at blank blank (rw (length-set cells (at - 1) blank) inside)) in
    let torn : are_halves b (Old c) ≡ false = rw e (no_left b at above (l (ap Old e))) in
    let shape : (cell_at cells c).shape ≡ Right = rw e (right_only _ right) in
    rw (here, shape, torn) refl)
    (λ ne. ⊎_elim
    (λ (e : c ≡ at - 1).
    let here : cell_at (set (set cells (at - 1) blank) at blank) c ≡ blank = rw
    (get_or-set_other (set cells (at - 1) blank) at c blank blank ne, e)
    (get_or-set_same cells (at - 1) blank blank (omega arith)) in
    let torn : are_halves (Old c) a ≡ false = rw e (no_right a at above (r (ap Old e))) in
    let after : suc c ≡ at = omega arith in
    let shape : (cell_at cells c).shape ≡ Left = left_only _ (paired.next c ∙ rw after right) in
    rw (here, shape, torn) refl)
    (λ (other : c ≡ at - 1 → ⊥).
    rw (
      get_or-set_other (set cells (at - 1) blank) at c blank blank ne,
      get_or-set_other cells (at - 1) c blank blank
          other,
    ) refl)
    (cases_eq c (at - 1)))
    (cases_eq c at)

torn_before : (source : ℕ → Source) (width at : ℕ) → Tears source width at → (column : ℕ) → column < width
    → source column ≡ Old at → source_before source column ≡ Old (at - 1) → ⊥
torn_before source width at tears zero inside here before = cc
torn_before source width at tears (suc column) inside here before = tears.apart column inside before here

torn_after : (source : ℕ → Source) (width at : ℕ) → Tears source width at → (column : ℕ) → column < width
    → source column ≡ Old (at - 1) → source_after source width column ≡ Old at → ⊥
torn_after source width at tears column inside here after = ⊎_elim
    (λ h. tears.apart column h here (sym (after_inside source width column h) ∙ after))
    (λ h. let none = after_last source width column (omega arith) in cc)
    (cases_lt (suc column) width)

pub true≢false : (b : Bool) → b ≡ true → b ≡ false → ⊥
true≢false b t f = cc

-- if the sources tear the boundary before `at`, a cut there changes nothing
pub cells_from-cut : (source : ℕ → Source) (cells : List Cell) (at : ℕ) → IsPaired cells
    → Tears source (length cells) at → cells_from source (cut_of at cells) ≡ cells_from source cells
unfolding settled_at cut_cells
cells_from-cut source cells at paired tears = ⊎_elim
    (λ (right : is_right (cell_at cells at).shape ≡ true).
    let above : 0 < at = ⊎_elim (λ h. h)
    (λ h. let e : at ≡ 0 = omega arith in absurd (true≢false _ right (rw e paired.first))) (cases_lt 0 at) in
    let inside : at < length cells = ⊎_elim (λ h. h)
    (λ h. absurd (true≢false _ right (ap (λ (x : Cell). is_right x.shape) (cell_at_past cells at h))))
    (cases_lt at (length cells)) in
    let len : length (set (set cells (at - 1) blank) at blank) ≡ length cells = length-set _ at blank
    ∙ length-set cells (at - 1) blank in
    rw right
    (sym
    (cells_from-is source (set (set cells (at - 1) blank) at blank) (cells_from source cells)
    (length-cells_from source cells ∙ sym len)
    (λ column h.
    let h' : column < length cells = rw len at h in
    cell_at-cells_from source cells column h'
    ∙ sym
    (settled_cut cells at (source_before source column) (source column) (source_after source (length cells) column)
    paired above inside right
    (torn_before source (length cells) at tears column h') (torn_after source (length cells) at tears column h'))
    ∙ ap (λ n. settled (set (set cells (at - 1) blank) at blank) (source_before source column) (source column)
    (source_after source n column)) (sym len)))))
    (λ (none : is_right (cell_at cells at).shape ≡ false). rw none refl)
    (cases_Bool (is_right (cell_at cells at).shape))

pub length-cut_of : (at : ℕ) (cells : List Cell) → length (cut_of at cells) ≡ length cells
length-cut_of at cells = go (is_right (cell_at cells at).shape)
  where
    go : (b : Bool) → length (cond b (set (set cells (at - 1) blank) at blank) cells) ≡ length cells
    go true = length-set _ at blank ∙ length-set cells (at - 1) blank
    go false = refl
