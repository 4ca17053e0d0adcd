-- The columns that stay blank after the used ones.
use Rattle.cells.proofs.Vocabulary.{◌≡◌, ℕ, ◌+◌, ◌-◌, ◌<◌, ◌≤◌, max, Bool, true, false, ◌&&◌, cond, leb, ltb, not, suc}
use Rattle.cells.proofs.Vocabulary.{List, ◌++◌, length, take, drop, set, replicate, refl, sym, ap, ◌∙◌, subst, arith}
use Rattle.cells.proofs.Vocabulary.{⊎_elim, ext_get_or, take_at, length-replicate, get_or-replicate, length-set}
use Rattle.cells.proofs.Vocabulary.{get_or-set_other, length-append, length-drop, get_or-drop, get_or_append_left}
use Rattle.cells.proofs.Vocabulary.{get_or-append_right, cases_lt, Cell, Narrow, blank, cell_at, is_left, is_right}
use Rattle.cells.proofs.Vocabulary.{IsBlankFrom, IsUsed, Source, Fresh, Old, taken, are_halves, kept, settled}
use Rattle.cells.proofs.Vocabulary.{source_before, source_after, cells_from, spliced, unprotected_erased}
use Rattle.cells.proofs.Settling.{settled_at, cell_at_past, cell_at-cells_from, length-cells_from, IsPaired-cells_from}
use Rattle.cells.proofs.Splicing.{at_rest, at_end}
use Rattle.cells.proofs.Putting.{IsPaired-set}

-- a source that gives a blank
pub settled_blank : (cells : List Cell) (before here after : Source) → taken cells here ≡ blank
    → settled cells before here after ≡ blank
settled_blank cells before here after e = ap
    (λ (x : Cell). kept x.shape x (are_halves here after) (are_halves before here)) e

pub IsBlankFrom-cells_from : (source : ℕ → Source) (used : ℕ) (cells : List Cell)
    → ((k : ℕ) → used ≤ k → k < length cells → taken cells (source k) ≡ blank)
    → IsBlankFrom used (cells_from source cells)
unfolding settled_at
IsBlankFrom-cells_from source used cells each k h = ⊎_elim
    (λ (inside : k < length cells). cell_at-cells_from source cells k inside
    ∙ settled_blank cells (source_before source k) (source k) (source_after source (length cells) k)
    (each k h inside))
    (λ (past : length cells ≤ k). cell_at_past (cells_from source cells) k (rw (length-cells_from source cells) past))
    (cases_lt k (length cells))

-- the line after an edit is written back
pub IsUsed-stored : (source : ℕ → Source) (used next : ℕ) (new old items : List Cell) (len : ℕ) → length new ≡ len
    → new ≡ cells_from source old → old ≡ items → IsUsed used items
    → next ≤ length items → ((k : ℕ) → next ≤ k → k < length items → taken items (source k) ≡ blank)
    → IsUsed next (take len (new ++ drop (length new) items))
IsUsed-stored source used next new old items len n is same used_is inside each =
    let made : new ≡ cells_from source items = is ∙ ap (cells_from source) same in
    rw (take_at new (drop (length new) items) len n) (subst (IsUsed next) (sym made) (record {
      paired = IsPaired-cells_from source items used_is.paired;
      inside = rw (length-cells_from source items) inside;
      blank = IsBlankFrom-cells_from source next items each;
    }))

-- the columns after new cells, and after the old ones that follow them
pub spliced_behind : (at : ℕ) (fresh cells : List Cell) (rest used k : ℕ) → IsBlankFrom used cells
    → used - rest + (at + length fresh) ≤ k
    → taken cells (spliced at fresh rest (length cells) k) ≡ blank
spliced_behind at fresh cells rest used k blanks past = ⊎_elim
    (λ (inside : k + rest < at + length fresh + length cells). ap (taken cells)
    (at_rest at fresh rest (length cells) k (omega arith) inside)
    ∙ blanks (k + rest - (at + length fresh)) (omega arith))
    (λ (end : at + length fresh + length cells ≤ k + rest). ap (taken cells)
    (at_end at fresh rest (length cells) k (omega arith) end))
    (cases_lt (k + rest) (at + length fresh + length cells))

-- the line with new cells is written back
pub IsUsed-spliced : (at : ℕ) (fresh : List Cell) (rest used next : ℕ) (new old items : List Cell) (len : ℕ)
    → length new ≡ len → new ≡ cells_from (spliced at fresh rest (length old)) old → old ≡ items → IsUsed used items
    → next ≤ length items → ((k : ℕ) → next ≤ k → k < length items → used - rest + (at + length fresh) ≤ k)
    → IsUsed next (take len (new ++ drop (length new) items))
IsUsed-spliced at fresh rest used next new old items len n is same used_is inside past =
    IsUsed-stored (spliced at fresh rest (length old)) used next new old items len n is same used_is inside
    (λ k h within. ap (λ m. taken items (spliced at fresh rest m k)) (ap length same)
    ∙ spliced_behind at fresh items rest used k used_is.blank (past k h within))

-- erased columns are blank
pub erased_behind : (cells : List Cell) (from end used k : ℕ) → IsBlankFrom used cells → used ≤ k
    → taken cells (unprotected_erased cells from end k) ≡ blank
erased_behind cells from end used k blanks past = go (leb from k && ltb k end && not (cell_at cells k).is_protected)
  where
    go : (b : Bool) → taken cells (cond b (Fresh blank) (Old k)) ≡ blank
    go true = refl
    go false = blanks k past

-- a cell of the same shape in place of another
pub IsUsed-set : (cells : List Cell) (used column : ℕ) (cell : Cell) → column < length cells
    → cell.shape ≡ (cell_at cells column).shape → IsUsed used cells
    → IsUsed (max used (column + 1)) (set cells column cell)
IsUsed-set cells used column cell inside same used_is = record {
  paired = IsPaired-set cells column cell same used_is.paired;
  inside = rw (length-set cells column cell) (omega (arith, used_is.inside));
  blank = λ k h. get_or-set_other cells column k cell blank (omega arith) ∙ used_is.blank k (omega arith);
}

-- one cell, of width 1, in every column
pub IsUsed-filled : (count : ℕ) (cell : Cell) → cell.shape ≡ Narrow → IsUsed count (replicate count cell)
IsUsed-filled count cell narrow = record {
  paired = record {
    first = ap is_right (shape 0);
    next = λ k. ap is_left (shape k) ∙ sym (ap is_right (shape (suc k)));
  };
  inside = rw (length-replicate count cell) (omega arith);
  blank = λ k h. cell_at_past (replicate count cell) k (rw (length-replicate count cell) h);
}
  where
    shape : (k : ℕ) → (cell_at (replicate count cell) k).shape ≡ Narrow
    shape k = ⊎_elim
        (λ (h : k < count). ap (λ (x : Cell). x.shape) (get_or-replicate count k cell blank h) ∙ narrow)
        (λ (h : count ≤ k). ap (λ (x : Cell). x.shape)
        (cell_at_past (replicate count cell) k (rw (length-replicate count cell) h)))
        (cases_lt k count)

-- blanks in the used columns make the line blank
pub cleared_is : (used : ℕ) (cells : List Cell) → used ≤ length cells → IsBlankFrom used cells
    → replicate used blank ++ drop used cells ≡ replicate (length cells) blank
cleared_is used cells inside blanks =
    let n : length (replicate used blank ++ drop used cells) ≡ length cells = rw
    (length-append (replicate used blank) (drop used cells), length-replicate used blank, length-drop used cells)
    (omega arith) in
    ext_get_or blank (replicate used blank ++ drop used cells) (replicate (length cells) blank)
    (n ∙ sym (length-replicate (length cells) blank)) (λ k h.
    let within : k < length cells = rw n at h in
    ⊎_elim
    (λ (front : k < used). get_or_append_left (replicate used blank) (drop used cells) blank k
    (rw (length-replicate used blank) front) ∙ get_or-replicate used k blank blank front)
    (λ (back : used ≤ k). let e : used + (k - used) ≡ k = omega arith in
    get_or-append_right (replicate used blank) (drop used cells) used k blank (length-replicate used blank) back
    ∙ get_or-drop used cells (k - used) blank ∙ ap (cell_at cells) e ∙ blanks k back)
    (cases_lt k used)
    ∙ sym (get_or-replicate (length cells) k blank blank within))
