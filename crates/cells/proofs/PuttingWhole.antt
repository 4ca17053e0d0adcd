-- New cells over as many old ones where no wide character is torn, and no new cells at all.
use Rattle.cells.proofs.Vocabulary.{◌≡◌, ℕ, suc, ◌+◌, ◌-◌, ◌<◌, ◌≤◌, min, false, List, [], ◌∷◌, length, set, sym, ap}
use Rattle.cells.proofs.Vocabulary.{◌∙◌, arith, ⊎_elim, ext_get_or, cases_lt, Cell, Narrow, Left, Right, blank, cell_at}
use Rattle.cells.proofs.Vocabulary.{is_left, is_right, IsPaired, Source, Old, taken, cells_from, spliced, IsPut}
use Rattle.cells.proofs.Settling.{cell_at_past}
use Rattle.cells.proofs.Pages.{cells_from-old}
use Rattle.cells.proofs.Putting.{IsPut-more, IsPut-one}
use Rattle.cells.proofs.Erasing.{cells_from-same}
use Rattle.cells.proofs.Splicing.{plain_spliced, plain_from, cell_at-plain_from, length-plain_from, at_front, at_fresh}
use Rattle.cells.proofs.Splicing.{at_rest, narrow_pairs, wide_pairs}

-- if nothing is torn, the other cells stay
pub put_plain : (at : ℕ) (fresh cells line : List Cell) → at + length fresh ≤ length cells → IsPaired cells
    → IsPaired fresh → is_right (cell_at cells at).shape ≡ false
    → is_right (cell_at cells (at + length fresh)).shape ≡ false → IsPut at fresh cells line
    → line ≡ cells_from (spliced at fresh (at + length fresh) (length cells)) cells
put_plain at fresh cells line room paired pairs whole_at whole_rest put =
    let rest : ℕ = at + length fresh in
    let end : rest + min (length cells - rest) (length cells - rest) ≡ length cells = omega arith in
    let whole_end : is_right (cell_at cells (rest + min (length cells - rest) (length cells - rest))).shape ≡ false =
    rw end (ap (λ (x : Cell). is_right x.shape) (cell_at_past cells (length cells) (omega arith))) in
    let source : ℕ → Source = spliced at fresh rest (length cells) in
    ext_get_or blank line (plain_from source cells) (put.width ∙ sym (length-plain_from source cells)) (λ k h.
    let within : k < length cells = rw put.width at h in
    ⊎_elim
    (λ (before : k < at). put.front k before ∙ sym (ap (taken cells) (at_front at fresh rest (length cells) k before)))
    (λ (past : at ≤ k). ⊎_elim
    (λ (inside : k < at + length fresh). let f : at + (k - at) ≡ k = omega arith in
    ap (cell_at line) (sym f) ∙ put.placed (k - at) (omega arith)
    ∙ sym (ap (taken cells) (at_fresh at fresh rest (length cells) k past inside)))
    (λ (behind : at + length fresh ≤ k). let e : k + rest - (at + length fresh) ≡ k = omega arith in
    put.rest k behind
    ∙ sym (ap (taken cells) (at_rest at fresh rest (length cells) k behind (omega arith)) ∙ ap (cell_at cells) e))
    (cases_lt k (at + length fresh)))
    (cases_lt k at) ∙ sym (cell_at-plain_from source cells k within))
    ∙ plain_spliced at fresh rest cells (omega arith) (omega arith) room paired pairs whole_at whole_rest whole_end

-- a cell of width 1 over another one
pub put_narrow_plain : (at : ℕ) (cell : Cell) (cells : List Cell) → at + 1 ≤ length cells → IsPaired cells
    → cell.shape ≡ Narrow → (cell_at cells at).shape ≡ Narrow
    → set cells at cell ≡ cells_from (spliced at (cell ∷ []) (at + 1) (length cells)) cells
put_narrow_plain at cell cells room paired new old =
    put_plain at (cell ∷ []) cells (set cells at cell) room paired (narrow_pairs cell new) (ap is_right old)
    (let e : at + 1 ≡ suc at = omega arith in rw e (sym (paired.next at) ∙ ap is_left old))
    (IsPut-one at cell cells (omega arith))

-- both halves over cells, if none is torn
pub put_wide_plain : (at : ℕ) (l r : Cell) (cells : List Cell) → at + 2 ≤ length cells → IsPaired cells → l.shape ≡ Left
    → r.shape ≡ Right
    → is_right (cell_at cells at).shape ≡ false → is_left (cell_at cells (at + 1)).shape ≡ false
    → set (set cells at l) (at + 1) r ≡ cells_from (spliced at (l ∷ r ∷ []) (at + 2) (length cells)) cells
put_wide_plain at l r cells room paired hl hr before after =
    put_plain at (l ∷ r ∷ []) cells (set (set cells at l) (at + 1) r) room paired (wide_pairs l r hl hr) before
    (let e : at + 2 ≡ suc (at + 1) = omega arith in rw e (sym (paired.next (at + 1)) ∙ after))
    (IsPut-more at (l ∷ []) cells (set cells at l) r (IsPut-one at l cells (omega arith)) (omega arith))

-- without new cells nothing changes
pub put_none : (at : ℕ) (fresh cells : List Cell) → length fresh ≡ 0 → IsPaired cells
    → cells ≡ cells_from (spliced at fresh (at + length fresh) (length cells)) cells
put_none at fresh cells none paired = sym
    (cells_from-same (spliced at fresh (at + length fresh) (length cells)) Old cells (λ k within. ⊎_elim
    (λ (front : k < at). at_front at fresh (at + length fresh) (length cells) k front)
    (λ (past : at ≤ k). let e : k + (at + length fresh) - (at + length fresh) ≡ k = omega arith in
    at_rest at fresh (at + length fresh) (length cells) k (omega arith) (omega arith) ∙ ap Old e)
    (cases_lt k at))
    ∙ cells_from-old cells paired)
