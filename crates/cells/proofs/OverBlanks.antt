-- New cells over a splice of as many blanks.
use Rattle.cells.proofs.Vocabulary.{◌≡◌, ℕ, ◌+◌, ◌-◌, ◌<◌, ◌≤◌, List, [], ◌∷◌, length, set, replicate, sym, ap, ◌∙◌}
use Rattle.cells.proofs.Vocabulary.{arith, ⊎_elim, ext_get_or, length-replicate, cases_lt, Cell, Narrow, Left, Right}
use Rattle.cells.proofs.Vocabulary.{blank, cell_at, IsPaired, Old, taken, cells_from, spliced, IsPut}
use Rattle.cells.proofs.Putting.{IsPut-more, IsPut-one}
use Rattle.cells.proofs.Settling.{length-cells_from}
use Rattle.cells.proofs.Splicing.{cell_at-plain_from, plain_from, at_front, at_fresh, at_rest, at_end, cut_thrice}
use Rattle.cells.proofs.Splicing.{length-cut_thrice, cells_from-spliced, IsPaired-blanks, narrow_pairs, wide_pairs}

-- new cells over a splice of as many blanks
module _ (at : ℕ) (fresh : List Cell) (rest : ℕ) (cells : List Cell) (order : at ≤ rest) (inside : rest ≤ length cells)
    (room : at + length fresh ≤ length cells)
    (changes : at < rest + length fresh) (paired : IsPaired cells) (pairs : IsPaired fresh) where
  abbrev over_fresh : List Cell
  over_fresh = cells_from (spliced at fresh rest (length cells)) cells

  abbrev over_blanks : List Cell
  over_blanks = cells_from (spliced at (replicate (length fresh) blank) rest (length cells)) cells

  n : length (replicate (length fresh) blank) ≡ length fresh
  n = length-replicate (length fresh) blank

  plain_over : (k : ℕ) → k < length cells
      → cell_at over_fresh k ≡ taken (cut_thrice at (length fresh) rest cells) (spliced at fresh rest (length cells) k)
  plain_over k h = ap (λ x. cell_at x k) (cells_from-spliced at fresh rest cells order inside room changes paired pairs)
      ∙ cell_at-plain_from (spliced at fresh rest (length cells)) (cut_thrice at (length fresh) rest cells) k
      (rw (length-cut_thrice at (length fresh) rest cells) h)

  plain_blanks : (k : ℕ) → k < length cells
      → cell_at over_blanks k ≡ taken (cut_thrice at (length fresh) rest cells)
      (spliced at (replicate (length fresh) blank) rest (length cells) k)
  plain_blanks k h = ap (λ x. cell_at x k)
      (cells_from-spliced at (replicate (length fresh) blank) rest cells order inside (rw n room) (rw n changes) paired
      (IsPaired-blanks (length fresh)))
      ∙ ap (λ w. cell_at
      (plain_from (spliced at (replicate (length fresh) blank) rest (length cells)) (cut_thrice at w rest cells)) k)
      n
      ∙ cell_at-plain_from (spliced at (replicate (length fresh) blank) rest (length cells))
      (cut_thrice at (length fresh) rest cells) k (rw (length-cut_thrice at (length fresh) rest cells) h)

  fresh_within : (k : ℕ) → at ≤ k → k < at + length fresh → cell_at over_fresh k ≡ cell_at fresh (k - at)
  fresh_within k h g = plain_over k (omega arith)
      ∙ ap (taken (cut_thrice at (length fresh) rest cells)) (at_fresh at fresh rest (length cells) k h g)

  fresh_front : (k : ℕ) → k < at → cell_at over_fresh k ≡ cell_at over_blanks k
  fresh_front k h = let i : k < length cells = omega arith in
      plain_over k i
      ∙ ap (taken (cut_thrice at (length fresh) rest cells))
      (at_front at fresh rest (length cells) k h
      ∙ sym (at_front at (replicate (length fresh) blank) rest (length cells) k h)) ∙ sym (plain_blanks k i)

  same_behind : (k : ℕ) → at + length fresh ≤ k
      → spliced at fresh rest (length cells) k ≡ spliced at (replicate (length fresh) blank) rest (length cells) k
  same_behind k h = let l : length (replicate (length fresh) blank) ≡ length fresh = n in let h' : at + length
      (replicate (length fresh) blank) ≤ k = omega arith in ⊎_elim
      (λ (old : k + rest < at + length fresh + length cells). at_rest at fresh rest (length cells) k h old
      ∙ ap (λ w. Old (k + rest - (at + w))) (sym n)
      ∙ sym (at_rest at (replicate (length fresh) blank) rest (length cells) k h' (omega arith)))
      (λ end. at_end at fresh rest (length cells) k h end
      ∙ sym (at_end at (replicate (length fresh) blank) rest (length cells) k h' (omega arith)))
      (cases_lt (k + rest) (at + length fresh + length cells))

  fresh_behind : (k : ℕ) → at + length fresh ≤ k → k < length cells → cell_at over_fresh k ≡ cell_at over_blanks k
  fresh_behind k h i = plain_over k i ∙ ap (taken (cut_thrice at (length fresh) rest cells)) (same_behind k h)
      ∙ sym (plain_blanks k i)

  -- a line with the new cells in place of the blanks
  pub put_over : (line : List Cell) → IsPut at fresh over_blanks line → line ≡ over_fresh
  put_over line put =
      let a : length over_blanks ≡ length cells = length-cells_from
      (spliced at (replicate (length fresh) blank) rest (length cells)) cells in
      let b : length over_fresh ≡ length cells = length-cells_from (spliced at fresh rest (length cells)) cells in
      ext_get_or blank line over_fresh (put.width ∙ a ∙ sym b) (λ k within.
      let i : k < length cells = omega (arith, put.width, a, within) in
      ⊎_elim
      (λ (front : k < at). put.front k front ∙ sym (fresh_front k front))
      (λ (past : at ≤ k). ⊎_elim
      (λ (new : k < at + length fresh). let e : at + (k - at) ≡ k = omega arith in
      ap (cell_at line) (sym e) ∙ put.placed (k - at) (omega arith) ∙ sym (fresh_within k past new))
      (λ (behind : at + length fresh ≤ k). put.rest k behind ∙ sym (fresh_behind k behind i))
      (cases_lt k (at + length fresh)))
      (cases_lt k at))

-- one new cell
pub put_one : (at : ℕ) (cell : Cell) (rest : ℕ) (cells : List Cell) → at ≤ rest → rest ≤ length cells
    → at + 1 ≤ length cells → IsPaired cells → cell.shape ≡ Narrow
    → set (cells_from (spliced at (replicate 1 blank) rest (length cells)) cells) at cell ≡ cells_from
    (spliced at (cell ∷ []) rest (length cells)) cells
put_one at cell rest cells order inside room paired shape =
    let over : List Cell = cells_from (spliced at (replicate 1 blank) rest (length cells)) cells in
    let n : length over ≡ length cells = length-cells_from (spliced at (replicate 1 blank) rest (length cells)) cells in
    put_over at (cell ∷ []) rest cells order inside room (omega arith) paired (narrow_pairs cell shape)
    (set over at cell) (IsPut-one at cell over (omega (arith, n, room)))

-- two halves
pub put_two : (at : ℕ) (l r : Cell) (rest : ℕ) (cells : List Cell) → at ≤ rest → rest ≤ length cells
    → at + 2 ≤ length cells → IsPaired cells → l.shape ≡ Left → r.shape ≡ Right
    → set (set (cells_from (spliced at (replicate 2 blank) rest (length cells)) cells) at l) (at + 1) r ≡ cells_from
    (spliced at (l ∷ r ∷ []) rest (length cells)) cells
put_two at l r rest cells order inside room paired hl hr =
    let over : List Cell = cells_from (spliced at (replicate 2 blank) rest (length cells)) cells in
    let n : length over ≡ length cells = length-cells_from (spliced at (replicate 2 blank) rest (length cells)) cells in
    put_over at (l ∷ r ∷ []) rest cells order inside room (omega arith) paired (wide_pairs l r hl hr)
    (set (set over at l) (at + 1) r)
    (IsPut-more at (l ∷ []) over (set over at l) r (IsPut-one at l over (omega (arith, n, room)))
    (omega (arith, n, room)))
