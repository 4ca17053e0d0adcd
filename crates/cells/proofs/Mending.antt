-- New cells put over old ones, and the torn halves beside them blanked after that.
use Rattle.cells.proofs.Vocabulary.{◌≡◌, ℕ, ◌+◌, ◌-◌, ◌<◌, ◌≤◌, Bool, true, false, cond, List, length, set, sym, ap}
use Rattle.cells.proofs.Vocabulary.{◌∙◌, ◌⊎◌, inr, subst, arith, ⊎_elim, ext_get_or, length-set, get_or-set_same}
use Rattle.cells.proofs.Vocabulary.{get_or-set_other, cases_lt, cases_eq, cases_Bool, Cell, blank, cell_at, is_right}
use Rattle.cells.proofs.Vocabulary.{IsPaired, cells_spliced, cut_of, fresh_at, IsPut, mended}
use Rattle.cells.proofs.Cutting.{before_right, right_inside}
use Rattle.cells.proofs.Settling.{length-cut_of}
use Rattle.cells.proofs.Putting.{put_is}
use Rattle.cells.proofs.PuttingWhole.{put_none}

module _ (at : ℕ) (fresh old line : List Cell) (is : IsPut at fresh old line) (some : 0 < length fresh)
    (room : at + length fresh ≤ length old) (paired : IsPaired old) where
  abbrev is_cut : Bool
  is_cut = is_right (cell_at old at).shape

  abbrev end : ℕ
  end = at + length fresh

  abbrev IsOutside : ℕ → Type 0
  IsOutside k = (k < at) ⊎ (end ≤ k)

  -- the line with the half before the new cells blanked
  abbrev front : List Cell
  front = cond is_cut (set line (at - 1) blank) line

  abbrev is_cut_behind : Bool
  is_cut_behind = is_right (cell_at front end).shape

  abbrev whole : List Cell
  whole = mended at end is_cut line

  same : (k : ℕ) → IsOutside k → cell_at line k ≡ cell_at old k
  same k h = ⊎_elim (λ a. is.front k a) (λ b. is.rest k b) h

  front_cut : is_cut ≡ true → (k : ℕ) → IsOutside k
      → cell_at (set line (at - 1) blank) k ≡ cell_at (set (set old (at - 1) blank) at blank) k
  front_cut t k h =
      let a : 0 < at = before_right at old paired t in
      let n : length line ≡ length old = is.width in
      ⊎_elim
      (λ (e : k ≡ at - 1). ap (cell_at (set line (at - 1) blank)) e
      ∙ get_or-set_same line (at - 1) blank blank (omega arith)
      ∙ sym
      (get_or-set_other (set old (at - 1) blank) at k blank blank (omega arith)
      ∙ ap (cell_at (set old (at - 1) blank)) e ∙ get_or-set_same old (at - 1) blank blank (omega arith)))
      (λ (ne : k ≡ at - 1 → ⊥). get_or-set_other line (at - 1) k blank blank ne ∙ same k h
      ∙ sym
      (get_or-set_other (set old (at - 1) blank) at k blank blank (omega arith)
      ∙ get_or-set_other old (at - 1) k blank blank ne))
      (cases_eq k (at - 1))

  front_is : (k : ℕ) → IsOutside k → cell_at front k ≡ cell_at (cut_of at old) k
  front_is k h = ⊎_elim (λ (t : is_cut ≡ true). rw t (front_cut t k h)) (λ (t : is_cut ≡ false). rw t (same k h))
      (cases_Bool is_cut)

  length_front : length front ≡ length old
  length_front = ⊎_elim (λ (t : is_cut ≡ true). rw t (length-set line (at - 1) blank ∙ is.width))
      (λ (t : is_cut ≡ false). rw t is.width) (cases_Bool is_cut)

  front_new : (j : ℕ) → j < length fresh → cell_at front (at + j) ≡ cell_at fresh j
  front_new j h = ⊎_elim
      (λ (t : is_cut ≡ true). let a : 0 < at = before_right at old paired t in
      rw t (get_or-set_other line (at - 1) (at + j) blank blank (omega arith) ∙ is.placed j h))
      (λ (t : is_cut ≡ false). rw t (is.placed j h))
      (cases_Bool is_cut)

  behind_is : is_right (cell_at (cut_of at old) end).shape ≡ is_cut_behind
  behind_is = ap (λ (x : Cell). is_right x.shape) (sym (front_is end (inr (omega arith))))

  outside_cut : is_cut_behind ≡ true → (k : ℕ) → IsOutside k
      → cell_at (set front end blank) k ≡ cell_at (set (set (cut_of at old) (end - 1) blank) end blank) k
  outside_cut t k h =
      let within : end < length front = right_inside end front t in
      let n : length front ≡ length old = length_front in
      let m : length (set (cut_of at old) (end - 1) blank) ≡ length old = length-set (cut_of at old) (end - 1) blank
      ∙ length-cut_of at old in
      ⊎_elim
      (λ (e : k ≡ end). ap (cell_at (set front end blank)) e ∙ get_or-set_same front end blank blank within
      ∙ sym
      (ap (cell_at (set (set (cut_of at old) (end - 1) blank) end blank)) e
      ∙ get_or-set_same (set (cut_of at old) (end - 1) blank) end blank blank (omega (arith, within, n, m))))
      (λ (ne : k ≡ end → ⊥). get_or-set_other front end k blank blank ne ∙ front_is k h
      ∙ sym
      (get_or-set_other (set (cut_of at old) (end - 1) blank) end k blank blank ne
      ∙ get_or-set_other (cut_of at old) (end - 1) k blank blank (omega arith)))
      (cases_eq k end)

  outside : (k : ℕ) → IsOutside k → cell_at whole k ≡ cell_at (cut_of end (cut_of at old)) k
  outside k h = ⊎_elim
      (λ (t : is_cut_behind ≡ true). rw (behind_is ∙ t, t) (outside_cut t k h))
      (λ (t : is_cut_behind ≡ false). rw (behind_is ∙ t, t) (front_is k h))
      (cases_Bool is_cut_behind)

  new : (j : ℕ) → j < length fresh → cell_at whole (at + j) ≡ cell_at fresh j
  new j h = ⊎_elim
      (λ (t : is_cut_behind ≡ true). rw t
      (get_or-set_other front end (at + j) blank blank (omega arith) ∙ front_new j h))
      (λ (t : is_cut_behind ≡ false). rw t (front_new j h))
      (cases_Bool is_cut_behind)

  length_whole : length whole ≡ length old
  length_whole = ⊎_elim (λ (t : is_cut_behind ≡ true). rw t (length-set front end blank ∙ length_front))
      (λ (t : is_cut_behind ≡ false). rw t length_front) (cases_Bool is_cut_behind)

  -- if no new half lacks its other half
  pub mended_is : ((j : ℕ) → j < length fresh → fresh_at fresh j ≡ cell_at fresh j)
      → whole ≡ cells_spliced at fresh end old
  mended_is complete = put_is at fresh old room some paired whole length_whole outside
      (λ j h. new j h ∙ sym (complete j h))

pub cells_mended : (at count : ℕ) (fresh old line : List Cell) (is_cut : Bool) → length fresh ≡ count
    → is_cut ≡ is_right (cell_at old at).shape → 0 < count → at + count ≤ length old → IsPaired old
    → IsPut at fresh old line → ((j : ℕ) → j < length fresh → fresh_at fresh j ≡ cell_at fresh j)
    → mended at (at + count) is_cut line ≡ cells_spliced at fresh (at + count) old
cells_mended at count fresh old line is_cut n cut some room paired is complete = subst
    (λ m. mended at (at + m) is_cut line ≡ cells_spliced at fresh (at + m) old) n
    (ap (λ b. mended at (at + length fresh) b line) cut
    ∙ mended_is at fresh old line is (rw n some) (rw n room) paired complete)

-- no new cells
pub nothing_put : (at count : ℕ) (fresh old line : List Cell) → length fresh ≡ count → count ≤ 0 → IsPaired old
    → IsPut at fresh old line → line ≡ cells_spliced at fresh (at + count) old
nothing_put at count fresh old line n none paired is =
    let z : length fresh ≡ 0 = omega arith in
    ext_get_or blank line old is.width
    (λ k h. ⊎_elim (λ (a : k < at). is.front k a) (λ (b : at ≤ k). is.rest k (omega arith)) (cases_lt k at))
    ∙ subst (λ m. old ≡ cells_spliced at fresh (at + m) old) n (put_none at fresh old z paired)
