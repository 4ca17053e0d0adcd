-- A splice, once its boundaries are cut, moves plain cells.
use Rattle.cells.proofs.Vocabulary.{◌≡◌, ℕ, zero, suc, ◌+◌, ◌-◌, ◌<◌, ◌≤◌, min, true, false, List, [], ◌∷◌, length, map}
use Rattle.cells.proofs.Vocabulary.{replicate, refl, sym, ap, ◌∙◌, ◌⊎◌, inl, inr, subst, arith, ⊎_elim, eq-eqb}
use Rattle.cells.proofs.Vocabulary.{range_with_len, length-map-range_with_len, get_or-map-range_with_len, ext_get_or}
use Rattle.cells.proofs.Vocabulary.{length-replicate, get_or-replicate, get_or_past, cases_lt, lt-ltb, le-ltb, Cell}
use Rattle.cells.proofs.Vocabulary.{Narrow, Left, Right, blank, cell_at, is_left, is_right, IsPaired, Source, Fresh}
use Rattle.cells.proofs.Vocabulary.{Old, taken, are_halves, source_before, source_after, cells_from, cut_of, spliced}
use Rattle.cells.proofs.Settling.{cell_at_past, true≢false, settled_at, cells_from-is, cells_from-cut, Tears, kept_is}
use Rattle.cells.proofs.Settling.{after_inside, length-cut_of}
use Rattle.cells.proofs.Moves.{moved_line, length-moved_line, moved_front, moved_blank, moved_rest, moved_end}
use Rattle.cells.proofs.Cutting.{IsPaired-cut_of, right-cut_of_same, right-cut_of_other}

-- the line of plain cells, if no half is torn
abbrev pub plain_from : (ℕ → Source) → List Cell → List Cell
plain_from source cells = map (λ column. taken cells (source column)) (range_with_len 0 (length cells))

pub cell_at-plain_from : (source : ℕ → Source) (cells : List Cell) (column : ℕ) → column < length cells
    → cell_at (plain_from source cells) column ≡ taken cells (source column)
cell_at-plain_from source cells column h = get_or-map-range_with_len _ 0 (length cells) column column blank h
    (omega arith)

pub length-plain_from : (source : ℕ → Source) (cells : List Cell) → length (plain_from source cells) ≡ length cells
length-plain_from source cells = length-map-range_with_len _ 0 (length cells)

module _ (at : ℕ) (fresh : List Cell) (rest width : ℕ) where
  pub at_front : (column : ℕ) → column < at → spliced at fresh rest width column ≡ Old column
  at_front column h = rw (lt-ltb column at h) refl

  pub at_fresh : (column : ℕ) → at ≤ column → column < at + length fresh
      → spliced at fresh rest width column ≡ Fresh (cell_at fresh (column - at))
  at_fresh column h k = rw (le-ltb column at h, lt-ltb column (at + length fresh) k) refl

  pub at_rest : (column : ℕ) → at + length fresh ≤ column → column + rest < at + length fresh + width
      → spliced at fresh rest width column ≡ Old (column + rest - (at + length fresh))
  at_rest column h k = let past : at ≤ column = omega arith in rw
      (le-ltb column at past, le-ltb column (at + length fresh) h, lt-ltb (column + rest) (at + length fresh + width) k)
      refl

  pub at_end : (column : ℕ) → at + length fresh ≤ column → at + length fresh + width ≤ column + rest
      → spliced at fresh rest width column ≡ Fresh blank
  at_end column h k = let past : at ≤ column = omega arith in rw
      (le-ltb column at past, le-ltb column (at + length fresh) h, le-ltb (column + rest) (at + length fresh + width) k)
      refl

fresh_not_old : (a : Source) (x : Cell) (c : ℕ) → a ≡ Fresh x → a ≡ Old c → ⊥
fresh_not_old a x c h k = cc

old_column : Source → ℕ → ℕ
old_column (Fresh x) d = d
old_column (Old c) d = c

same_column : (a : Source) (c d : ℕ) → a ≡ Old c → a ≡ Old d → c ≡ d
unfolding old_column
same_column a c d h k = ap (λ x. old_column x 0) (sym h ∙ k)

-- which columns keep an old cell, and which cell that is
old_at : (at : ℕ) (fresh : List Cell) (rest width column c : ℕ) → spliced at fresh rest width column ≡ Old c
    → ((column < at) × (column ≡ c)) ⊎
    ((at + length fresh ≤ column) × (column + rest < at + length fresh + width)
    × (c ≡ column + rest - (at + length fresh)))
old_at at fresh rest width column c h = ⊎_elim
    (λ front. inl (front, same_column _ _ _ (at_front at fresh rest width column front) h))
    (λ past. ⊎_elim
    (λ new. absurd (fresh_not_old _ _ _ (at_fresh at fresh rest width column past new) h))
    (λ behind. ⊎_elim
    (λ old. inr (behind, old, same_column _ _ _ h (at_rest at fresh rest width column behind old)))
    (λ end. absurd (fresh_not_old _ _ _ (at_end at fresh rest width column behind end) h))
    (cases_lt (column + rest) (at + length fresh + width)))
    (cases_lt column (at + length fresh)))
    (cases_lt column at)

-- a boundary that the splice tears
abbrev pub IsEdge : ℕ → ℕ → ℕ → ℕ → ℕ → Type 0
IsEdge at count rest width edge = (edge ≡ at) ⊎
    ((edge ≡ rest) ⊎ (edge ≡ rest + min (width - rest) (width - (at + count))))

no_edge : (at count rest width edge column : ℕ) → at ≤ rest → rest ≤ width → at + count ≤ width → at < rest + count
    → IsEdge at count rest width edge → suc column < width
    → ((column < at) × (column ≡ edge - 1)) ⊎
    ((at + count ≤ column) × (column + rest < at + count + width) × (edge - 1 ≡ column + rest - (at + count)))
    → ((suc column < at) × (suc column ≡ edge)) ⊎
    ((at + count ≤ suc column) × (suc column + rest < at + count + width)
    × (edge ≡ suc column + rest - (at + count))) → ⊥
no_edge at count rest width edge column order inside room changes which h before after = omega arith

pub tears_spliced : (at : ℕ) (fresh : List Cell) (rest width edge : ℕ) → at ≤ rest → rest ≤ width
    → at + length fresh ≤ width → at < rest + length fresh → IsEdge at (length fresh) rest width edge
    → Tears (spliced at fresh rest width) width edge
tears_spliced at fresh rest width edge order inside room changes which = record {
  apart = λ column h before after.
      no_edge at (length fresh) rest width edge column order inside room changes which h
      (old_at at fresh rest width column (edge - 1) before) (old_at at fresh rest width (suc column) edge after);
}

module _ (at : ℕ) (fresh : List Cell) (rest : ℕ) (cells : List Cell) (order : at ≤ rest) (inside : rest ≤ length cells)
    (room : at + length fresh ≤ length cells)
    (paired : IsPaired cells) (pairs : IsPaired fresh)
    (whole_at : is_right (cell_at cells at).shape ≡ false) (whole_rest : is_right (cell_at cells rest).shape ≡ false)
    (whole_end : is_right (cell_at cells (rest + min (length cells - rest) (length cells - (at + length fresh)))).shape
    ≡ false) where
  abbrev here : ℕ → Source
  here column = spliced at fresh rest (length cells) column

  left_along : (column : ℕ) → column < length cells → is_left (taken cells (here column)).shape ≡ true
      → are_halves (here column) (source_after here (length cells) column) ≡ true
  left_along column within left = ⊎_elim
      (λ (front : column < at).
      let left' : is_left (cell_at cells column).shape ≡ true = rw (at_front at fresh rest (length cells) column front)
      at left in ⊎_elim
      (λ (next : suc column < at). let h : suc column < length cells = omega arith in
      rw (
        after_inside here (length cells) column h,
        at_front at fresh rest (length cells) column front,
        at_front at
            fresh rest (length cells) (suc column) next,
      ) (eq-eqb (suc column) (suc column) refl))
      (λ last. let e : suc column ≡ at = omega arith in absurd
      (true≢false _ (sym (paired.next column) ∙ left') (rw e whole_at)))
      (cases_lt (suc column) at))
      (λ (past : at ≤ column). ⊎_elim
      (λ (new : column < at + length fresh).
      let left' : is_left (cell_at fresh (column - at)).shape ≡ true = rw
      (at_fresh at fresh rest (length cells) column past new) at left in ⊎_elim
      (λ (next : suc column < at + length fresh). let h : suc column < length cells = omega arith in let past' : at ≤
      suc column = omega arith in
      let e : suc column - at ≡ suc (column - at) = omega arith in
      rw (
        after_inside here (length cells) column h,
        at_fresh at fresh rest (length cells) column past new,
        at_fresh at
            fresh rest (length cells) (suc column) past' next,
        e,
        ← (pairs.next (column - at)),
        left',
      ) refl)
      (λ last. absurd
      (true≢false _ (sym (pairs.next (column - at)) ∙ left')
      (ap (λ (x : Cell). is_right x.shape) (cell_at_past fresh (suc (column - at)) (omega arith)))))
      (cases_lt (suc column) (at + length fresh)))
      (λ (behind : at + length fresh ≤ column). ⊎_elim
      (λ (old : column + rest < at + length fresh + length cells).
      let left' : is_left (cell_at cells (column + rest - (at + length fresh))).shape ≡ true = rw
      (at_rest at fresh rest (length cells) column behind old) at left in
      let next : (column : ℕ)
      → is_left (cell_at cells column).shape ≡ is_right (cell_at cells (suc column)).shape = paired.next in
      ⊎_elim
      (λ (h : (suc column < length cells) × (suc column + rest < at + length fresh + length cells)).
      let h0 : suc column < length cells = h.0 in
      let b : at + length fresh ≤ suc column = omega arith in
      rw (
        after_inside here (length cells) column h0,
        at_rest at fresh rest (length cells) column behind old,
        at_rest at
            fresh rest (length cells) (suc column) b h.1,
      )
      (eq-eqb _ _ (omega arith)))
      (λ (e : suc (column + rest - (at + length fresh)) ≡ rest + min (length cells - rest)
      (length cells - (at + length fresh))).
      absurd (true≢false _ (sym (next (column + rest - (at + length fresh))) ∙ left') (rw e whole_end)))
      (split column within behind old))
      (λ end. absurd (true≢false _ left (rw (at_end at fresh rest (length cells) column behind end) refl)))
      (cases_lt (column + rest) (at + length fresh + length cells)))
      (cases_lt column (at + length fresh)))
      (cases_lt column at)
    where
      split : (column : ℕ) → column < length cells → at + length fresh ≤ column
          → column + rest < at + length fresh + length cells
          → ((suc column < length cells) × (suc column + rest < at + length fresh + length cells)) ⊎
          (suc (column + rest - (at + length fresh)) ≡ rest + min (length cells - rest)
          (length cells - (at + length fresh)))
      split column within behind old = ⊎_elim
          (λ a. ⊎_elim (λ b. inl (a, b)) (λ b. inr (omega arith))
          (cases_lt (suc column + rest) (at + length fresh + length cells)))
          (λ a. inr (omega arith))
          (cases_lt (suc column) (length cells))

  right_along : (column : ℕ) → column < length cells → is_right (taken cells (here column)).shape ≡ true
      → are_halves (source_before here column) (here column) ≡ true
  right_along zero within right = ⊎_elim
      (λ (front : 0 < at). absurd
      (true≢false _ right (rw (at_front at fresh rest (length cells) 0 front) paired.first)))
      (λ (past : at ≤ 0). let e : at ≡ 0 = omega arith in ⊎_elim
      (λ (new : 0 < at + length fresh). let e2 : 0 - at ≡ 0 = omega arith in absurd
      (true≢false _ right (rw (at_fresh at fresh rest (length cells) 0 past new, e2) pairs.first)))
      (λ (behind : at + length fresh ≤ 0). ⊎_elim
      (λ (old : 0 + rest < at + length fresh + length cells). let e2 : 0 + rest - (at + length fresh) ≡ rest = omega
      arith in absurd (true≢false _ right (rw (at_rest at fresh rest (length cells) 0 behind old, e2) whole_rest)))
      (λ end. absurd (true≢false _ right (rw (at_end at fresh rest (length cells) 0 behind end) refl)))
      (cases_lt (0 + rest) (at + length fresh + length cells)))
      (cases_lt 0 (at + length fresh)))
      (cases_lt 0 at)
  right_along (suc column) within right = ⊎_elim
      (λ (front : suc column < at). let f : column < at = omega arith in
      rw (at_front at fresh rest (length cells) column f, at_front at fresh rest (length cells) (suc column) front)
      (eq-eqb (suc column) (suc column) refl))
      (λ (past : at ≤ suc column). ⊎_elim
      (λ (new : suc column < at + length fresh).
      let right' : is_right (cell_at fresh (suc column - at)).shape ≡ true = rw
      (at_fresh at fresh rest (length cells) (suc column) past new) at right in ⊎_elim
      (λ (first : column < at). let e : suc column - at ≡ 0 = omega arith in absurd
      (true≢false _ right' (rw e pairs.first)))
      (λ (p : at ≤ column). let n : column < at + length fresh = omega arith in let e : suc column - at ≡ suc
      (column - at) = omega arith in
      let r : is_right (cell_at fresh (suc (column - at))).shape ≡ true = rw e at right' in
      rw (
        at_fresh at fresh rest (length cells) column p n,
        at_fresh at fresh rest (length cells) (suc column) past new,
        e,
        pairs.next (column - at),
        r,
      ) refl)
      (cases_lt column at))
      (λ (behind : at + length fresh ≤ suc column). ⊎_elim
      (λ (old : suc column + rest < at + length fresh + length cells).
      let right' : is_right (cell_at cells (suc column + rest - (at + length fresh))).shape ≡ true = rw
      (at_rest at fresh rest (length cells) (suc column) behind old) at right in ⊎_elim
      (λ (first : column < at + length fresh). let e : suc column + rest - (at + length fresh) ≡ rest = omega arith in
      absurd (true≢false _ right' (rw e whole_rest)))
      (λ (b : at + length fresh ≤ column). let o : column + rest < at + length fresh + length cells = omega arith in
      rw (at_rest at fresh rest (length cells) column b o, at_rest at fresh rest (length cells) (suc column) behind old)
      (eq-eqb _ _ (omega arith)))
      (cases_lt column (at + length fresh)))
      (λ end. absurd (true≢false _ right (rw (at_end at fresh rest (length cells) (suc column) behind end) refl)))
      (cases_lt (suc column + rest) (at + length fresh + length cells)))
      (cases_lt (suc column) (at + length fresh)))
      (cases_lt (suc column) at)

  pub plain_spliced : plain_from here cells ≡ cells_from here cells
  unfolding settled_at
  plain_spliced = cells_from-is here cells (plain_from here cells) (length-plain_from here cells) (λ column within.
      cell_at-plain_from here cells column within
      ∙ sym
      (kept_is (taken cells (here column)).shape (taken cells (here column)) _ _ (left_along column within)
      (right_along column within)))

-- the line with the three boundaries of a splice cut
abbrev pub cut_thrice : ℕ → ℕ → ℕ → List Cell → List Cell
cut_thrice at count rest cells = cut_of (rest + min (length cells - rest) (length cells - (at + count)))
    (cut_of rest (cut_of at cells))

pub length-cut_thrice : (at count rest : ℕ) (cells : List Cell) → length (cut_thrice at count rest cells) ≡ length cells
length-cut_thrice at count rest cells = length-cut_of _ (cut_of rest (cut_of at cells))
    ∙ length-cut_of rest (cut_of at cells) ∙ length-cut_of at cells

-- a splice is a move of plain cells, once its boundaries are cut
pub cells_from-spliced : (at : ℕ) (fresh : List Cell) (rest : ℕ) (cells : List Cell) → at ≤ rest → rest ≤ length cells
    → at + length fresh ≤ length cells → at < rest + length fresh → IsPaired cells → IsPaired fresh
    → cells_from (spliced at fresh rest (length cells)) cells ≡ plain_from (spliced at fresh rest (length cells))
    (cut_thrice at (length fresh) rest cells)
cells_from-spliced at fresh rest cells order inside room changes paired pairs =
    let end : ℕ = rest + min (length cells - rest) (length cells - (at + length fresh)) in
    let source : ℕ → Source = spliced at fresh rest (length cells) in
    let one : List Cell = cut_of at cells in
    let two : List Cell = cut_of rest one in
    let three : List Cell = cut_of end two in
    let paired1 : IsPaired one = IsPaired-cut_of at cells paired in
    let paired2 : IsPaired two = IsPaired-cut_of rest one paired1 in
    let paired3 : IsPaired three = IsPaired-cut_of end two paired2 in
    let length1 : length one ≡ length cells = length-cut_of at cells in
    let length2 : length two ≡ length cells = length-cut_of rest one ∙ length1 in
    let length3 : length three ≡ length cells = length-cut_of end two ∙ length2 in
    let tears : (edge : ℕ) → IsEdge at (length fresh) rest (length cells) edge
    → Tears source (length cells) edge = λ edge which. tears_spliced at fresh rest (length cells) edge order inside
    room changes which in
    let whole_at : is_right (cell_at three at).shape ≡ false = right-cut_of_other end two paired2 at
    (right-cut_of_other rest one paired1 at (right-cut_of_same at cells paired)) in
    let whole_rest : is_right (cell_at three rest).shape ≡ false = right-cut_of_other end two paired2 rest
    (right-cut_of_same rest one paired1) in
    let whole_end : is_right (cell_at three end).shape ≡ false = right-cut_of_same end two paired2 in
    sym (cells_from-cut source cells at paired (tears at (inl refl)))
    ∙ sym
    (cells_from-cut source one rest paired1
    (subst (λ n. Tears source n rest) (sym length1) (tears rest (inr (inl refl)))))
    ∙ sym
    (cells_from-cut source two end paired2
    (subst (λ n. Tears source n end) (sym length2) (tears end (inr (inr refl)))))
    ∙ sym (subst (λ n. plain_from (spliced at fresh rest n) three ≡ cells_from (spliced at fresh rest n) three) length3
    (plain_spliced at fresh rest three order (rw length3 inside) (rw length3 room) paired3 pairs whole_at whole_rest
    (rw length3 whole_end)))

pub IsPaired-blanks : (count : ℕ) → IsPaired (replicate count blank)
IsPaired-blanks count = record {
  first = ap (λ (x : Cell). is_right x.shape) (all_blank count 0);
  next = λ column. ap (λ (x : Cell). is_left x.shape) (all_blank count column)
      ∙ sym (ap (λ (x : Cell). is_right x.shape) (all_blank count (suc column)));
}
  where
    all_blank : (count column : ℕ) → cell_at (replicate count blank) column ≡ blank
    all_blank count column = ⊎_elim
        (λ h. get_or-replicate count column blank blank h)
        (λ h. get_or_past (replicate count blank) column blank (rw (length-replicate count blank) h))
        (cases_lt column count)

-- the slice calls of a splice leave the line from its sources
pub moved_line-is : (at count rest : ℕ) (cells : List Cell) → at ≤ rest → rest ≤ length cells
    → at + count ≤ length cells → at < rest + count → IsPaired cells
    → moved_line blank (cut_thrice at count rest cells) at (at + count) rest
    (min (length cells - rest) (length cells - (at + count))) ≡ cells_from
    (spliced at (replicate count blank) rest (length cells)) cells
moved_line-is at count rest cells order inside room changes paired =
    let fresh : List Cell = replicate count blank in
    let n : length fresh ≡ count = length-replicate count blank in
    let source : ℕ → Source = spliced at fresh rest (length cells) in
    let three : List Cell = cut_thrice at count rest cells in
    let moved : ℕ = min (length cells - rest) (length cells - (at + count)) in
    let l : length three ≡ length cells = length-cut_thrice at count rest cells in
    let order' : at ≤ at + count = omega arith in
    let room' : at + count + moved ≤ length three = omega arith in
    let inside' : rest + moved ≤ length three = omega arith in
    let line : List Cell = moved_line blank three at (at + count) rest moved in
    let same_length : length line ≡ length three = length-moved_line blank three at (at + count) rest moved order' room'
    inside' in
    let each : (k : ℕ) → k < length three → cell_at line k ≡ taken three (source k) = λ k within. ⊎_elim
    (λ (front : k < at). moved_front blank three at (at + count) rest moved order' room' inside' k blank front
    ∙ sym (ap (taken three) (at_front at fresh rest (length cells) k front)))
    (λ (past : at ≤ k). ⊎_elim
    (λ (new : k < at + count). let new' : k < at + length fresh = omega arith in let small : k - at < count = omega
    arith in
    moved_blank blank three at (at + count) rest moved order' room' inside' k blank past new
    ∙ sym
    (ap (taken three) (at_fresh at fresh rest (length cells) k past new')
    ∙ get_or-replicate count (k - at) blank blank small))
    (λ (behind : at + count ≤ k). let behind' : at + length fresh ≤ k = omega arith in ⊎_elim
    (λ (old : k < at + count + moved). let old' : k + rest < at + length fresh + length cells = omega arith in
    moved_rest blank three at (at + count) rest moved order' room' inside' k blank behind old
    ∙ sym
    (ap (taken three) (at_rest at fresh rest (length cells) k behind' old')
    ∙ ap (λ w. cell_at three (k + rest - (at + w))) n))
    (λ (end : at + count + moved ≤ k). let end' : at + length fresh + length cells ≤ k + rest = omega arith in
    moved_end blank three at (at + count) rest moved order' room' inside' k blank end within
    ∙ sym (ap (taken three) (at_end at fresh rest (length cells) k behind' end')))
    (cases_lt k (at + count + moved)))
    (cases_lt k (at + count)))
    (cases_lt k at) in
    let plain : line ≡ plain_from source three = ext_get_or blank line (plain_from source three)
    (same_length ∙ sym (length-plain_from source three))
    (λ k h. let h' : k < length three = rw same_length at h in each k h' ∙ sym (cell_at-plain_from source three k h'))
    in
    plain ∙ ap (λ w. plain_from source (cut_thrice at w rest cells)) (sym n)
    ∙ sym
    (cells_from-spliced at fresh rest cells order inside (rw n room) (rw n changes) paired (IsPaired-blanks count))

-- one more cell of width 1, or both halves, before paired cells
pub narrow_paired : (cell : Cell) (more : List Cell) → is_left cell.shape ≡ false → is_right cell.shape ≡ false
    → IsPaired more → IsPaired (cell ∷ more)
narrow_paired cell more no_left no_right paired = record { first = no_right; next = go }
  where
    go : (k : ℕ) → is_left (cell_at (cell ∷ more) k).shape ≡ is_right (cell_at (cell ∷ more) (suc k)).shape
    go zero = no_left ∙ sym paired.first
    go (suc k) = paired.next k

pub wide_paired : (l r : Cell) (more : List Cell) → is_left l.shape ≡ true → is_right l.shape ≡ false → r.shape ≡ Right
    → IsPaired more → IsPaired (l ∷ r ∷ more)
wide_paired l r more left no_right right paired = record { first = no_right; next = go }
  where
    go : (k : ℕ) → is_left (cell_at (l ∷ r ∷ more) k).shape ≡ is_right (cell_at (l ∷ r ∷ more) (suc k)).shape
    go zero = left ∙ sym (ap is_right right)
    go (suc zero) = ap is_left right ∙ sym paired.first
    go (suc (suc k)) = paired.next k

none_paired : IsPaired []
none_paired = record { first = refl; next = λ column. refl }

pub narrow_pairs : (cell : Cell) → cell.shape ≡ Narrow → IsPaired (cell ∷ [])
narrow_pairs cell h = narrow_paired cell [] (ap is_left h) (ap is_right h) none_paired

pub wide_pairs : (l r : Cell) → l.shape ≡ Left → r.shape ≡ Right → IsPaired (l ∷ r ∷ [])
wide_pairs l r hl hr = wide_paired l r [] (ap is_left hl) (ap is_right hl) hr none_paired
