-- Splices of a line that ends in blanks.
use Rattle.cells.proofs.Vocabulary.{◌≡◌, ℕ, zero, suc, ◌+◌, ◌-◌, ◌<◌, ◌≤◌, min, Bool, true, false, ◌&&◌, cond, List}
use Rattle.cells.proofs.Vocabulary.{◌++◌, length, take, drop, replicate, refl, sym, ap, ◌∙◌, ◌⊎◌, inl, inr, arith}
use Rattle.cells.proofs.Vocabulary.{⊎_elim, length-take, length-replicate, get_or-replicate, get_or_past, length-append}
use Rattle.cells.proofs.Vocabulary.{length-drop, get_or-take, get_or-drop, get_or_append_left, get_or-append_right}
use Rattle.cells.proofs.Vocabulary.{cases_lt, ne_eqb, Cell, Shape, Narrow, Left, Right, blank, cell_at, is_left}
use Rattle.cells.proofs.Vocabulary.{is_right, IsPaired, IsBlankFrom, Source, Fresh, Old, taken, are_halves, kept}
use Rattle.cells.proofs.Vocabulary.{settled, source_before, source_after, cells_from, spliced}
use Rattle.cells.proofs.Settling.{cell_at_past, true≢false, and_false, settled_at, cells_from-is, cell_at-cells_from}
use Rattle.cells.proofs.Settling.{length-cells_from, after_inside, after_last}
use Rattle.cells.proofs.Splicing.{at_front, at_fresh, at_rest, at_end}
use Rattle.cells.proofs.Putting.{IsPaired-shapes}
use Rattle.cells.proofs.Used.{settled_blank}

-- two sources of a column are the same, or both give a blank
abbrev pub Alike : List Cell → Source → Source → Type 0
Alike cells a b = (a ≡ b) ⊎ ((taken cells a ≡ blank) × (taken cells b ≡ blank))

kept_same : (s : Shape) (cell : Cell) (p q r t : Bool) → (is_left s ≡ true → p ≡ r) → (is_right s ≡ true → q ≡ t)
    → kept s cell p q ≡ kept s cell r t
kept_same Narrow cell p q r t left right = refl
kept_same Left cell p q r t left right = ap (λ b. cond b cell blank) (left refl)
kept_same Right cell p q r t left right = ap (λ b. cond b cell blank) (right refl)

-- a blank is no half
after_blank : (cells : List Cell) → IsPaired cells → (here after : Source) → is_left (taken cells here).shape ≡ true
    → taken cells after ≡ blank → are_halves here after ≡ false
after_blank cells paired (Fresh l) (Fresh r) left e = ap (λ (x : Cell). is_left l.shape && is_right x.shape) e
    ∙ and_false _
after_blank cells paired (Fresh l) (Old d) left e = refl
after_blank cells paired (Old c) (Fresh r) left e = refl
after_blank cells paired (Old c) (Old d) left e = ne_eqb (suc c) d (λ same.
    true≢false _ (sym (paired.next c) ∙ left)
    (ap (λ n. is_right (cell_at cells n).shape) same ∙ ap (λ (x : Cell). is_right x.shape) e))

before_blank : (cells : List Cell) → IsPaired cells → (before here : Source) → is_right (taken cells here).shape ≡ true
    → taken cells before ≡ blank → are_halves before here ≡ false
before_blank cells paired (Fresh l) (Fresh r) right e = ap (λ (x : Cell). is_left x.shape && is_right r.shape) e
before_blank cells paired (Fresh l) (Old d) right e = refl
before_blank cells paired (Old c) (Fresh r) right e = refl
before_blank cells paired (Old c) (Old d) right e = ne_eqb (suc c) d (λ same.
    true≢false _ (paired.next c ∙ ap (λ n. is_right (cell_at cells n).shape) same ∙ right)
    (ap (λ (x : Cell). is_left x.shape) e))

settled_alike : (cells : List Cell) → IsPaired cells → (b h a b' h' a' : Source) → Alike cells b b' → Alike cells h h'
    → Alike cells a a' → settled cells b h a ≡ settled cells b' h' a'
settled_alike cells paired b h a b' h' a' before here after = ⊎_elim
    (λ (same : h ≡ h'). kept_same (taken cells h).shape (taken cells h) (are_halves h a) (are_halves b h)
    (are_halves h a') (are_halves b' h)
    (λ left. ⊎_elim (λ (e : a ≡ a'). ap (are_halves h) e)
    (λ (blanks : (taken cells a ≡ blank) × (taken cells a' ≡ blank)). after_blank cells paired h a left blanks.0
    ∙ sym (after_blank cells paired h a' left blanks.1)) after)
    (λ right. ⊎_elim (λ (e : b ≡ b'). ap (λ x. are_halves x h) e)
    (λ (blanks : (taken cells b ≡ blank) × (taken cells b' ≡ blank)). before_blank cells paired b h right blanks.0
    ∙ sym (before_blank cells paired b' h right blanks.1)) before)
    ∙ ap (λ x. settled cells b' x a') same)
    (λ (blanks : (taken cells h ≡ blank) × (taken cells h' ≡ blank)). settled_blank cells b h a blanks.0
    ∙ sym (settled_blank cells b' h' a' blanks.1))
    here

-- the columns below `end` have sources that are alike, and the other columns get blanks
record AreAlike (cells : List Cell) (end width : ℕ) (source other : ℕ → Source) : Type 0 where
  pub front : (k : ℕ) → k < end → Alike cells (source k) (other k)
  pub back : (k : ℕ) → end ≤ k → k < width → taken cells (other k) ≡ blank

module _ (cells : List Cell) (end width : ℕ) (source other : ℕ → Source) (inside : end ≤ width)
    (alike : AreAlike cells end width source other) where
  before_alike : (k : ℕ) → k < end → Alike cells (source_before source k) (source_before other k)
  before_alike zero h = inl refl
  before_alike (suc k) h = alike.front k (omega arith)

  after_alike : (k : ℕ) → k < end → Alike cells (source_after source end k) (source_after other width k)
  after_alike k h = ⊎_elim
      (λ (next : suc k < end). rw (after_inside source end k next, after_inside other width k (omega arith))
      (alike.front (suc k) next))
      (λ (last : end ≤ suc k). let e : suc k ≡ end = omega arith in ⊎_elim
      (λ (more : suc k < width). rw (after_last source end k e, after_inside other width k more)
      (inr (refl, alike.back (suc k) last more)))
      (λ (none : width ≤ suc k). let e2 : suc k ≡ width = omega arith in rw
      (after_last source end k e, after_last other width k e2) (inl refl))
      (cases_lt (suc k) width))
      (cases_lt (suc k) end)

-- the cells before the column from which on a line is blank
module _ (end : ℕ) (cells : List Cell) (blanks : IsBlankFrom end cells) where
  front_at : (k : ℕ) → cell_at (take end cells) k ≡ cell_at cells k
  front_at k = ⊎_elim
      (λ (h : k < end). get_or-take end cells k blank h)
      (λ (h : end ≤ k). cell_at_past (take end cells) k (simp length-take (omega arith)) ∙ sym (blanks k h))
      (cases_lt k end)

  front_taken : (a : Source) → taken (take end cells) a ≡ taken cells a
  front_taken (Fresh x) = refl
  front_taken (Old c) = front_at c

  pub front_paired : IsPaired cells → IsPaired (take end cells)
  front_paired paired = IsPaired-shapes cells (take end cells) (λ k. ap (λ (x : Cell). x.shape) (sym (front_at k)))
      paired

  front_settled : (b h a : Source) → settled (take end cells) b h a ≡ settled cells b h a
  front_settled b h a = ap (λ (x : Cell). kept x.shape x (are_halves h a) (are_halves b h)) (front_taken h)

-- a line that stays blank from `end` on is known by the cells before it
front_is : (cells : List Cell) (end : ℕ) (source other : ℕ → Source) → IsPaired cells → end ≤ length cells
    → IsBlankFrom end cells → AreAlike cells end (length cells) source other
    → cells_from source (take end cells) ++ drop end cells ≡ cells_from other cells
unfolding settled_at
front_is cells end source other paired inside blanks alike =
    let n : length (take end cells) ≡ end = simp length-take (omega arith) in
    let m : length (cells_from source (take end cells)) ≡ end = length-cells_from source (take end cells) ∙ n in
    cells_from-is other cells (cells_from source (take end cells) ++ drop end cells)
    (rw (length-append (cells_from source (take end cells)) (drop end cells), m, length-drop end cells)
    (omega arith)) (λ k within. ⊎_elim
    (λ (front : k < end).
    get_or_append_left (cells_from source (take end cells)) (drop end cells) blank k (rw m front)
    ∙ cell_at-cells_from source (take end cells) k (rw n front)
    ∙ ap (λ w. settled (take end cells) (source_before source k) (source k) (source_after source w k)) n
    ∙ front_settled end cells blanks (source_before source k) (source k) (source_after source end k)
    ∙ settled_alike cells paired _ _ _ _ _ _ (before_alike cells end (length cells) source other inside alike k front)
    (alike.front k front) (after_alike cells end (length cells) source other inside alike k front))
    (λ (back : end ≤ k). let e : end + (k - end) ≡ k = omega arith in
    get_or-append_right (cells_from source (take end cells)) (drop end cells) end k blank m back
    ∙ get_or-drop end cells (k - end) blank ∙ ap (cell_at cells) e ∙ blanks k back
    ∙ sym
    (settled_blank cells (source_before other k) (other k) (source_after other (length cells) k)
    (alike.back k back within)))
    (cases_lt k end))

-- sources that are alike give the same line
pub same_cells : (cells : List Cell) (source other : ℕ → Source) → IsPaired cells
    → ((k : ℕ) → k < length cells → Alike cells (source k) (other k)) → cells_from source cells ≡ cells_from other cells
unfolding settled_at
same_cells cells source other paired each =
    let width : ℕ = length cells in
    let alike : AreAlike cells width width source other = record
    { front = each; back = λ k h g. absurd (omega (arith, h, g)) } in
    cells_from-is other cells (cells_from source cells) (length-cells_from source cells) (λ k within.
    cell_at-cells_from source cells k within
    ∙ settled_alike cells paired _ _ _ _ _ _ (before_alike cells width width source other (omega arith) alike k within)
    (each k within) (after_alike cells width width source other (omega arith) alike k within))

abbrev pub AreBlank : List Cell → Type 0
AreBlank cells = (k : ℕ) → cell_at cells k ≡ blank

pub blanks_at : (count : ℕ) → AreBlank (replicate count blank)
blanks_at count k = ⊎_elim
    (λ h. get_or-replicate count k blank blank h)
    (λ h. get_or_past (replicate count blank) k blank (rw (length-replicate count blank) h))
    (cases_lt k count)

-- if only blanks follow, the columns after the cells that stay are blank
all_blank_behind : (at : ℕ) (fresh : List Cell) (rest used : ℕ) (cells : List Cell) → AreBlank fresh → used ≤ rest
    → IsBlankFrom used cells
    → (k : ℕ) → at ≤ k → taken cells (spliced at fresh rest (length cells) k) ≡ blank
all_blank_behind at fresh rest used cells new order blanks k past = ⊎_elim
    (λ (h : k < at + length fresh). ap (taken cells) (at_fresh at fresh rest (length cells) k past h) ∙ new (k - at))
    (λ (behind : at + length fresh ≤ k). ⊎_elim
    (λ (old : k + rest < at + length fresh + length cells). ap (taken cells)
    (at_rest at fresh rest (length cells) k behind old) ∙ blanks (k + rest - (at + length fresh)) (omega arith))
    (λ (end : at + length fresh + length cells ≤ k + rest). ap (taken cells)
    (at_end at fresh rest (length cells) k behind end))
    (cases_lt (k + rest) (at + length fresh + length cells)))
    (cases_lt k (at + length fresh))

pub all_blank_from : (at : ℕ) (fresh : List Cell) (rest used : ℕ) (cells : List Cell) → AreBlank fresh → used ≤ rest
    → IsBlankFrom used cells
    → (k : ℕ) → min used at ≤ k → taken cells (spliced at fresh rest (length cells) k) ≡ blank
all_blank_from at fresh rest used cells new order blanks k past = ⊎_elim
    (λ (h : k < at). ap (taken cells) (at_front at fresh rest (length cells) k h) ∙ blanks k (omega arith))
    (λ (h : at ≤ k). all_blank_behind at fresh rest used cells new order blanks k h)
    (cases_lt k at)

-- so such splices are the same, whatever their counts
pub splices_are_one : (at : ℕ) (fresh other : List Cell) (rest last used : ℕ) (cells : List Cell) → AreBlank fresh
    → AreBlank other → used ≤ rest → used ≤ last → IsPaired cells → IsBlankFrom used cells
    → cells_from (spliced at fresh rest (length cells)) cells ≡ cells_from (spliced at other last (length cells)) cells
splices_are_one at fresh other rest last used cells new new' order order' paired blanks =
    same_cells cells (spliced at fresh rest (length cells)) (spliced at other last (length cells)) paired
    (λ k within. ⊎_elim
    (λ (h : k < at). inl (at_front at fresh rest (length cells) k h ∙ sym (at_front at other last (length cells) k h)))
    (λ (h : at ≤ k). inr (
      all_blank_behind at fresh rest used cells new order blanks k h,
      all_blank_behind at other last used cells new'
          order' blanks k h,
    ))
    (cases_lt k at))

-- a splice of the cells before `end`, if only blanks leave them
pub front_spliced : (at : ℕ) (fresh : List Cell) (rest used end : ℕ) (cells : List Cell) → at + length fresh ≤ end
    → used ≤ end → end ≤ length cells
    → ((end ≡ length cells) ⊎ (used + (at + length fresh) ≤ end + rest)) → IsPaired cells → IsBlankFrom used cells
    → cells_from (spliced at fresh rest end) (take end cells) ++ drop end cells ≡ cells_from
    (spliced at fresh rest (length cells)) cells
front_spliced at fresh rest used end cells room order inside enough paired blanks =
    front_is cells end (spliced at fresh rest end) (spliced at fresh rest (length cells)) paired inside
    (λ k h. blanks k (omega arith)) (record {
      front = λ k h. ⊎_elim
          (λ (front : k < at). inl
          (at_front at fresh rest end k front ∙ sym (at_front at fresh rest (length cells) k front)))
          (λ (past : at ≤ k). ⊎_elim
          (λ (new : k < at + length fresh). inl
          (at_fresh at fresh rest end k past new ∙ sym (at_fresh at fresh rest (length cells) k past new)))
          (λ (behind : at + length fresh ≤ k). ⊎_elim
          (λ (old : k + rest < at + length fresh + end). let old' : k + rest < at + length fresh + length cells = omega
          arith in
          inl (at_rest at fresh rest end k behind old ∙ sym (at_rest at fresh rest (length cells) k behind old')))
          (λ (out : at + length fresh + end ≤ k + rest). inr
          (ap (taken cells) (at_end at fresh rest end k behind out), old_blank k behind (omega arith)))
          (cases_lt (k + rest) (at + length fresh + end)))
          (cases_lt k (at + length fresh)))
          (cases_lt k at);
      back = λ k h within. old_blank k (omega arith)
          (⊎_elim (λ (e : end ≡ length cells). absurd (omega arith))
          (λ (b : used + (at + length fresh) ≤ end + rest). omega arith) enough);
    })
  where
    old_blank : (k : ℕ) → at + length fresh ≤ k → used + (at + length fresh) ≤ k + rest
        → taken cells (spliced at fresh rest (length cells) k) ≡ blank
    old_blank k behind far = ⊎_elim
        (λ (old : k + rest < at + length fresh + length cells). ap (taken cells)
        (at_rest at fresh rest (length cells) k behind old) ∙ blanks (k + rest - (at + length fresh)) (omega arith))
        (λ (end : at + length fresh + length cells ≤ k + rest). ap (taken cells)
        (at_end at fresh rest (length cells) k behind end))
        (cases_lt (k + rest) (at + length fresh + length cells))
