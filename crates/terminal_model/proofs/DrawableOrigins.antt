-- Lines and pages of drawable lines are drawable.
use Rattle.terminal_model.proofs.Vocabulary.{◌≡◌, ℕ, suc, ◌<◌, ◌≤◌, Bool, true, false, cond, List, [], length, arith}
use Rattle.terminal_model.proofs.Vocabulary.{⊎_elim, eq-eqb, get_or-map-range_with_len, cases_lt, ne_eqb, nat_tests}
use Rattle.terminal_model.proofs.Vocabulary.{Cell, blank, cell_at, is_left, is_right, kept, unprotected, right_cell}
use Rattle.terminal_model.proofs.Vocabulary.{Source, line_at, Origin, New, From, are_own_halves, settled_cell}
use Rattle.terminal_model.proofs.Vocabulary.{origin_before, origin_after, page_from, on_line, edited, cell_at_past}
use Rattle.terminal_model.proofs.Vocabulary.{length-line_from, Page, IsDrawableCell, IsDrawableLine, AreDrawableLines}
use Rattle.terminal_model.proofs.Items.{item-built}
use Rattle.cells.specs.declared.cell.Shape.{Shape}
use Rattle.cells.specs.Page.{cell_from, line_from}
use Rattle.terminal_model.proofs.DrawableGlyphs.{space}

-- CELLS

pub drawable_blank : IsDrawableCell blank
drawable_blank = record { glyph = space; marks = tt }

pub cell_drawable : (cells : List Cell) → IsDrawableLine cells → (column : ℕ) → IsDrawableCell (cell_at cells column)
cell_drawable cells h column = grind (arith, cell_at_past, drawable_blank)

-- the cell after a left half is its right half
abbrev pub Follows : Cell → Cell → Type 0
Follows left right = is_left left.shape ≡ true → unprotected right ≡ right_cell left.character left.rendition false

kept_drawable : (s : Shape) (cell : Cell) (p q : Bool) → IsDrawableCell cell → IsDrawableCell (kept s cell p q)
kept_drawable s cell p q h = grind (arith, nat_tests, drawable_blank)

-- both halves come along, or neither
kept_follow : (s t : Shape) (l r : Cell) (w q p : Bool) → l.shape ≡ s → r.shape ≡ t → (w ≡ true → Follows l r)
    → Follows (kept s l w q) (kept t r p w)
kept_follow s t l r w q p h k m = grind (arith, nat_tests)

-- LINES FROM ORIGINS

abbrev pub IsDrawableOrigin : Origin → Type 0
IsDrawableOrigin (New cell) = IsDrawableCell cell
IsDrawableOrigin (From line column) = Prim.Unit {0}

-- of two neighbouring new cells, a right half is the other half of the left one
abbrev pub Pairs : Origin → Origin → Type 0
Pairs (New left) (New right) = is_right right.shape ≡ true → Follows left right
Pairs (New left) (From line column) = Prim.Unit {0}
Pairs (From line column) after = Prim.Unit {0}

pub record AreDrawable (origin : ℕ → Origin) : Type 0 where
  pub cells : (column : ℕ) → IsDrawableOrigin (origin column)
  pub halves : (column : ℕ) → Pairs (origin column) (origin (suc column))

origin_drawable : (page : Page) → AreDrawableLines page → (o : Origin) → IsDrawableOrigin o
    → IsDrawableCell (cell_from page o)
origin_drawable page h (New cell) k = k
origin_drawable page h (From line column) k = cell_drawable (line_at page line) (h line) column

own_follow : (page : Page) → AreDrawableLines page → (a b : Origin) → Pairs a b → are_own_halves a b ≡ true
    → Follows (cell_from page a) (cell_from page b)
own_follow page h (New l) (New r) k w = grind (arith, k)
own_follow page h (New l) (From m d) k w = absurd (cc)
own_follow page h (From n c) (New r) k w = absurd (cc)
own_follow page h (From n c) (From m d) k w = grind (arith, nat_tests, (h n).halves c)

settled_drawable : (page : Page) → AreDrawableLines page → (before here after : Origin) → IsDrawableOrigin here
    → IsDrawableCell (settled_cell page before here after)
settled_drawable page h before here after k = search (kept_drawable, origin_drawable)

settled_follow : (page : Page) → AreDrawableLines page → (before a b after : Origin) → Pairs a b
    → Follows (settled_cell page before a b) (settled_cell page a b after)
settled_follow page h before a b after k = grind (arith, kept_follow, own_follow)

pairs_blank : (o : Origin) → Pairs o (New blank)
pairs_blank o = grind (arith, nat_tests)

pub line_from-drawable : (origin : ℕ → Origin) (width : ℕ) (page : Page) → AreDrawableLines page → AreDrawable origin
    → IsDrawableLine (line_from origin width page)
line_from-drawable origin width page h k = record {
  printed = λ n inside. item-built IsDrawableCell _ width blank n
      (λ less. settled_drawable page h (origin_before origin n) (origin n) (origin_after origin width n) (k.cells n))
      drawable_blank;
  halves = λ n. item-built (λ (c : Cell). Follows c (cell_at (line_from origin width page) (suc n))) _ width blank n
      (λ less. ⊎_elim
      (λ (inside : suc n < width).
      rw (get_or-map-range_with_len _ 0 width (suc n) (suc n) blank inside (omega arith))
      (rw (ne_eqb (suc n) width (omega arith))
      (settled_follow page h (origin_before origin n) (origin n) (origin (suc n)) (origin_after origin width (suc n))
      (k.halves n))))
      (λ (past : width ≤ suc n).
      rw (cell_at_past (line_from origin width page) (suc n) (rw (length-line_from origin width page) past))
      (rw (eq-eqb (suc n) width (omega arith))
      (settled_follow page h (origin_before origin n) (origin n) (New blank) (New blank) (pairs_blank (origin n)))))
      (cases_lt (suc n) width))
      (λ left. absurd (cc));
}

pub drawable_nil : IsDrawableLine []
drawable_nil = record { printed = λ column h. absurd (omega arith); halves = λ column left. absurd (cc) }

pub page_from-drawable : (origin : ℕ → ℕ → Origin) (page : Page) → AreDrawableLines page
    → ((line : ℕ) → AreDrawable (origin line)) → AreDrawableLines (page_from origin page)
page_from-drawable origin page h k line = item-built IsDrawableLine _ (length page) [] line
    (λ inside. line_from-drawable (origin line) (length (line_at page line)) page h (k line)) drawable_nil

-- ORIGINS

pub from_drawable : (line : ℕ) → AreDrawable (From line)
from_drawable line = record { cells = λ column. tt; halves = λ column. tt }

-- only old cells and blanks
abbrev pub IsOldOrBlank : Origin → Type 0
IsOldOrBlank (New cell) = cell ≡ blank
IsOldOrBlank (From line column) = Prim.Unit {0}

pub old_or_blank : (origin : ℕ → Origin) → ((column : ℕ) → IsOldOrBlank (origin column)) → AreDrawable origin
old_or_blank origin h = grind (arith, drawable_blank)

pub old_or_blank_if : (b : Bool) (x y : Origin) → IsOldOrBlank x → IsOldOrBlank y → IsOldOrBlank (cond b x y)
old_or_blank_if b x y h k = grind (arith, nat_tests)

pub drawable_if : (b : Bool) (f g : ℕ → Origin) → AreDrawable f → AreDrawable g
    → AreDrawable (λ column. cond b (f column) (g column))
drawable_if b f g h k = grind (arith, nat_tests)

-- one line is edited
pub edited_drawable : (at : ℕ) (source : ℕ → Source)
    → ((line : ℕ) → AreDrawable (λ column. on_line line (source column))) → (line : ℕ)
    → AreDrawable (edited at source line)
edited_drawable at source h line = search (drawable_if, from_drawable)
