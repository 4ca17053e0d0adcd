-- New cells in drawable lines, marks, kept lines and lines of another width are drawable.
use Rattle.terminal_model.proofs.Vocabulary.{◌≡◌, ℕ, ◌-◌, ◌<◌, Bool, false, ◌&&◌, List, [], ◌∷◌, length, map, set}
use Rattle.terminal_model.proofs.Vocabulary.{replicate, refl, ap, ◌∙◌, subst, arith, Cell, Rendition, blank, cell_at}
use Rattle.terminal_model.proofs.Vocabulary.{is_right, kept, marked, narrow_cell, left_cell, right_cell, spliced}
use Rattle.terminal_model.proofs.Vocabulary.{line_at, Origin, New, From, are_own_halves, settled_cell, origin_before}
use Rattle.terminal_model.proofs.Vocabulary.{origin_after, page_from, on_line, edited, page_marked, line_resized}
use Rattle.terminal_model.proofs.Vocabulary.{page_resized, Page, with_newest, IsGlyph, IsDrawableCell, IsDrawableLine}
use Rattle.terminal_model.proofs.Vocabulary.{AreDrawableLines, place, line_from-resized, nat_tests, common_steps}
use Rattle.cells.proofs.Settling.{right_kept}
use Rattle.terminal_model.proofs.Items.{item-replicated, item-built, item-mapped, item-set, item-newest}
use Rattle.terminal_model.proofs.DrawableOrigins.{drawable_blank, cell_drawable, Follows, AreDrawable}
use Rattle.terminal_model.proofs.DrawableOrigins.{line_from-drawable, drawable_nil, from_drawable}

-- new cells in a line
pub spliced_drawable : (at : ℕ) (fresh : List Cell) (rest width line : ℕ) → IsDrawableLine fresh
    → AreDrawable (λ column. on_line line (spliced at fresh rest width column))
spliced_drawable at fresh rest width line h = grind (arith, cell_drawable, drawable_blank)

-- NEW CELLS

pub blanks_drawable : (n : ℕ) → IsDrawableLine (replicate n blank)
blanks_drawable n = grind (arith, common_steps, item-replicated, drawable_blank, Follows)

pub narrow_drawable : (c : ℕ) (r : Rendition) (p : Bool) → IsGlyph 1 c → IsDrawableLine (narrow_cell c r p ∷ [])
narrow_drawable c r p h = grind (arith, common_steps)

pub wide_drawable : (c : ℕ) (r : Rendition) (p : Bool) → IsGlyph 2 c
    → IsDrawableLine (left_cell c r p ∷ right_cell c r p ∷ [])
wide_drawable c r p h = grind (arith, common_steps)

-- the first new cell stays if it is no right half
pub first_stays : (line at rest width : ℕ) (fresh : List Cell) (page : Page) → 0 < length fresh
    → is_right (cell_at fresh 0).shape ≡ false
    → is_right (place (page_from (edited line (spliced at fresh rest width)) page) line at).shape ≡ false
first_stays line at rest width fresh page some h =
    let origin : ℕ → Origin = edited line (spliced at fresh rest width) line in
    let columns : ℕ = length (line_at page line) in
    item-built (λ (l : List Cell). is_right (cell_at l at).shape ≡ false) _ (length page) [] line
    (λ inside. item-built (λ (c : Cell). is_right c.shape ≡ false) _ columns blank at
    (λ within. no_right_settled (origin_before origin at) (origin at) (origin_after origin columns at) origin_is)
    refl) refl
  where
    no_right_settled : (before here after : Origin) → here ≡ New (cell_at fresh 0)
        → is_right (settled_cell page before here after).shape ≡ false
    no_right_settled before here after e =
        rw e (right_kept (cell_at fresh 0).shape (cell_at fresh 0) (are_own_halves (New (cell_at fresh 0)) after)
        (are_own_halves before (New (cell_at fresh 0))) refl
        ∙ ap (λ b. b && are_own_halves before (New (cell_at fresh 0))) h)

    origin_is : edited line (spliced at fresh rest width) line at ≡ New (cell_at fresh 0)
    origin_is = let none : at - at ≡ 0 = omega arith in grind (arith, nat_tests)

-- MARKS

-- a mark on a cell that is no right half
marked_line : (cells : List Cell) (at mark : ℕ) → IsDrawableLine cells → is_right (cell_at cells at).shape ≡ false
    → IsGlyph 0 mark → IsDrawableLine (set cells at (marked (cell_at cells at) mark))
marked_line cells at mark h none g = record {
  printed = λ column inside. item-set IsDrawableCell cells at (marked (cell_at cells at) mark) blank column
      (cell_marked (cell_at cells at) mark (cell_drawable cells h at) g) (cell_drawable cells h column) drawable_blank;
  halves = λ column left. grind (arith, common_steps, h.halves column);
}
  where
    cell_marked : (cell : Cell) (mark : ℕ) → IsDrawableCell cell → IsGlyph 0 mark → IsDrawableCell (marked cell mark)
    cell_marked cell mark h g = grind (arith, common_steps)

pub marked_drawable : (line column mark : ℕ) (page : Page) → AreDrawableLines page
    → is_right (place page line column).shape ≡ false → IsGlyph 0 mark
    → AreDrawableLines (page_marked line column mark page)
marked_drawable line column mark page h none g n =
    item-set IsDrawableLine page line _ [] n (marked_line (line_at page line) column mark (h line) none g) (h n)
    drawable_nil

pub marked_stays : (line column mark : ℕ) (page : Page) → is_right (place page line column).shape ≡ false
    → is_right (place (page_marked line column mark page) line column).shape ≡ false
marked_stays line column mark page none = grind (arith, common_steps)

-- KEPT LINES

pub taken_drawable : (keep : ℕ) (line : List Cell) (kept : Page) → IsDrawableLine line → AreDrawableLines kept
    → AreDrawableLines (with_newest keep line kept)
taken_drawable keep line kept h k n = item-newest IsDrawableLine keep line kept [] n h (λ m less. k m)
    (λ past. drawable_nil)

-- A CHANGE OF SIZE

pub page_resized-drawable : (rows columns : ℕ) (page : Page) → AreDrawableLines page
    → AreDrawableLines (page_resized rows columns page)
page_resized-drawable rows columns page h line = item-built IsDrawableLine _ rows [] line
    (λ inside. line_from-drawable (From line) columns page h (from_drawable line)) drawable_nil

pub kept_resized-drawable : (columns : ℕ) (kept : Page) → AreDrawableLines kept
    → AreDrawableLines (map (line_resized columns) kept)
kept_resized-drawable columns kept h n =
    item-mapped IsDrawableLine (line_resized columns) kept [] n (subst IsDrawableLine (line_from-resized kept n columns)
    (line_from-drawable (From n) columns kept h (from_drawable n))) drawable_nil
