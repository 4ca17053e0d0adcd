-- A composed view can be shown by a terminal.
use Rattle.view.proofs.Vocabulary.{◌≡◌, ℕ, suc, ◌+◌, ◌-◌, ◌<◌, ◌≤◌, Bool, true, false, ◌&&◌, List, [], ◌∷◌, ◌++◌}
use Rattle.view.proofs.Vocabulary.{length, map, refl, sym, ap, subst, ◌∙◌, arith, ⊎_elim, eq-eqb, if◌then◌else◌, ◌==◌}
use Rattle.view.proofs.Vocabulary.{nat_lt, chars, range_with_len, all_scalars, utf8_lossy, cases_lt, cases_eq, ne_eqb}
use Rattle.view.proofs.Vocabulary.{get_or_past, Cell, Narrow, blank, cell_at, is_left, narrow_cell, right_cell}
use Rattle.view.proofs.Vocabulary.{unprotected, plain, line_at, IsDrawableCell, IsDrawableLine, View, Rect, Rects, has}
use Rattle.view.proofs.Vocabulary.{times, one_if, IsDrawable, Piece, Part, vacant, unread, read, AreDrawable, pieces}
use Rattle.view.proofs.Vocabulary.{region_piece, separator_piece, status_piece, box_at, part_at, box_cell, part_cell}
use Rattle.view.proofs.Vocabulary.{caption_text, caption_rendition, first_shown, cell_of, reverse}
use Rattle.view.specs.Granted.{HasDrawableLines}
use Rattle.view.proofs.Composed.{Holds, Tiles, rects_of}
use Rattle.view.proofs.Laying.{InRect, in_has, cases_has}
use Rattle.view.proofs.Glyphs.{IsDrawnRow, text_drawn, line_drawn, same_drawn, drawable_blank, drawable_narrow}
use Rattle.view.proofs.Glyphs.{bar_glyph}

-- ---- the rows of one piece

narrow_row : (cell : Cell) (columns : ℕ) → cell.shape ≡ Narrow → IsDrawableCell cell → IsDrawnRow columns (λ k. cell)
narrow_row cell columns narrow d = record {
  printed = λ k. d;
  halves = λ k h left. let not : is_left Narrow ≡ true = ap is_left (sym narrow) ∙ left in cc;
}

no_line : IsDrawableLine []
no_line = record { printed = λ k h. absurd (omega arith); halves = λ k left. cc }

line_of : (lines : List (List Cell)) (n : ℕ) → ((line : ℕ) → line < length lines → IsDrawableLine (line_at lines line))
    → IsDrawableLine (line_at lines n)
line_of lines n d = ⊎_elim
    (λ (h : n < length lines). d n h)
    (λ (h : length lines ≤ n). rw (get_or_past lines n [] h) no_line)
    (cases_lt n (length lines))

part_drawn : (part : Part) (rows columns row : ℕ) → HasDrawableLines part
    → IsDrawnRow columns (part_cell part rows columns row)
part_drawn vacant rows columns row d = narrow_row blank columns refl drawable_blank
part_drawn (unread n) rows columns row d = narrow_row blank columns refl drawable_blank
part_drawn (read w) rows columns row d = line_drawn w.is_inverted (line_at w.lines (first_shown rows w.cursor + row))
    columns (line_of w.lines (first_shown rows w.cursor + row) d)

box_drawn : (box : Rect) (focused : Bool) (part : Part) (row : ℕ) → HasDrawableLines part
    → all_scalars (caption_text part) ≡ true → IsDrawnRow box.columns (box_cell box focused part row)
box_drawn box focused part row d text = ⊎_elim
    (λ (e : row + 1 ≡ box.rows). same_drawn _ _ box.columns (λ k. rw (eq-eqb (row + 1) box.rows e) refl)
    (text_drawn (caption_rendition focused) (caption_text part) box.columns text))
    (λ (ne : row + 1 ≡ box.rows → ⊥). same_drawn _ _ box.columns (λ k. rw (ne_eqb (row + 1) box.rows ne) refl)
    (part_drawn part (box.rows - 1) box.columns row d))
    (cases_eq (row + 1) box.rows)

pub record IsDrawn (p : Piece) : Type 0 where
  rows : (row : ℕ) → IsDrawnRow p.rect.columns (p.cell row)

-- ---- several pieces

pub AllDrawn : List Piece → Type 0
AllDrawn [] = Prim.Unit {0}
AllDrawn (p ∷ ps) = IsDrawn p × AllDrawn ps

drawn_append : (ps qs : List Piece) → AllDrawn ps → AllDrawn qs → AllDrawn (ps ++ qs)
unfolding AllDrawn
drawn_append [] qs a b = b
drawn_append (p ∷ ps) qs a b = (a.0, drawn_append ps qs a.1 b)

drawn_regions : (r : Rects) (ps : List Part) (ns : List ℕ) → ((n : ℕ) → IsDrawn (region_piece r ps n))
    → AllDrawn (map (region_piece r ps) ns)
unfolding AllDrawn
drawn_regions r ps [] d = tt
drawn_regions r ps (n ∷ ns) d = (d n, drawn_regions r ps ns d)

drawn_separators : (rs : List Rect) → AllDrawn (map separator_piece rs)
unfolding AllDrawn
drawn_separators [] = tt
drawn_separators (r ∷ rs) = (
  record {
    rows = λ row. narrow_row (narrow_cell 0x7C reverse false) r.columns refl (drawable_narrow 0x7C reverse bar_glyph);
  },
  drawn_separators rs,
)

-- captions beyond the parts are those of empty regions
every_text : (ps : List Part) → ((n : ℕ) → n < length ps → all_scalars (caption_text (part_at ps n)) ≡ true) → (n : ℕ)
    → all_scalars (caption_text (part_at ps n)) ≡ true
every_text ps h n = ⊎_elim
    (λ (lt : n < length ps). h n lt)
    (λ (ge : length ps ≤ n). rw (get_or_past ps n vacant ge) refl)
    (cases_lt n (length ps))

pub pieces_drawn : (r : Rects) (ps : List Part) (text : List ℕ) → AreDrawable ps
    → ((n : ℕ) → n < length ps → all_scalars (caption_text (part_at ps n)) ≡ true)
    → all_scalars (chars (utf8_lossy text)) ≡ true → AllDrawn (pieces r ps text)
unfolding AllDrawn
pieces_drawn r ps text d captions status =
    drawn_append (map (region_piece r ps) (range_with_len 0 (length r.boxes.items))) _
    (drawn_regions r ps (range_with_len 0 (length r.boxes.items))
    (λ n. record
    { rows = λ row. box_drawn (box_at r n) (n == r.focus) (part_at ps n) row (d n) (every_text ps captions n) }))
    (drawn_append (map separator_piece r.separators.items) (status_piece r.status text ∷ [])
    (drawn_separators r.separators.items)
    (record { rows = λ row. text_drawn plain (chars (utf8_lossy text)) r.status.columns status }, tt))

printed_of : (ps : List Piece) (l c : ℕ) → AllDrawn ps → IsDrawableCell (cell_of ps l c)
unfolding AllDrawn
printed_of [] l c d = drawable_blank
printed_of (p ∷ ps) l c d = go (has p.rect l c) (printed_of ps l c d.1)
  where
    go : (b : Bool) → IsDrawableCell (cell_of ps l c)
        → IsDrawableCell (if b then p.cell (l - p.rect.line) (c - p.rect.column) else cell_of ps l c)
    go true x = (d.0.rows (l - p.rect.line)).printed (c - p.rect.column)
    go false x = x

-- the right half of what the pieces have at a place
abbrev HasRightHalf : List Piece → ℕ → ℕ → Type 0
HasRightHalf ps l c = (0 < times (rects_of ps) l (suc c))
    × (unprotected (cell_of ps l (suc c)) ≡ right_cell (cell_of ps l c).character (cell_of ps l c).rendition false)

halves_of : (ps : List Piece) → AllDrawn ps → ((l c : ℕ) → times (rects_of ps) l c ≤ 1) → (l c : ℕ)
    → is_left (cell_of ps l c).shape ≡ true → HasRightHalf ps l c
unfolding AllDrawn
halves_of [] d once l c left = cc
halves_of (p ∷ ps) d once l c left = ⊎_elim inside (outside (halves_of ps d.1 (λ i j. omega (arith, once i j)) l c))
    (cases_has p.rect l c)
  where
    inside : InRect p.rect l c → HasRightHalf (p ∷ ps) l c
    inside i =
        let here : cell_of (p ∷ ps) l c ≡ p.cell (l - p.rect.line) (c - p.rect.column) = rw (in_has p.rect l c i) refl
        in
        let half = (d.0.rows (l - p.rect.line)).halves (c - p.rect.column) (omega (arith, i.left, i.right))
        (rw here at left) in
        let behind : suc (c - p.rect.column) ≡ suc c - p.rect.column = omega (arith, i.left) in
        let has_next : has p.rect l (suc c) ≡ true = in_has p.rect l (suc c)
        (record
        { above = i.above; below = i.below; left = omega (arith, i.left); right = omega (arith, half.0, i.left) })
        in
        let next : cell_of (p ∷ ps) l (suc c) ≡ p.cell (l - p.rect.line) (suc c - p.rect.column) = rw has_next refl in
        let one : one_if (has p.rect l (suc c)) ≡ 1 = rw has_next refl in (
          omega (arith, one),
          ap unprotected (next ∙ ap (p.cell (l - p.rect.line)) (sym behind)) ∙ half.1
              ∙ ap (λ (x : Cell). right_cell x.character x.rendition false) (sym here),
        )

    outside : (is_left (cell_of ps l c).shape ≡ true → HasRightHalf ps l c) → has p.rect l c ≡ false
        → HasRightHalf (p ∷ ps) l c
    outside rest out =
        let here : cell_of (p ∷ ps) l c ≡ cell_of ps l c = rw out refl in
        let half = rest (rw here at left) in
        let none : has p.rect l (suc c) ≡ false = ⊎_elim
        (λ (i : InRect p.rect l (suc c)). let one : one_if (has p.rect l (suc c)) ≡ 1 = rw (in_has p.rect l (suc c) i)
        refl in absurd (omega (arith, once l (suc c), one, half.0)))
        (λ (f : has p.rect l (suc c) ≡ false). f)
        (cases_has p.rect l (suc c))
        in
        let next : cell_of (p ∷ ps) l (suc c) ≡ cell_of ps l (suc c) = rw none refl in (
          omega (arith, half.0),
          ap unprotected next ∙ half.1
              ∙ ap (λ (x : Cell). right_cell x.character x.rendition false) (sym here),
        )

few : (b : Bool) → one_if b ≤ 1
few true = omega arith
few false = omega arith

pub view_drawn : (ps : List Piece) (rows columns : ℕ) (v : View) → Tiles ps rows columns → AllDrawn ps → Holds ps v
    → IsDrawable v
view_drawn ps rows columns v tiles d holds = record {
  lines = λ line h. record {
    printed = λ c k. subst IsDrawableCell (sym (holds.cells_are line c)) (printed_of ps line c d);
    halves = λ c left.
        let once : (i j : ℕ)
        → times (rects_of ps) i j ≤ 1 = λ i j. omega (arith, tiles i j, few (nat_lt i rows && nat_lt j columns)) in
        let here : cell_at (line_at v.page line) c ≡ cell_of ps line c = holds.cells_are line c in
        let half = halves_of ps d once line c (ap (λ (x : Cell). is_left x.shape) (sym here) ∙ left) in
        ap unprotected (holds.cells_are line (suc c)) ∙ half.1
        ∙ ap (λ (x : Cell). right_cell x.character x.rendition false) (sym here);
  };
}
