-- What a composed view shows can be shown by a terminal: its characters, and the lines of windows.
use Rattle.view.proofs.Vocabulary.{◌≡◌, ℕ, zero, suc, ◌+◌, ◌<◌, ◌≤◌, Bool, true, false, ◌&&◌, ◌||◌, cond, eqb, ltb, leb}
use Rattle.view.proofs.Vocabulary.{List, [], ◌∷◌, ◌++◌, length, get_or, refl, sym, ap, subst, ◌∙◌, arith, ⊎_elim, ◌⊎◌}
use Rattle.view.proofs.Vocabulary.{inl, inr, eq-eqb, lt-ltb, Option, Some, None, ◌==◌, all_scalars, cases_lt, ne_eqb}
use Rattle.view.proofs.Vocabulary.{le-ltb, leb-true, eqb-true, get_or_past, get_or_default, Cell, Rendition, Narrow}
use Rattle.view.proofs.Vocabulary.{Right, drawn_as, glyph_columns, blank, cell_at, is_left, narrow_cell, left_cell}
use Rattle.view.proofs.Vocabulary.{right_cell, unprotected, columns_of, drawn, IsDrawableCell, IsDrawableLine}
use Rattle.view.proofs.Vocabulary.{char_width, and_false, line_cell, shown_cell, visible, uncut, text_cells, text_at}
use lib.Utf8.{scalar}
use Rattle.std.specs.Char.{IsScalar}
use Rattle.terminal_model.specs.Drawable.{IsGlyph, HasHalves}
use Rattle.unicode_width.specs.Width.{alone}
use Rattle.view.proofs.Pairing.{uncut_before, uncut_last, shown_line, line_is, shown_shape}
use Rattle.unicode_width.proofs.Computing.{unicode_width}

-- ---- characters

or_true : (b : Bool) → (b || true) ≡ true
or_true true = refl
or_true false = refl

-- no control: U+0020 to U+007E, and from U+00A0 on
abbrev is_printable : ℕ → Bool
is_printable c = (ltb 0x1F c && ltb c 0x7F) || ltb 0x9F c

-- a character that has a width is printable
printable_by : (c : ℕ) (low some high : Bool) (v w : ℕ) → ltb c 0x7F ≡ low → leb 0x20 c ≡ some → leb 0xA0 c ≡ high
    → cond low (cond some (Some 1) None) (cond high (Some v) None) ≡ Some w → is_printable c ≡ true
printable_by c true true high v w l s h e =
    let above : 0x1F < c = omega (arith, leb-true 0x20 c s) in
    rw (lt-ltb 0x1F c above, l) refl
printable_by c true false high v w l s h e = cc
printable_by c false some true v w l s h e =
    let above : 0x9F < c = omega (arith, leb-true 0xA0 c h) in
    rw (lt-ltb 0x9F c above) (or_true _)
printable_by c false some false v w l s h e = cc

printable_of : (c w : ℕ) → char_width false c ≡ Some w → is_printable c ≡ true
unfolding char_width
printable_of c w e = printable_by c (ltb c 0x7F) (leb 0x20 c) (leb 0xA0 c) (alone false c).0 w refl refl refl e

abbrev shown_by : Option ℕ → ℕ → ℕ
shown_by w c = cond (eqb (glyph_columns w) 0) 0xFFFD (drawn_as w c)

visible-is : (c : ℕ) (w : Option ℕ) → char_width false c ≡ w → visible c ≡ shown_by w c
unfolding columns_of drawn
visible-is c w e = ap (λ (x : Option ℕ). shown_by x c) e

glyph_of : (c n w : ℕ) → IsScalar c → char_width false c ≡ Some w → glyph_columns (Some w) ≡ n → drawn_as (Some w) c ≡ c
    → IsGlyph n c
unfolding columns_of drawn
glyph_of c n w scalar e columns stays = record {
  given = (printable_of c w e, scalar);
  columns_are = ap glyph_columns e ∙ columns;
  stays = ap (λ (x : Option ℕ). drawn_as x c) e ∙ stays;
}

pub wide_glyph : (c : ℕ) → IsScalar c → columns_of c ≡ 2 → IsGlyph 2 c
unfolding columns_of
wide_glyph c scalar h = go (char_width false c) refl h
  where
    go : (w : Option ℕ) → char_width false c ≡ w → glyph_columns w ≡ 2 → IsGlyph 2 c
    go None e k = absurd (omega arith)
    go (Some zero) e k = absurd (omega arith)
    go (Some (suc zero)) e k = absurd (omega arith)
    go (Some (suc (suc zero))) e k = glyph_of c 2 2 scalar e refl refl
    go (Some (suc (suc (suc more)))) e k = absurd (omega arith)

replacement : IsGlyph 1 0xFFFD
unfolding columns_of drawn unicode_width
replacement = record { given = (refl, refl); columns_are = refl; stays = refl }

pub space_glyph : IsGlyph 1 0x20
unfolding columns_of drawn unicode_width
space_glyph = record { given = (refl, refl); columns_are = refl; stays = refl }

pub bar_glyph : IsGlyph 1 0x7C
unfolding columns_of drawn unicode_width
bar_glyph = record { given = (refl, refl); columns_are = refl; stays = refl }

pub narrow_glyph : (c : ℕ) → IsScalar c → (columns_of c ≡ 2 → ⊥) → IsGlyph 1 (visible c)
unfolding columns_of
narrow_glyph c scalar h = go (char_width false c) refl (λ k. h k)
  where
    go : (w : Option ℕ) → char_width false c ≡ w → (glyph_columns w ≡ 2 → ⊥) → IsGlyph 1 (visible c)
    go None e k = subst (IsGlyph 1) (sym (visible-is c None e)) replacement
    go (Some zero) e k = subst (IsGlyph 1) (sym (visible-is c (Some zero) e)) replacement
    go (Some (suc zero)) e k = subst (IsGlyph 1) (sym (visible-is c (Some 1) e)) (glyph_of c 1 1 scalar e refl refl)
    go (Some (suc (suc zero))) e k = absurd (k refl)
    go (Some (suc (suc (suc zero)))) e k = subst (IsGlyph 1) (sym (visible-is c (Some 3) e)) replacement
    go (Some (suc (suc (suc (suc more))))) e k =
        let w : ℕ = suc (suc (suc (suc more))) in
        let other : eqb w 3 ≡ false = ne_eqb w 3 (λ x. omega arith) in
        let stays : drawn_as (Some w) c ≡ c = rw other refl in
        subst (IsGlyph 1) (sym (visible-is c (Some w) e ∙ stays)) (glyph_of c 1 w scalar e refl stays)

-- ---- cells of texts

pub drawable_narrow : (c : ℕ) (r : Rendition) → IsGlyph 1 c → IsDrawableCell (narrow_cell c r false)
drawable_narrow c r g = record { glyph = g; marks = tt }

pub drawable_blank : IsDrawableCell blank
drawable_blank = record { glyph = space_glyph; marks = tt }

both : (a b : Bool) → (a && b) ≡ true → (a ≡ true) × (b ≡ true)
both true true h = (refl, refl)
both true false h = cc
both false b h = cc

clash : (b : Bool) → b ≡ true → b ≡ false → ⊥
clash b t f = cc

text_printed : (r : Rendition) (cs : List ℕ) → all_scalars cs ≡ true → (k : ℕ)
    → IsDrawableCell (cell_at (text_cells r cs) k)
text_printed r [] h k = subst IsDrawableCell (sym (get_or_past [] k blank (omega arith))) drawable_blank
text_printed r (c ∷ cs) h k = go (text_printed r cs (both (scalar c) (all_scalars cs) h).1) (eqb (columns_of c) 2) refl
    k
  where
    go : ((n : ℕ) → IsDrawableCell (cell_at (text_cells r cs) n)) → (wide : Bool) → eqb (columns_of c) 2 ≡ wide
        → (n : ℕ)
        → IsDrawableCell
        (cell_at
        (cond wide (left_cell c r false ∷ right_cell c r false ∷ []) (narrow_cell (visible c) r false ∷ []) ++
        text_cells r cs) n)
    go rest true e zero = record
        { glyph = wide_glyph c (both (scalar c) (all_scalars cs) h).0 (eqb-true (columns_of c) 2 e); marks = tt }
    go rest true e (suc zero) = record { glyph = tt; marks = tt }
    go rest true e (suc (suc n)) = rest n
    go rest false e zero = drawable_narrow (visible c) r
        (narrow_glyph c (both (scalar c) (all_scalars cs) h).0
        (λ x. clash (eqb (columns_of c) 2) (eq-eqb (columns_of c) 2 x) e))
    go rest false e (suc n) = rest n

text_halves : (r : Rendition) (cs : List ℕ) → HasHalves (text_cells r cs)
text_halves r [] k left = cc
text_halves r (c ∷ cs) k left = go (text_halves r cs) (eqb (columns_of c) 2) k left
  where
    go : HasHalves (text_cells r cs) → (wide : Bool)
        → HasHalves
        (cond wide (left_cell c r false ∷ right_cell c r false ∷ []) (narrow_cell (visible c) r false ∷ []) ++
        text_cells r cs)
    go rest true zero l = refl
    go rest true (suc zero) l = cc
    go rest true (suc (suc n)) l = rest n l
    go rest false zero l = cc
    go rest false (suc n) l = rest n l

-- ---- rows that are cut at an edge

-- each of these cells can be printed, and each left half is followed by its right half
pub record AreDrawn (whole : ℕ → Cell) : Type 0 where
  pub printed : (k : ℕ) → IsDrawableCell (whole k)
  pub halves : (k : ℕ) → is_left (whole k).shape ≡ true
      → unprotected (whole (suc k)) ≡ right_cell (whole k).character (whole k).rendition false

-- each cell of a row of n columns can be printed, and each left half is followed by its right half
pub record IsDrawnRow (columns : ℕ) (cell : ℕ → Cell) : Type 0 where
  pub printed : (k : ℕ) → IsDrawableCell (cell k)
  pub halves : (k : ℕ) → k < columns → is_left (cell k).shape ≡ true → (suc k < columns)
      × (unprotected (cell (suc k)) ≡ right_cell (cell k).character (cell k).rendition false)

uncut_is : (b : Bool) (cell other : Cell) → IsDrawableCell cell → IsDrawableCell other
    → IsDrawableCell (cond b other cell)
uncut_is true cell other p q = q
uncut_is false cell other p q = p

uncut_right_half : (columns k : ℕ) (cell other : Cell) → is_left cell.shape ≡ false → uncut columns k cell other ≡ cell
uncut_right_half columns k cell other h = rw (h, and_false (eqb (k + 1) columns)) refl

not_left : (cell : Cell) (c : ℕ) (r : Rendition) → unprotected cell ≡ right_cell c r false → is_left cell.shape ≡ false
not_left cell c r e = ap (λ (x : Cell). is_left x.shape) e

pub cut_drawn : (whole : ℕ → Cell) (columns : ℕ) (other : Cell) → AreDrawn whole → IsDrawableCell other
    → is_left other.shape ≡ false → IsDrawnRow columns (λ k. uncut columns k (whole k) other)
cut_drawn whole columns other drawn ok ol = record {
  printed = λ k. uncut_is ((k + 1 == columns) && is_left (whole k).shape) (whole k) other (drawn.printed k) ok;
  halves = λ k h left.
      let inside : k + 1 ≡ columns → ⊥ = λ e. clash _ left (uncut_last columns k (whole k) other e ol) in
      let same : uncut columns k (whole k) other ≡ whole k = uncut_before columns k (whole k) other inside in
      let half = drawn.halves k (rw same at left) in
      let next : uncut columns (suc k) (whole (suc k)) other ≡ whole (suc k) = uncut_right_half columns (suc k)
      (whole (suc k)) other (not_left (whole (suc k)) _ _ half) in (
        omega (arith, inside),
        ap unprotected next ∙ half
            ∙ ap (λ (x : Cell). right_cell x.character x.rendition false) (sym same),
      );
}

pub same_drawn : (f g : ℕ → Cell) (columns : ℕ) → ((k : ℕ) → f k ≡ g k) → IsDrawnRow columns f → IsDrawnRow columns g
same_drawn f g columns same row = record {
  printed = λ k. subst IsDrawableCell (same k) (row.printed k);
  halves = λ k h left.
      let half = row.halves k h (ap (λ (x : Cell). is_left x.shape) (same k) ∙ left) in (
        half.0,
        ap unprotected (sym (same (suc k))) ∙ half.1
            ∙ ap (λ (x : Cell). right_cell x.character x.rendition false) (same k),
      );
}

-- ---- a text

spaced : (cells : List Cell) (r : Rendition) (k : ℕ)
    → (k < length cells) ⊎
    ((get_or cells k (narrow_cell 0x20 r false) ≡ narrow_cell 0x20 r false) × (cell_at cells k ≡ blank))
spaced cells r k = ⊎_elim (λ (h : k < length cells). inl h)
    (λ (h : length cells ≤ k). inr (get_or_past cells k (narrow_cell 0x20 r false) h, get_or_past cells k blank h))
    (cases_lt k (length cells))

text_whole : (r : Rendition) (cs : List ℕ) → all_scalars cs ≡ true
    → AreDrawn (λ k. get_or (text_cells r cs) k (narrow_cell 0x20 r false))
text_whole r cs h = record {
  printed = λ k. ⊎_elim
      (λ (lt : k < length (text_cells r cs)). subst IsDrawableCell
      (get_or_default (text_cells r cs) k blank (narrow_cell 0x20 r false) lt) (text_printed r cs h k))
      (λ past. subst IsDrawableCell (sym past.0) (drawable_narrow 0x20 r space_glyph))
      (spaced (text_cells r cs) r k);
  halves = λ k left. ⊎_elim
      (λ (lt : k < length (text_cells r cs)).
      let here : get_or (text_cells r cs) k (narrow_cell 0x20 r false) ≡ cell_at (text_cells r cs) k = sym
      (get_or_default (text_cells r cs) k blank (narrow_cell 0x20 r false) lt) in
      let half = text_halves r cs k (rw here at left) in
      ⊎_elim
      (λ (next : suc k < length (text_cells r cs)).
      ap unprotected (sym (get_or_default (text_cells r cs) (suc k) blank (narrow_cell 0x20 r false) next)) ∙ half
      ∙ ap (λ (x : Cell). right_cell x.character x.rendition false) (sym here))
      (λ past. let shape : Narrow ≡ Right = ap (λ (x : Cell). x.shape) (ap unprotected (sym past.1) ∙ half) in cc)
      (spaced (text_cells r cs) r (suc k)))
      (λ past. let not : is_left Narrow ≡ true = ap (λ (x : Cell). is_left x.shape) (sym past.0) ∙ left in cc)
      (spaced (text_cells r cs) r k);
}

pub text_drawn : (r : Rendition) (cs : List ℕ) (columns : ℕ) → all_scalars cs ≡ true
    → IsDrawnRow columns (text_at r cs columns)
text_drawn r cs columns h = cut_drawn (λ k. get_or (text_cells r cs) k (narrow_cell 0x20 r false)) columns
    (narrow_cell 0x20 r false) (text_whole r cs h) (drawable_narrow 0x20 r space_glyph) refl

-- ---- a line of a window

pub line_drawn : (inverted : Bool) (line : List Cell) (columns : ℕ) → IsDrawableLine line
    → IsDrawnRow columns (line_cell inverted line columns)
line_drawn inverted line columns is = same_drawn (λ k. uncut columns k (shown_line inverted line k) blank)
    (line_cell inverted line columns) columns (λ k. sym (line_is inverted line columns k))
    (cut_drawn (shown_line inverted line) columns blank (record { printed = print; halves = half }) drawable_blank refl)
  where
    print : (k : ℕ) → IsDrawableCell (shown_line inverted line k)
    print k = ⊎_elim
        (λ (h : k < length line). let d = is.printed k h in rw (lt-ltb k (length line) h)
        (record { glyph = d.glyph; marks = d.marks }))
        (λ (h : length line ≤ k). rw (le-ltb k (length line) h) drawable_blank)
        (cases_lt k (length line))

    here : (k : ℕ) → k < length line → shown_line inverted line k ≡ shown_cell inverted (cell_at line k)
    here k h = rw (lt-ltb k (length line) h) refl

    half : (k : ℕ) → is_left (shown_line inverted line k).shape ≡ true
        → unprotected (shown_line inverted line (suc k)) ≡ right_cell (shown_line inverted line k).character
        (shown_line inverted line k).rendition false
    half k left = ⊎_elim
        (λ (h : k < length line).
        let own = is.halves k (ap is_left (sym (shown_shape inverted line k)) ∙ left) in
        ⊎_elim
        (λ (next : suc k < length line).
        ap unprotected (here (suc k) next)
        ∙ ap (λ (x : Cell). shown_cell inverted x) own
        ∙ ap (λ (x : Cell). right_cell x.character x.rendition false) (sym (here k h)))
        (λ (past : length line ≤ suc k).
        let none : cell_at line (suc k) ≡ blank = get_or_past line (suc k) blank past in
        let shape : Narrow ≡ Right = ap (λ (x : Cell). x.shape) (ap unprotected (sym none) ∙ own) in cc)
        (cases_lt (suc k) (length line)))
        (λ (h : length line ≤ k).
        let none : shown_line inverted line k ≡ blank = rw (le-ltb k (length line) h) refl in
        let not : is_left Narrow ≡ true = ap (λ (x : Cell). is_left x.shape) (sym none) ∙ left in cc)
        (cases_lt k (length line))
