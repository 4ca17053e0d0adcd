-- The cells of text.
use Rattle.cells.proofs.Vocabulary.{◌≡◌, ℕ, zero, suc, ◌+◌, ◌-◌, ◌<◌, ◌≤◌, Bool, true, false, ◌&&◌, ◌||◌, cond, List}
use Rattle.cells.proofs.Vocabulary.{[], ◌∷◌, ◌++◌, length, take, append_assoc, refl, sym, ap, ◌∙◌, subst, arith, ⊎_elim}
use Rattle.cells.proofs.Vocabulary.{list_all, cases_Bool, nat_tests, append-nil, length-append, length-take-le}
use Rattle.cells.proofs.Vocabulary.{get_or-append_right, list_all-append, text, is_plain, is_character, Cell, Rendition}
use Rattle.cells.proofs.Vocabulary.{Shape, Narrow, Left, Right, blank, cell_at, is_left, is_right, IsPaired, fresh_at}
use Rattle.cells.proofs.Vocabulary.{right_follows, marked, plain, narrow_cell, left_cell, right_cell, narrow_cells}
use Rattle.cells.proofs.Vocabulary.{is_letter, is_known_wide, is_mark, is_base, is_base_or_mark, is_based, base_cell}
use Rattle.cells.proofs.Vocabulary.{whole, cells_on, text_cells, last_columns, PutsText}
use Rattle.charsets.proofs.Pieces.{codes-plain}
use Rattle.cells.proofs.Pages.{IsPaired-nil}
use Rattle.cells.proofs.Putting.{length-narrow_cells}
use Rattle.cells.proofs.OverPlain.{both}
use Rattle.cells.proofs.Splicing.{narrow_paired, wide_paired}

pub or_true : (b : Bool) → (b || true) ≡ true
or_true true = refl
or_true false = refl

and_true : (b : Bool) → (b && true) ≡ b
and_true true = refl
and_true false = refl

-- a letter is neither wide nor a mark
pub letter_alone : (character : ℕ) → is_letter character ≡ true
    → (is_known_wide character ≡ false) × (is_mark character ≡ false)
letter_alone character letter = (grind (arith, nat_tests), grind (arith, nat_tests))

pub wide_alone : (character : ℕ) → is_known_wide character ≡ true → is_mark character ≡ false
wide_alone character wide = grind (arith, nat_tests)

pub plain_alone : (character : ℕ) → is_plain character ≡ true
    → (is_known_wide character ≡ false) × (is_mark character ≡ false)
plain_alone character plain = letter_alone character (rw plain refl)

-- what 20 to 7E are, characters are
all_plain : (are : ℕ → Bool) → ((c : ℕ) → is_plain c ≡ true → are c ≡ true) → (codes : List ℕ)
    → list_all is_plain codes ≡ true → list_all are codes ≡ true
all_plain are each [] all = refl
all_plain are each (c ∷ codes) all =
    let known = both (is_plain c) (list_all is_plain codes) all in
    rw (each c known.0, all_plain are each codes known.1) refl

based_plain : (codes : List ℕ) → list_all is_plain codes ≡ true → is_based codes ≡ true
based_plain [] all = refl
based_plain (c ∷ codes) all =
    let known = both (is_plain c) (list_all is_plain codes) all in
    rw (known.0, all_plain is_base_or_mark (λ d is. rw is refl) codes known.1) refl

-- one more character behind others, and one more mark
is_based-behind : (c : ℕ) (cs : List ℕ) (character : ℕ) → is_based (c ∷ cs) ≡ true
    → is_base_or_mark character ≡ true → is_based (c ∷ cs ++ character ∷ []) ≡ true
is_based-behind c cs character based known =
    ap (λ b. is_base c && b)
    (list_all-append is_base_or_mark cs (character ∷ [])
    ∙ ap (λ b. list_all is_base_or_mark cs && (b && true)) known
    ∙ and_true (list_all is_base_or_mark cs))
    ∙ based

pub is_based-base : (characters : List ℕ) (character : ℕ) → is_based characters ≡ true → is_base character ≡ true
    → is_based (characters ++ character ∷ []) ≡ true
is_based-base [] character based base = ap (λ b. b && true) base
is_based-base (c ∷ cs) character based base =
    is_based-behind c cs character based (ap (λ b. b || is_mark character) base)

pub is_based-mark : (characters : List ℕ) (mark : ℕ) → 0 < length characters → is_based characters ≡ true
    → is_mark mark ≡ true → is_based (characters ++ mark ∷ []) ≡ true
is_based-mark [] mark some based is = absurd (omega arith)
is_based-mark (c ∷ cs) mark some based is = is_based-behind c cs mark based (rw is (or_true (is_base mark)))

-- the cells of a character before other cells
whole_paired : (cell : Cell) (more : List Cell) → is_right cell.shape ≡ false → IsPaired more
    → IsPaired (whole cell ++ more)
whole_paired cell more no_right paired = ⊎_elim
    (λ (t : is_left cell.shape ≡ true).
    rw t
    (wide_paired cell (right_cell cell.character cell.rendition cell.is_protected) more t no_right refl paired))
    (λ (t : is_left cell.shape ≡ false). rw t (narrow_paired cell more t no_right paired))
    (cases_Bool (is_left cell.shape))

-- in paired cells no half lacks its other half
pub paired_complete : (cells : List Cell) → IsPaired cells → (j : ℕ) → fresh_at cells j ≡ cell_at cells j
paired_complete cells paired j = go (cell_at cells j).shape refl
  where
    before : (i : ℕ) → is_right (cell_at cells i).shape ≡ true → right_follows cells i ≡ true
    before zero right = sym paired.first ∙ right
    before (suc i) right = rw (paired.next i, right) refl

    go : (s : Shape) → (cell_at cells j).shape ≡ s → fresh_at cells j ≡ cell_at cells j
    go Narrow e = rw e refl
    go Left e = rw (e, sym (paired.next j) ∙ ap is_left e) refl
    go Right e = rw (e, before j (ap is_right e)) refl

-- the last character tells the last columns
last_behind : (front more : List Cell) → 0 < length more → last_columns (front ++ more) ≡ last_columns more
last_behind front more some =
    let n : length (front ++ more) ≡ length front + length more = length-append front more in
    let e : length (front ++ more) - 1 - length front ≡ length more - 1 = omega (arith, n, some) in
    ap (λ (x : Cell). cond (is_right x.shape) 2 1)
    (get_or-append_right front more (length front) (length (front ++ more) - 1) blank refl (omega (arith, n, some))
    ∙ ap (cell_at more) e)

last_whole : (cell : Cell) → is_right cell.shape ≡ false → last_columns (whole cell) ≡ length (whole cell)
last_whole cell no_right = ⊎_elim (λ (t : is_left cell.shape ≡ true). rw t refl)
    (λ (t : is_left cell.shape ≡ false). rw (t, no_right) refl) (cases_Bool (is_left cell.shape))

pub last_is : (front : List Cell) (cell : Cell) → is_right cell.shape ≡ false
    → last_columns (front ++ whole cell) ≡ length (whole cell)
last_is front cell no_right = last_behind front (whole cell) (omega arith) ∙ last_whole cell no_right

module _ (rendition : Rendition) (is_protected : Bool) where
  abbrev pub cells_of : List ℕ → List Cell
  cells_of characters = text_cells characters rendition is_protected

  abbrev pub base_of : ℕ → Cell
  base_of c = base_cell c rendition is_protected

  -- the first cell of the last character behind a first cell, and the cells before it
  abbrev tip : Cell → List ℕ → Cell
  tip cell [] = cell
  tip cell (c ∷ cs) = cond (is_mark c) (tip (marked cell c) cs) (tip (base_of c) cs)

  abbrev before : Cell → List ℕ → List Cell
  before cell [] = []
  before cell (c ∷ cs) = cond (is_mark c) (before (marked cell c) cs) (whole cell ++ before (base_of c) cs)

  split : (cell : Cell) (cs more : List ℕ)
      → cells_on rendition is_protected cell (cs ++ more) ≡ before cell cs ++ cells_on rendition is_protected
      (tip cell cs) more
  split cell [] more = refl
  split cell (c ∷ cs) more = ⊎_elim
      (λ (t : is_mark c ≡ true). rw t (split (marked cell c) cs more))
      (λ (t : is_mark c ≡ false). rw t
      (ap (λ (v : List Cell). whole cell ++ v) (split (base_of c) cs more)
      ∙ sym
      (append_assoc (whole cell) (before (base_of c) cs)
      (cells_on rendition is_protected (tip (base_of c) cs) more))))
      (cases_Bool (is_mark c))

  pub base_first : (c : ℕ) → is_right (base_of c).shape ≡ false
  base_first c = go (is_known_wide c)
    where
      go : (b : Bool)
          → is_right (cond b (left_cell c rendition is_protected) (narrow_cell c rendition is_protected)).shape ≡ false
      go true = refl
      go false = refl

  tip_first : (cell : Cell) (cs : List ℕ) → is_right cell.shape ≡ false → is_right (tip cell cs).shape ≡ false
  tip_first cell [] first = first
  tip_first cell (c ∷ cs) first = ⊎_elim
      (λ (t : is_mark c ≡ true). rw t (tip_first (marked cell c) cs first))
      (λ (t : is_mark c ≡ false). rw t (tip_first (base_of c) cs (base_first c)))
      (cases_Bool (is_mark c))

  -- the first cell of the last character of text, and the cells before it
  pub record IsTip (characters : List ℕ) (front : List Cell) (cell : Cell) : Type 0 where
    pub cells : cells_of characters ≡ front ++ whole cell
    pub marks : (mark : ℕ) → is_mark mark ≡ true
        → cells_of (characters ++ mark ∷ []) ≡ front ++ whole (marked cell mark)
    pub first : is_right cell.shape ≡ false

  whole_split : (cell : Cell) (cs : List ℕ)
      → cells_on rendition is_protected cell cs ≡ before cell cs ++ whole (tip cell cs)
  whole_split cell cs = ap (cells_on rendition is_protected cell) (sym (append-nil cs)) ∙ split cell cs []

  pub with_tip : {C : Type 0} (characters : List ℕ) → 0 < length (cells_of characters)
      → ((front : List Cell) (cell : Cell) → IsTip characters front cell → C) → C
  with_tip [] some then = absurd (omega arith)
  with_tip (c ∷ cs) some then = then (before (base_of c) cs) (tip (base_of c) cs) (record {
    cells = whole_split (base_of c) cs;
    marks = λ mark is. split (base_of c) cs (mark ∷ [])
        ∙ ap (λ (v : List Cell). before (base_of c) cs ++ v) (rw is refl);
    first = tip_first (base_of c) cs (base_first c);
  })

  pub some_characters : (characters : List ℕ) → 0 < length (cells_of characters) → 0 < length characters
  some_characters [] some = some
  some_characters (c ∷ cs) some = omega arith

  -- one more character has cells of its own
  pub cells-base : (characters : List ℕ) (character : ℕ) → is_mark character ≡ false
      → cells_of (characters ++ character ∷ []) ≡ cells_of characters ++ whole (base_of character)
  cells-base [] character no_mark = refl
  cells-base (c ∷ cs) character no_mark =
      split (base_of c) cs (character ∷ [])
      ∙ ap (λ (v : List Cell). before (base_of c) cs ++ v) (rw no_mark refl)
      ∙ sym (append_assoc (before (base_of c) cs) (whole (tip (base_of c) cs)) (whole (base_of character)))
      ∙ ap (λ (v : List Cell). v ++ whole (base_of character)) (sym (whole_split (base_of c) cs))

  on_paired : (cell : Cell) (cs : List ℕ) → is_right cell.shape ≡ false
      → IsPaired (cells_on rendition is_protected cell cs)
  on_paired cell [] first = subst IsPaired (append-nil (whole cell)) (whole_paired cell [] first IsPaired-nil)
  on_paired cell (c ∷ cs) first = ⊎_elim
      (λ (t : is_mark c ≡ true). rw t (on_paired (marked cell c) cs first))
      (λ (t : is_mark c ≡ false). rw t
      (whole_paired cell (cells_on rendition is_protected (base_of c) cs) first
      (on_paired (base_of c) cs (base_first c))))
      (cases_Bool (is_mark c))

  pub text_paired : (characters : List ℕ) → IsPaired (cells_of characters)
  text_paired [] = IsPaired-nil
  text_paired (c ∷ cs) = on_paired (base_of c) cs (base_first c)

  -- 20 to 7E alone
  on_plain : (c : ℕ) (cs : List ℕ) → list_all is_plain cs ≡ true
      → cells_on rendition is_protected (narrow_cell c rendition is_protected) cs ≡ narrow_cells (c ∷ cs) rendition
      is_protected
  on_plain c [] all = refl
  on_plain c (d ∷ cs) all =
      let known = both (is_plain d) (list_all is_plain cs) all in
      let alone = plain_alone d known.0 in
      rw (alone.1, alone.0)
      (ap (λ (v : List Cell). narrow_cell c rendition is_protected ∷ v) (on_plain d cs known.1))

  pub cells-plain : (codes : List ℕ) → list_all is_plain codes ≡ true
      → cells_of codes ≡ narrow_cells codes rendition is_protected
  cells-plain [] all = refl
  cells-plain (c ∷ cs) all =
      let known = both (is_plain c) (list_all is_plain cs) all in
      rw (plain_alone c known.0).0 (on_plain c cs known.1)

  narrow_last : (codes : List ℕ) (k : ℕ)
      → is_right (cell_at (narrow_cells codes rendition is_protected) k).shape ≡ false
  narrow_last [] k = refl
  narrow_last (c ∷ codes) zero = refl
  narrow_last (c ∷ codes) (suc k) = narrow_last codes k

  pub cells_of-plain : (codes : List ℕ) → list_all is_plain codes ≡ true
      → cells_of (text codes) ≡ narrow_cells codes rendition is_protected
  cells_of-plain codes all =
      ap (λ (p : List ℕ × List ℕ). cells_of p.0) (codes-plain codes all) ∙ cells-plain codes all

  pub text_over_plain : (codes : List ℕ) → list_all is_plain codes ≡ true
      → narrow_cell 32 rendition is_protected ≡ blank → cells_of (text codes) ≡ narrow_cells codes plain false
  text_over_plain codes all is = cells_of-plain codes all
      ∙ ap (λ (x : Cell). narrow_cells codes x.rendition x.is_protected) is

  pub plain_puts : (bytes : List ℕ) (room count : ℕ) → count ≤ length bytes → count ≤ room
      → list_all is_plain (take count bytes) ≡ true
      → PutsText bytes rendition is_protected room (record { count = count; last = 1; read = count })
  plain_puts bytes room count few inside all =
      let codes : List ℕ = take count bytes in
      let reads : text codes ≡ codes = ap (λ (p : List ℕ × List ℕ). p.0) (codes-plain codes all) in
      let cells = cells_of-plain codes all in
      record {
        few = few;
        is_text = record {
          whole = ap (λ (p : List ℕ × List ℕ). p.1) (codes-plain codes all);
          graphic = ap (list_all is_character) reads ∙ all_plain is_character (λ c is. rw is refl) codes all;
        };
        based = ap is_based reads ∙ based_plain codes all;
        count = ap length cells ∙ length-narrow_cells codes rendition is_protected ∙ length-take-le count bytes few;
        last = ap last_columns cells
            ∙ ap (λ b. cond b 2 1) (narrow_last codes (length (narrow_cells codes rendition is_protected) - 1));
        inside = inside;
      }
