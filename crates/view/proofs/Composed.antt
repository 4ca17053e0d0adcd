-- The pieces of a page are laid over it one after another.
use Rattle.view.proofs.Vocabulary.{◌≡◌, ℕ, zero, suc, ◌+◌, ◌-◌, ◌<◌, ◌≤◌, Bool, true, false, ◌&&◌, ltb, List, [], ◌∷◌}
use Rattle.view.proofs.Vocabulary.{◌++◌, length, map, take, drop, get_or, refl, sym, ap, ◌∙◌, arith, ⊎_elim, lt-ltb}
use Rattle.view.proofs.Vocabulary.{if◌then◌else◌, nat_lt, list_all, cases_lt, ltb-true, get_or_past, Cell, blank}
use Rattle.view.proofs.Vocabulary.{cell_at, line_at, IsGrid, place, View, Rect, has, times, one_if, TilesPage, inner}
use Rattle.view.proofs.Vocabulary.{caption, is_roomy, parts, Piece, cell_of, IsOnPage, IsFree, IsPlaced, nowhere, laid}
use Rattle.view.proofs.Vocabulary.{Lays}
use Rattle.std.proofs.lemmas.List.{drop_more, take_more, take-append-drop}
use Rattle.view.proofs.Laying.{InRect, in_has, not_has, cases_has, free_of_blanks}

both : (a b : Bool) → (a && b) ≡ true → (a ≡ true) × (b ≡ true)
both true true h = (refl, refl)
both true false h = cc
both false b h = cc

abbrev pub rects_of : List Piece → List Rect
rects_of ps = map (λ (p : Piece). p.rect) ps

-- on the view's page, each place that a piece has shows the cell of that piece
pub record Covers (ps : List Piece) (v : View) : Type 0 where
  pub cells_are : (line column : ℕ) → (times (rects_of ps) line column ≡ 0 → ⊥)
      → place v.page line column ≡ cell_of ps line column

-- at each place the view's page shows the cell of these pieces; a blank if none has the place
pub record Holds (ps : List Piece) (v : View) : Type 0 where
  pub cells_are : (line column : ℕ) → place v.page line column ≡ cell_of ps line column

none_has : (r : Rect) (rs : List Rect) (l c : ℕ) → times (r ∷ rs) l c ≡ 0 → (has r l c ≡ false) × (times rs l c ≡ 0)
none_has r rs l c h = go (has r l c) h
  where
    go : (b : Bool) → one_if b + times rs l c ≡ 0 → (b ≡ false) × (times rs l c ≡ 0)
    go true e = absurd (omega arith)
    go false e = (refl, omega (arith, e))

-- a place that none of the first pieces has shows the cell of the pieces after them
outside : (ps qs : List Piece) (l c : ℕ) → times (rects_of ps) l c ≡ 0 → cell_of (ps ++ qs) l c ≡ cell_of qs l c
outside [] qs l c h = refl
outside (p ∷ ps) qs l c h = let n = none_has p.rect (rects_of ps) l c h in rw n.0 (outside ps qs l c n.1)

uncovered : (ps : List Piece) (l c : ℕ) → times (rects_of ps) l c ≡ 0 → cell_of ps l c ≡ blank
uncovered [] l c h = refl
uncovered (p ∷ ps) l c h = let n = none_has p.rect (rects_of ps) l c h in rw n.0 (uncovered ps l c n.1)

-- a piece after others changes nothing at a place that it doesn't have
behind : (ps : List Piece) (p : Piece) (l c : ℕ) → has p.rect l c ≡ false → cell_of (ps ++ p ∷ []) l c ≡ cell_of ps l c
behind [] p l c h = rw h refl
behind (q ∷ ps) p l c h = ap (λ (x : Cell). if has q.rect l c then q.cell (l - q.rect.line) (c - q.rect.column) else x)
    (behind ps p l c h)

-- ---- the pieces of a page that they tile

times_append : (xs ys : List Rect) (l c : ℕ) → times (xs ++ ys) l c ≡ times xs l c + times ys l c
times_append [] ys l c = omega arith
times_append (x ∷ xs) ys l c = omega (arith, times_append xs ys l c)

rects_append : (ps qs : List Piece) → rects_of (ps ++ qs) ≡ rects_of ps ++ rects_of qs
rects_append [] qs = refl
rects_append (p ∷ ps) qs = ap (λ (rs : List Rect). p.rect ∷ rs) (rects_append ps qs)

abbrev pub piece_at : List Piece → ℕ → Piece
piece_at ps n = get_or ps n nowhere

abbrev pub Tiles : List Piece → ℕ → ℕ → Type 0
Tiles all rows columns = (l c : ℕ) → times (rects_of all) l c ≡ one_if (nat_lt l rows && nat_lt c columns)

few : (b : Bool) → one_if b ≤ 1
few true = omega arith
few false = omega arith

none_before : (ps : List Piece) (n k l c : ℕ) → n < k → n < length ps → times (rects_of (take k ps)) l c ≡ 0
    → has (piece_at ps n).rect l c ≡ false
none_before [] n k l c before lt none = absurd (omega (arith, lt))
none_before (p ∷ ps) n zero l c before lt none = absurd (omega (arith, before))
none_before (p ∷ ps) zero (suc k) l c before lt none = (none_has p.rect (rects_of (take k ps)) l c none).0
none_before (p ∷ ps) (suc n) (suc k) l c before lt none = none_before ps n k l c (omega (arith, before))
    (omega (arith, lt)) (none_has p.rect (rects_of (take k ps)) l c none).1

module _ (all : List Piece) (rows columns : ℕ) (tiles : Tiles all rows columns) (n : ℕ) (lt : n < length all) where
  split_at : take n all ++ (piece_at all n ∷ drop (n + 1) all) ≡ all
  split_at = sym (ap (λ (qs : List Piece). take n all ++ qs) (drop_more all n nowhere lt)) ∙ take-append-drop n all

  whole : (l c : ℕ)
      → times (rects_of all) l c ≡ times (rects_of (take n all)) l c +
      (one_if (has (piece_at all n).rect l c) + times (rects_of (drop (n + 1) all)) l c)
  whole l c =
      ap (λ (ps : List Piece). times (rects_of ps) l c) (sym split_at)
      ∙ ap (λ (rs : List Rect). times rs l c) (rects_append (take n all) (piece_at all n ∷ drop (n + 1) all))
      ∙ times_append (rects_of (take n all)) (rects_of (piece_at all n ∷ drop (n + 1) all)) l c

  one : (l c : ℕ) → has (piece_at all n).rect l c ≡ true → one_if (has (piece_at all n).rect l c) ≡ 1
  one l c h = rw h refl

  clear : (l c : ℕ) → has (piece_at all n).rect l c ≡ true → times (rects_of (take n all)) l c ≡ 0
  clear l c h = omega (arith, whole l c, tiles l c, one l c h, few (nat_lt l rows && nat_lt c columns))

  on_page : (l c : ℕ) → has (piece_at all n).rect l c ≡ true → nat_lt l rows && nat_lt c columns ≡ true
  on_page l c h = go (nat_lt l rows && nat_lt c columns) (tiles l c)
    where
      go : (b : Bool) → times (rects_of all) l c ≡ one_if b → b ≡ true
      go true e = refl
      go false e = absurd (omega (arith, whole l c, e, one l c h))

  module _ (v : View) (high : length v.page ≡ rows) (wide : length (line_at v.page 0) ≡ columns) where
    pub inside : (l c : ℕ) → has (piece_at all n).rect l c ≡ true → IsOnPage v.page l c
    inside l c h =
        let inside = both (nat_lt l rows) (nat_lt c columns) (on_page l c h) in
        (rw high (ltb-true l rows inside.0), rw wide (ltb-true c columns inside.1))

    pub is_placed : 0 < (piece_at all n).rect.rows → 0 < (piece_at all n).rect.columns
        → IsPlaced (piece_at all n).rect v.page
    is_placed r c = record { tall = r; wide = c; inside = inside }

    pub free_on_blanks : 0 < (piece_at all n).rect.columns → ((l c : ℕ) → place v.page l c ≡ blank)
        → IsFree (piece_at all n).rect v.page
    free_on_blanks some blanks = free_of_blanks (piece_at all n).rect v.page some inside blanks

  -- the pieces before this one have other places
  pub apart : (m : ℕ) → m < n → (l c : ℕ) → has (piece_at all n).rect l c ≡ true → has (piece_at all m).rect l c ≡ false
  apart m before l c h = none_before all m n l c before (omega (arith, before, lt)) (clear l c h)

  none_more : (l c : ℕ) → has (piece_at all n).rect l c ≡ false → times (rects_of (take n all)) l c ≡ 0
      → times (rects_of (take (n + 1) all)) l c ≡ 0
  none_more l c out none =
      let zero_here : one_if (has (piece_at all n).rect l c) ≡ 0 = rw out refl in
      ap (λ (ps : List Piece). times (rects_of ps) l c) (take_more all n nowhere lt)
      ∙ ap (λ (rs : List Rect). times rs l c) (rects_append (take n all) (piece_at all n ∷ []))
      ∙ times_append (rects_of (take n all)) (rects_of (piece_at all n ∷ [])) l c
      ∙ omega (arith, none, zero_here)

  pub laid_more : (old new : View) → Covers (take n all) old → Lays (piece_at all n) old new
      → Covers (take (n + 1) all) new
  laid_more old new covers lays = record {
    cells_are = λ l c some.
        lays.cells_are l c
        ∙ ⊎_elim
        (λ (i : InRect (piece_at all n).rect l c).
        let t : has (piece_at all n).rect l c ≡ true = in_has (piece_at all n).rect l c i in
        let here : laid (piece_at all n) old.page l c ≡ (piece_at all n).cell (l - (piece_at all n).rect.line)
        (c - (piece_at all n).rect.column) = rw t refl in
        let alone : cell_of (piece_at all n ∷ []) l c ≡ (piece_at all n).cell (l - (piece_at all n).rect.line)
        (c - (piece_at all n).rect.column) = rw t refl in
        here ∙ sym (outside (take n all) (piece_at all n ∷ []) l c (clear l c t) ∙ alone))
        (λ (out : has (piece_at all n).rect l c ≡ false).
        let there : laid (piece_at all n) old.page l c ≡ place old.page l c = rw out refl in
        there ∙ covers.cells_are l c (λ none. some (none_more l c out none))
        ∙ sym (behind (take n all) (piece_at all n) l c out))
        (cases_has (piece_at all n).rect l c)
        ∙ ap (λ (ps : List Piece). cell_of ps l c) (sym (take_more all n nowhere lt));
  }

-- If the pieces of a page cover it, it shows nothing else.
pub all_hold : (all : List Piece) (rows columns : ℕ) → Tiles all rows columns → (v : View) → IsGrid v.page
    → length v.page ≡ rows → length (line_at v.page 0) ≡ columns → Covers all v → Holds all v
all_hold all rows columns tiles v grid high wide covers = record
    { cells_are = λ l c. go l c (nat_lt l rows && nat_lt c columns) refl }
  where
    clash : (b : Bool) → b ≡ true → b ≡ false → ⊥
    clash b t f = cc

    past : (l c : ℕ) → nat_lt l rows && nat_lt c columns ≡ false → place v.page l c ≡ blank
    past l c e = ⊎_elim
        (λ (h : l < length v.page). ⊎_elim
        (λ (k : c < columns).
        let on : (nat_lt l rows && nat_lt c columns) ≡ true = rw (lt-ltb l rows (rw high at h), lt-ltb c columns k) refl
        in
        absurd (clash (nat_lt l rows && nat_lt c columns) on e))
        (λ (k : columns ≤ c). get_or_past (line_at v.page l) c blank
        (omega (arith, grid.well_formed.width l h, wide, k)))
        (cases_lt c columns))
        (λ (h : length v.page ≤ l). ap (λ (cells : List Cell). cell_at cells c) (get_or_past v.page l [] h)
        ∙ get_or_past [] c blank (omega arith))
        (cases_lt l (length v.page))

    go : (l c : ℕ) (b : Bool) → nat_lt l rows && nat_lt c columns ≡ b → place v.page l c ≡ cell_of all l c
    go l c true e =
        let one : times (rects_of all) l c ≡ 1 = tiles l c ∙ ap one_if e in
        covers.cells_are l c (λ none. absurd (omega (arith, one, none)))
    go l c false e =
        let none : times (rects_of all) l c ≡ 0 = tiles l c ∙ ap one_if e in
        past l c e ∙ sym (uncovered all l c none)

-- ---- a box is its region and its caption

box_parts : (r : Rect) (l c : ℕ) → 0 < r.rows
    → one_if (has r l c) ≡ one_if (has (inner r) l c) + one_if (has (caption r) l c)
box_parts r l c some = ⊎_elim
    (λ (i : InRect r l c). ⊎_elim
    (λ (h : l < r.line + (r.rows - 1)).
    let first : has (inner r) l c ≡ true = in_has (inner r) l c
    (record { above = i.above; below = h; left = i.left; right = i.right }) in
    let second : has (caption r) l c ≡ false = not_has (caption r) l c (λ j. omega (arith, j.above, h)) in
    rw (in_has r l c i, first, second) refl)
    (λ (h : r.line + (r.rows - 1) ≤ l).
    let first : has (inner r) l c ≡ false = not_has (inner r) l c (λ j. omega (arith, j.below, h)) in
    let second : has (caption r) l c ≡ true = in_has (caption r) l c
    (record { above = h; below = omega (arith, i.below); left = i.left; right = i.right }) in
    rw (in_has r l c i, first, second) refl)
    (cases_lt l (r.line + (r.rows - 1))))
    (λ (out : has r l c ≡ false).
    let first : has (inner r) l c ≡ false = not_has (inner r) l c
    (λ j. clash (has r l c)
    (in_has r l c (record { above = j.above; below = omega (arith, j.below); left = j.left; right = j.right })) out)
    in
    let second : has (caption r) l c ≡ false = not_has (caption r) l c
    (λ j. clash (has r l c)
    (in_has r l c
    (record { above = omega (arith, j.above); below = omega (arith, j.below); left = j.left; right = j.right }))
    out) in
    rw (out, first, second) refl)
    (cases_has r l c)
  where
    clash : (b : Bool) → b ≡ true → b ≡ false → ⊥
    clash b t f = cc

boxes_parts : (rs : List Rect) (l c : ℕ) → list_all is_roomy rs ≡ true
    → times rs l c ≡ times (map inner rs) l c + times (map caption rs) l c
boxes_parts [] l c h = omega arith
boxes_parts (r ∷ rs) l c h =
    let t = both (is_roomy r) (list_all is_roomy rs) h in
    let tall : 1 < r.rows = ltb-true 1 r.rows (both (ltb 1 r.rows) (ltb 1 r.columns) t.0).0 in
    omega (arith, box_parts r l c (omega (arith, tall)), boxes_parts rs l c t.1)

pub parts_tile : (rows columns : ℕ) (boxes separators : List Rect) (status : Rect) → list_all is_roomy boxes ≡ true
    → TilesPage rows columns (parts boxes separators status)
    → (l c : ℕ) → times (boxes ++ (separators ++ status ∷ [])) l c ≡ one_if (nat_lt l rows && nat_lt c columns)
parts_tile rows columns boxes separators status roomy tiles l c =
    omega (
      arith,
      tiles l c,
      boxes_parts boxes l c roomy,
      times_append boxes (separators ++ status ∷ []) l c,
      times_append separators (status ∷ []) l c,
      times_append (map inner boxes ++ (map caption boxes ++ separators)) (status ∷ []) l c,
      times_append (map inner boxes) (map caption boxes ++ separators) l c,
      times_append (map caption boxes) separators l c,
    )
