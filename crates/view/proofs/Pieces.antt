-- The pieces of a composed page, one by one.
use Rattle.view.proofs.Vocabulary.{◌≡◌, ℕ, zero, suc, ◌+◌, ◌-◌, ◌<◌, ◌≤◌, true, ltb, List, [], ◌∷◌, ◌++◌, length, map}
use Rattle.view.proofs.Vocabulary.{get_or, refl, sym, ap, subst, ◌∙◌, arith, ⊎_elim, length-append, range_with_len}
use Rattle.view.proofs.Vocabulary.{list_all, cases_lt, ltb-true, ext_get_or, get_or-map, get_or_append_left, Rect}
use Rattle.view.proofs.Vocabulary.{Rects, Shape, region, split, upper, lower, left, right, boxes, separators, is_roomy}
use Rattle.view.proofs.Vocabulary.{times, parts, TilesPage, box_of, both_true, wide, tall, room_fits, nowhere, Piece}
use Rattle.view.proofs.Vocabulary.{Part, AreParts, pieces, region_piece, separator_piece, status_piece}
use Rattle.std.proofs.lemmas.List.{get_or-append-add, length-map}
use Rattle.std.proofs.lemmas.List.FromFn.{length-map-range_with_len, get_or-map-range_with_len}
use Rattle.regions.specs.declared.node.Way.TheVariants.{Below, Right}
use Rattle.regions.proofs.Tiling.{page_once}
use Rattle.view.proofs.Composed.{Tiles, rects_of, piece_at, parts_tile}

-- ---- separators are one column wide

AreNarrow : List Rect → Type 0
AreNarrow rs = (k : ℕ) (d : Rect) → k < length rs → (get_or rs k d).columns ≡ 1

narrow_append : (xs ys : List Rect) → AreNarrow xs → AreNarrow ys → AreNarrow (xs ++ ys)
unfolding AreNarrow
narrow_append xs ys p q k d h = ⊎_elim
    (λ (lt : k < length xs). ap (λ (r : Rect). r.columns) (get_or_append_left xs ys d k lt) ∙ p k d lt)
    (λ (ge : length xs ≤ k).
    let e : length xs + (k - length xs) ≡ k = omega arith in
    let within : k - length xs < length ys = omega (arith, length-append xs ys, h) in
    ap (λ (i : ℕ). (get_or (xs ++ ys) i d).columns) (sym e)
    ∙ ap (λ (r : Rect). r.columns) (get_or-append-add xs ys (k - length xs) d) ∙ q (k - length xs) d within)
    (cases_lt k (length xs))

narrow : (s : Shape) (r : Rect) → AreNarrow (separators s r)
unfolding AreNarrow
narrow region r k d h = absurd (omega arith)
narrow (split Below a b) r k d h = narrow_append (separators a (upper r)) (separators b (lower r)) (narrow a (upper r))
    (narrow b (lower r)) k d h
narrow (split Right a b) r zero d h = refl
narrow (split Right a b) r (suc k) d h = narrow_append (separators a (left r)) (separators b (right r))
    (narrow a (left r)) (narrow b (right r)) k d (omega arith)

-- ---- boxes have room

roomy_at : (rs : List Rect) (k : ℕ) (d : Rect) → list_all is_roomy rs ≡ true → k < length rs
    → is_roomy (get_or rs k d) ≡ true
roomy_at [] k d h lt = absurd (omega arith)
roomy_at (r ∷ rs) zero d h lt = (both_true (is_roomy r) (list_all is_roomy rs) h).0
roomy_at (r ∷ rs) (suc k) d h lt = roomy_at rs k d (both_true (is_roomy r) (list_all is_roomy rs) h).1 (omega arith)

-- ---- the rectangles of the pieces

rects-append : (ps qs : List Piece) → rects_of (ps ++ qs) ≡ rects_of ps ++ rects_of qs
rects-append [] qs = refl
rects-append (p ∷ ps) qs = ap (λ (rs : List Rect). p.rect ∷ rs) (rects-append ps qs)

separators_rects : (rs : List Rect) → rects_of (map separator_piece rs) ≡ rs
separators_rects [] = refl
separators_rects (r ∷ rs) = ap (λ (xs : List Rect). r ∷ xs) (separators_rects rs)

module _ (r : Rects) (ps : List Part) (text : List ℕ) where
  abbrev boxes_number : ℕ
  boxes_number = length r.boxes.items

  abbrev separators_number : ℕ
  separators_number = length r.separators.items

  abbrev regions_pieces : List Piece
  regions_pieces = map (region_piece r ps) (range_with_len 0 (length r.boxes.items))

  abbrev others : List Piece
  others = map separator_piece r.separators.items ++ (status_piece r.status text ∷ [])

  regions_length : length regions_pieces ≡ boxes_number
  regions_length = length-map-range_with_len (region_piece r ps) 0 (length r.boxes.items)

  others_length : length others ≡ separators_number + 1
  others_length = length-append (map separator_piece r.separators.items) (status_piece r.status text ∷ [])
      ∙ ap (λ (n : ℕ). n + 1) (length-map r.separators.items separator_piece)

  pub pieces_length : length (pieces r ps text) ≡ boxes_number + (separators_number + 1)
  pieces_length = omega (arith, length-append regions_pieces others, regions_length, others_length)

  pub region_at : (n : ℕ) → n < boxes_number → piece_at (pieces r ps text) n ≡ region_piece r ps n
  region_at n h =
      get_or_append_left regions_pieces others nowhere n (rw regions_length h)
      ∙ get_or-map-range_with_len (region_piece r ps) 0 (length r.boxes.items) n n nowhere h (omega arith)

  other_at : (n : ℕ) → piece_at (pieces r ps text) (boxes_number + n) ≡ get_or others n nowhere
  other_at n = ap (λ (k : ℕ). get_or (pieces r ps text) (k + n) nowhere) (sym regions_length)
      ∙ get_or-append-add regions_pieces others n nowhere

  pub separator_at : (n : ℕ) (d : Rect) → n < separators_number
      → piece_at (pieces r ps text) (boxes_number + n) ≡ separator_piece (get_or r.separators.items n d)
  separator_at n d h =
      other_at n
      ∙ get_or_append_left (map separator_piece r.separators.items) (status_piece r.status text ∷ []) nowhere n
      (rw (length-map r.separators.items separator_piece) h)
      ∙ get_or-map separator_piece r.separators.items n d nowhere h

  pub status_at : piece_at (pieces r ps text) (boxes_number + separators_number) ≡ status_piece r.status text
  status_at =
      let z : length (map separator_piece r.separators.items) + 0 ≡ separators_number = omega
      (arith, length-map r.separators.items separator_piece) in
      other_at separators_number
      ∙ ap (λ (k : ℕ). get_or others k nowhere) (sym z)
      ∙ get_or-append-add (map separator_piece r.separators.items) (status_piece r.status text ∷ []) 0 nowhere

  regions_rects : rects_of regions_pieces ≡ r.boxes.items
  regions_rects = ext_get_or r.status (rects_of regions_pieces) r.boxes.items
      (length-map regions_pieces (λ (p : Piece). p.rect) ∙ regions_length) (λ k h.
      let many : length (rects_of regions_pieces) ≡ boxes_number = length-map regions_pieces (λ (p : Piece). p.rect)
      ∙ regions_length in
      let lt : k < boxes_number = rw many at h in
      let among_pieces : k < length regions_pieces = rw regions_length lt in
      get_or-map (λ (p : Piece). p.rect) regions_pieces k nowhere r.status among_pieces
      ∙ ap (λ (p : Piece). p.rect)
      (get_or-map-range_with_len (region_piece r ps) 0 (length r.boxes.items) k k nowhere lt (omega arith)))

  pieces_rects : rects_of (pieces r ps text) ≡ r.boxes.items ++ (r.separators.items ++ r.status ∷ [])
  pieces_rects =
      rects-append regions_pieces others
      ∙ ap (λ (xs : List Rect). xs ++ rects_of others) regions_rects
      ∙ ap (λ (xs : List Rect). r.boxes.items ++ xs)
      (rects-append (map separator_piece r.separators.items) (status_piece r.status text ∷ [])
      ∙ ap (λ (xs : List Rect). xs ++ r.status ∷ []) (separators_rects r.separators.items))

  module _ (s : Shape) (rows columns : ℕ) (is : AreParts s rows columns r ps) where
    all_roomy : list_all is_roomy r.boxes.items ≡ true
    all_roomy = ap (λ (rs : List Rect). list_all is_roomy rs) is.rects.boxes_are ∙ is.room

    tiled : TilesPage rows columns (parts r.boxes.items r.separators.items r.status)
    tiled = subst (λ (bs : List Rect). TilesPage rows columns (parts bs r.separators.items r.status))
        (sym is.rects.boxes_are)
        (subst (λ (ss : List Rect). TilesPage rows columns (parts (boxes s (box_of rows columns)) ss r.status))
        (sym is.rects.separators_are)
        (subst
        (λ (t : Rect). TilesPage rows columns
        (parts (boxes s (box_of rows columns)) (separators s (box_of rows columns)) t)) (sym is.rects.status_is)
        (page_once s rows columns is.room)))

    pub pieces_tile : Tiles (pieces r ps text) rows columns
    pieces_tile l c = ap (λ (rs : List Rect). times rs l c) pieces_rects
        ∙ parts_tile rows columns r.boxes.items r.separators.items r.status all_roomy tiled l c

    pub box_roomy : (n : ℕ) (d : Rect) → n < boxes_number → (1 < (get_or r.boxes.items n d).rows)
        × (1 < (get_or r.boxes.items n d).columns)
    box_roomy n d h =
        let b = get_or r.boxes.items n d in
        let t = both_true (ltb 1 b.rows) (ltb 1 b.columns) (roomy_at r.boxes.items n d all_roomy h) in
        (ltb-true 1 b.rows t.0, ltb-true 1 b.columns t.1)

    pub separator_narrow : (n : ℕ) (d : Rect) → n < separators_number → (get_or r.separators.items n d).columns ≡ 1
    unfolding AreNarrow
    separator_narrow n d h =
        ap (λ (rs : List Rect). (get_or rs n d).columns) is.rects.separators_are
        ∙ narrow s (box_of rows columns) n d (rw (← is.rects.separators_are) h)

    pub status_rows : r.status.rows ≡ 1
    status_rows = ap (λ (t : Rect). t.rows) is.rects.status_is

    pub status_line : r.status.line + 1 ≡ rows
    status_line =
        let high : 1 < rows - 1 = tall s (rows - 1) columns (sym (room_fits s rows columns) ∙ is.room) in
        let last : r.status.line ≡ rows - 1 = ap (λ (t : Rect). t.line) is.rects.status_is in
        omega (arith, high, last)

    pub status_columns : r.status.columns ≡ columns
    status_columns = ap (λ (t : Rect). t.columns) is.rects.status_is

    pub columns_some : 1 < columns
    columns_some = wide s (rows - 1) columns (sym (room_fits s rows columns) ∙ is.room)
