-- Pages on which all pieces are free.
use Rattle.view.proofs.Vocabulary.{◌≡◌, ℕ, ◌+◌, ◌-◌, ◌<◌, ◌≤◌, List, [], ◌∷◌, length, get_or, refl, sym, ap, subst, ◌∙◌}
use Rattle.view.proofs.Vocabulary.{arith, ⊎_elim, length-append, cases_lt, blank, line_at, IsGrid, place, View, Rect}
use Rattle.view.proofs.Vocabulary.{Rects, Shape, region, split, upper, lower, left, right, boxes, separators, box_of}
use Rattle.view.proofs.Vocabulary.{status_of, HasPageSize, IsFree, AreFree, Piece, Part, AreParts, pieces, box_at}
use Rattle.regions.specs.declared.node.Way.TheVariants.{Below, Right}
use Rattle.view.proofs.Laying.{free_if_wide}
use Rattle.view.proofs.Composed.{piece_at, free_on_blanks}
use Rattle.view.proofs.Pieces.{pieces_length, region_at, separator_at, status_at, pieces_tile, box_roomy}
use Rattle.view.proofs.Pieces.{separator_narrow, status_line, status_columns, columns_some}

some_boxes : (s : Shape) (r : Rect) → 0 < length (boxes s r)
some_boxes region r = omega arith
some_boxes (split Below a b) r = omega
    (arith, length-append (boxes a (upper r)) (boxes b (lower r)), some_boxes a (upper r))
some_boxes (split Right a b) r = omega
    (arith, length-append (boxes a (left r)) (boxes b (right r)), some_boxes a (left r))

one_box : (s : Shape) (r : Rect) → length (boxes s r) ≡ 1 → (boxes s r ≡ r ∷ []) × (separators s r ≡ [])
one_box region r h = (refl, refl)
one_box (split Below a b) r h = absurd
    (omega
    (arith, h, length-append (boxes a (upper r)) (boxes b (lower r)), some_boxes a (upper r), some_boxes b (lower r)))
one_box (split Right a b) r h = absurd
    (omega
    (arith, h, length-append (boxes a (left r)) (boxes b (right r)), some_boxes a (left r), some_boxes b (right r)))

module _ (r : Rects) (ps : List Part) (text : List ℕ) (s : Shape) (rows columns : ℕ) (is : AreParts s rows columns r ps)
    (v : View) (size : HasPageSize r v) where
  high_page : length v.page ≡ rows
  high_page = size.rows_are ∙ status_line r ps text s rows columns is

  broad_page : length (line_at v.page 0) ≡ columns
  broad_page = size.columns_are ∙ status_columns r ps text s rows columns is

  -- on a blank page all pieces are free
  pub blank_free : ((l c : ℕ) → place v.page l c ≡ blank) → AreFree (pieces r ps text) v.page
  blank_free blanks n lt = free_on_blanks (pieces r ps text) rows columns (pieces_tile r ps text s rows columns is) n lt
      v high_page broad_page some blanks
    where
      some : 0 < (piece_at (pieces r ps text) n).rect.columns
      some = ⊎_elim
          (λ (h : n < length r.boxes.items). rw (region_at r ps text n h)
          (omega (arith, (box_roomy r ps text s rows columns is n r.status h).1)))
          (λ (h : length r.boxes.items ≤ n). ⊎_elim
          (λ (k : n - length r.boxes.items < length r.separators.items).
          let e : length r.boxes.items + (n - length r.boxes.items) ≡ n = omega (arith, h) in
          let at = separator_at r ps text (n - length r.boxes.items) r.status k in
          let one = separator_narrow r ps text s rows columns is (n - length r.boxes.items) r.status k in
          subst (λ (i : ℕ). 0 < (piece_at (pieces r ps text) i).rect.columns) e (rw at (omega (arith, one))))
          (λ (k : length r.separators.items ≤ n - length r.boxes.items).
          let e : length r.boxes.items + length r.separators.items ≡ n = omega
          (arith, h, k, lt, pieces_length r ps text) in
          let wide = columns_some r ps text s rows columns is in
          subst (λ (i : ℕ). 0 < (piece_at (pieces r ps text) i).rect.columns) e
          (rw (status_at r ps text) (omega (arith, wide, status_columns r ps text s rows columns is))))
          (cases_lt (n - length r.boxes.items) (length r.separators.items)))
          (cases_lt n (length r.boxes.items))

  -- on any page all pieces are free, if one region has the page to itself
  pub lone_free : length r.boxes.items ≡ 1 → IsGrid v.page → AreFree (pieces r ps text) v.page
  lone_free one grid n lt = ⊎_elim
      (λ (h : n < length r.boxes.items).
      let first : n ≡ 0 = omega (arith, h, one) in
      let rect_is : (piece_at (pieces r ps text) n).rect ≡ box_of rows columns = ap (λ (p : Piece). p.rect)
      (region_at r ps text n h) ∙ ap (λ (k : ℕ). box_at r k) first
      ∙ ap (λ (bs : List Rect). get_or bs 0 r.status) (is.rects.boxes_are ∙ alone.0) in
      subst (λ (x : Rect). IsFree x v.page) (sym rect_is)
      (free_if_wide (box_of rows columns) v.page grid refl (sym broad_page)
      (omega (arith, high_page, grid.size.least_rows))))
      (λ (h : length r.boxes.items ≤ n).
      let no_bars : length r.separators.items ≡ 0 = ap length (is.rects.separators_are ∙ alone.1) in
      let last : n ≡ length r.boxes.items + length r.separators.items = omega
      (arith, h, lt, no_bars, pieces_length r ps text) in
      let rect_is : (piece_at (pieces r ps text) n).rect ≡ status_of rows columns = ap
      (λ (k : ℕ). (piece_at (pieces r ps text) k).rect) last ∙ ap (λ (p : Piece). p.rect) (status_at r ps text)
      ∙ is.rects.status_is in
      subst (λ (x : Rect). IsFree x v.page) (sym rect_is)
      (free_if_wide (status_of rows columns) v.page grid refl (sym broad_page)
      (omega (arith, high_page, grid.size.least_rows))))
      (cases_lt n (length r.boxes.items))
    where
      alone : (boxes s (box_of rows columns) ≡ box_of rows columns ∷ []) × (separators s (box_of rows columns) ≡ [])
      alone = one_box s (box_of rows columns) (sym (ap length is.rects.boxes_are) ∙ one)
