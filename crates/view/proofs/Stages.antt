-- The pieces of a page are laid over it one after another.
use Rattle.view.proofs.Vocabulary.{◌≡◌, ℕ, ◌+◌, ◌<◌, ◌≤◌, true, List, [], length, map, get_or, take, refl, sym, ap}
use Rattle.view.proofs.Vocabulary.{subst, ◌∙◌, arith, ⊎_elim, ◌==◌, chars, range_with_len, cases_lt, ext_get_or}
use Rattle.view.proofs.Vocabulary.{get_or-map, Cell, blank, line_at, IsGrid, View, Rect, Rects, Shape, tall, Page}
use Rattle.view.proofs.Vocabulary.{all_scalars, utf8_lossy, IsDrawableLine, IsDrawable, HasPageSize, IsFree, AreFree}
use Rattle.view.proofs.Vocabulary.{IsPlaced, Lays, FocusesOn, Pane, Empty, Piece, Part, vacant, part_of, AreParts}
use Rattle.view.proofs.Vocabulary.{HasPairedLines, pieces, region_piece, separator_piece, status_piece, box_at, part_at}
use Rattle.view.proofs.Vocabulary.{box_cell, caption_text, AreDrawable, cell_of, cursor_of}
use Rattle.std.proofs.lemmas.List.FromFn.{length-map-range_with_len, get_or-map-range_with_len}
use Rattle.std.proofs.Math.Seq.{take-length}
use Rattle.view.proofs.Drawing.{pieces_drawn, view_drawn}
use Rattle.view.specs.Granted.{page_of, arrows_of, keypad_of, view_of, view_in}
use Rattle.view.proofs.Laying.{still_free}
use Rattle.view.proofs.Composed.{Covers, Holds, piece_at, is_placed, apart, laid_more, all_hold}
use Rattle.view.proofs.Pieces.{pieces_length, region_at, separator_at, status_at, pieces_tile, box_roomy}
use Rattle.view.proofs.Pieces.{separator_narrow, status_rows, status_line, status_columns}

-- ---- the page that holds them

pub page-is : (ps : List Piece) (v : View) (rows columns : ℕ) → IsGrid v.page → length v.page ≡ rows
    → length (line_at v.page 0) ≡ columns → Holds ps v → v.page ≡ page_of rows columns (cell_of ps)
page-is ps v rows columns grid high wide_is holds =
    let cell : ℕ → ℕ → Cell = cell_of ps in
    ext_get_or [] v.page (page_of rows columns cell)
    (high ∙ sym (length-map-range_with_len (λ line. map (cell line) (range_with_len 0 columns)) 0 rows)) (λ l h.
    let lt : l < rows = rw high at h in
    let line : List Cell = map (cell l) (range_with_len 0 columns) in
    let breadth : length (line_at v.page l) ≡ columns = grid.well_formed.width l h ∙ wide_is in
    ext_get_or blank (line_at v.page l) line (breadth ∙ sym (length-map-range_with_len (cell l) 0 columns)) (λ c k.
    let inside : c < columns = rw breadth at k in
    holds.cells_are l c ∙ sym (get_or-map-range_with_len (cell l) 0 columns c c blank inside (omega arith)))
    ∙ sym (get_or-map-range_with_len (λ n. map (cell n) (range_with_len 0 columns)) 0 rows l l [] lt (omega arith)))

-- ---- the first n pieces are laid over a page

pub record Stage (r : Rects) (ps : List Part) (text : List ℕ) (n : ℕ) (v : View) : Type 0 where
  pub covers : Covers (take n (pieces r ps text)) v
  pub free : (k : ℕ) → n ≤ k → k < length (pieces r ps text) → IsFree (piece_at (pieces r ps text) k).rect v.page
  pub captions : (k : ℕ) → k < n → k < length r.boxes.items → all_scalars (caption_text (part_at ps k)) ≡ true

pub no_stage : (r : Rects) (ps : List Part) (text : List ℕ) (v : View) → AreFree (pieces r ps text) v.page
    → Stage r ps text 0 v
no_stage r ps text v free = record {
  covers = record { cells_are = λ l c some. absurd (some refl) };
  free = λ k after lt. free k lt;
  captions = λ k h b. absurd (omega arith);
}

module _ (r : Rects) (ps : List Part) (text : List ℕ) (s : Shape) (rows columns : ℕ) (is : AreParts s rows columns r ps)
  where
    abbrev all : List Piece
    all = pieces r ps text

    module _ (n : ℕ) (lt : n < length (pieces r ps text)) where
      next : (p : Piece) (old new : View) → piece_at (pieces r ps text) n ≡ p
          → (n < length r.boxes.items → all_scalars (caption_text (part_at ps n)) ≡ true) → Stage r ps text n old
          → (IsFree p.rect old.page → Lays p old new) → Stage r ps text (n + 1) new
      next p old new e caption stage lays =
          let tiles = pieces_tile r ps text s rows columns is in
          let free : IsFree p.rect old.page = subst (λ (q : Piece). IsFree q.rect old.page) e
          (stage.free n (omega arith) lt) in
          let put : Lays (piece_at (pieces r ps text) n) old new = subst (λ (q : Piece). Lays q old new) (sym e)
          (lays free) in
          record {
            covers = laid_more (pieces r ps text) rows columns tiles n lt old new stage.covers put;
            free = λ k after inside. still_free (piece_at (pieces r ps text) k).rect (piece_at (pieces r ps text) n) old
                new (apart (pieces r ps text) rows columns tiles k inside n (omega (arith, after))) put
                (stage.free k (omega (arith, after)) inside);
            captions = λ k h b. ⊎_elim
                (λ (before : k < n). stage.captions k before b)
                (λ (last : n ≤ k). let same : n ≡ k = omega arith in subst
                (λ (i : ℕ). all_scalars (caption_text (part_at ps i)) ≡ true) same (caption (omega (arith, b, same))))
                (cases_lt k n);
          }

      placed : (p : Piece) (old : View) → HasPageSize r old → piece_at (pieces r ps text) n ≡ p → 0 < p.rect.rows
          → 0 < p.rect.columns → IsPlaced p.rect old.page
      placed p old size e tall some =
          let high : length old.page ≡ rows = size.rows_are ∙ status_line r ps text s rows columns is in
          let broad : length (line_at old.page 0) ≡ columns = size.columns_are
          ∙ status_columns r ps text s rows columns is in
          subst (λ (q : Piece). IsPlaced q.rect old.page) e
          (is_placed (pieces r ps text) rows columns (pieces_tile r ps text s rows columns is) n lt old high broad
          (subst (λ (q : Piece). 0 < q.rect.rows) (sym e) tall)
          (subst (λ (q : Piece). 0 < q.rect.columns) (sym e) some))

    pub box_stage : (n : ℕ) (rect : Rect) (part : Part) (old new : View) → n < length r.boxes.items → rect ≡ box_at r n
        → part ≡ part_at ps n → Stage r ps text n old
        → (HasPairedLines part → IsFree rect old.page
        → Lays (record { rect = rect; cell = box_cell rect (n == r.focus) part }) old new)
        → (0 < rect.rows → all_scalars (caption_text part) ≡ true) → Stage r ps text (n + 1) new
    box_stage n rect part old new lt re pe stage lays characters =
        let inside : n < length (pieces r ps text) = omega (arith, lt, pieces_length r ps text) in
        let here : HasPairedLines (part_at ps n) → IsFree (box_at r n) old.page → Lays (region_piece r ps n) old new =
        subst
        (λ (x : Rect). HasPairedLines (part_at ps n) → IsFree x old.page
        → Lays (record { rect = x; cell = box_cell x (n == r.focus) (part_at ps n) }) old new) re
        (subst
        (λ (y : Part). HasPairedLines y → IsFree rect old.page
        → Lays (record { rect = rect; cell = box_cell rect (n == r.focus) y }) old new) pe lays)
        in
        let room = box_roomy r ps text s rows columns is n r.status lt in
        next n inside (region_piece r ps n) old new (region_at r ps text n lt)
        (λ h. subst (λ (y : Part). all_scalars (caption_text y) ≡ true) pe (characters (rw re (omega (arith, room.0)))))
        stage (here (is.paired n))

    pub separator_stage : (n : ℕ) (rect d : Rect) (old new : View) → n < length r.separators.items
        → rect ≡ get_or r.separators.items n d → Stage r ps text (length r.boxes.items + n) old
        → (rect.columns ≡ 1 → IsFree rect old.page → Lays (separator_piece rect) old new)
        → Stage r ps text (length r.boxes.items + (n + 1)) new
    separator_stage n rect d old new lt re stage lays =
        let inside : length r.boxes.items + n < length (pieces r ps text) = omega (arith, lt, pieces_length r ps text)
        in
        let one : rect.columns ≡ 1 = ap (λ (x : Rect). x.columns) re
        ∙ separator_narrow r ps text s rows columns is n d lt in
        let more : length r.boxes.items + n + 1 ≡ length r.boxes.items + (n + 1) = omega arith in
        subst (λ (k : ℕ). Stage r ps text k new) more
        (next (length r.boxes.items + n) inside (separator_piece rect) old new
        (separator_at r ps text n d lt ∙ ap separator_piece (sym re)) (λ h. absurd (omega arith)) stage (lays one))

    pub status_stage : (n : ℕ) (old new : View) → n ≡ length r.separators.items
        → Stage r ps text (length r.boxes.items + n) old
        → (r.status.rows ≡ 1 → IsFree r.status old.page → Lays (status_piece r.status text) old new)
        → Stage r ps text (length (pieces r ps text)) new
    status_stage n old new e stage lays =
        let inside : length r.boxes.items + n < length (pieces r ps text) = omega (arith, e, pieces_length r ps text) in
        let more : length r.boxes.items + n + 1 ≡ length (pieces r ps text) = omega (arith, e, pieces_length r ps text)
        in
        subst (λ (k : ℕ). Stage r ps text k new) more
        (next (length r.boxes.items + n) inside (status_piece r.status text) old new
        (ap (λ (k : ℕ). piece_at (pieces r ps text) (length r.boxes.items + k)) e ∙ status_at r ps text)
        (λ h. absurd (omega arith)) stage (lays (status_rows r ps text s rows columns is)))

    pub focus_placed : (v : View) → HasPageSize r v → IsPlaced (box_at r r.focus) v.page
    focus_placed v size =
        let inside : r.focus < length (pieces r ps text) = omega (arith, is.focus, pieces_length r ps text) in
        let room = box_roomy r ps text s rows columns is r.focus r.status is.focus in
        placed r.focus inside (region_piece r ps r.focus) v size (region_at r ps text r.focus is.focus)
        (omega (arith, room.0)) (omega (arith, room.1))

    all_held : (v : View) → HasPageSize r v → IsGrid v.page → Stage r ps text (length (pieces r ps text)) v
        → Holds (pieces r ps text) v
    all_held v size grid stage =
        all_hold (pieces r ps text) rows columns (pieces_tile r ps text s rows columns is) v grid
        (size.rows_are ∙ status_line r ps text s rows columns is)
        (size.columns_are ∙ status_columns r ps text s rows columns is)
        (subst (λ (xs : List Piece). Covers xs v) (take-length (pieces r ps text)) stage.covers)

    pub composed : (old new : View) → HasPageSize r old → IsGrid old.page
        → Stage r ps text (length (pieces r ps text)) old → FocusesOn (box_at r r.focus) (part_at ps r.focus) old new
        → new ≡ view_of r ps text
    unfolding view_in
    composed old new size grid stage focused =
        let holds : Holds (pieces r ps text) old = all_held old size grid stage in
        focused ∙ ap (λ (p : Page). record {
          page = p;
          cursor = cursor_of (box_at r r.focus) (part_at ps r.focus);
          has_application_arrows = arrows_of (part_at ps r.focus);
          has_application_keypad = keypad_of (part_at ps r.focus);
        }) (page-is (pieces r ps text) old (r.status.line + 1) r.status.columns grid size.rows_are size.columns_are
        holds)

-- ---- the parts of panes

pub part_is : (panes : List Pane) (k : ℕ) → k < length panes
    → part_of (get_or panes k Empty) ≡ part_at (map part_of panes) k
part_is panes k lt = sym (get_or-map part_of panes k Empty vacant lt)

module _ (r : Rects) (ps : List Part) (text : List ℕ) (s : Shape) (rows columns : ℕ) (is : AreParts s rows columns r ps)
  where
    pub drawable_view : (old new : View) → HasPageSize r old → IsGrid old.page
        → Stage r ps text (length (pieces r ps text)) old → new.page ≡ old.page → AreDrawable ps
        → all_scalars (chars (utf8_lossy text)) ≡ true → IsDrawable new
    drawable_view old new size grid stage same drawable status =
        let holds : Holds (pieces r ps text) old = all_held r ps text s rows columns is old size grid stage in
        let captions : (n : ℕ) → n < length ps
        → all_scalars (caption_text (part_at ps n)) ≡ true = λ n h. stage.captions n
        (omega (arith, h, is.each, pieces_length r ps text)) (omega (arith, h, is.each)) in
        let drawn = view_drawn (pieces r ps text) rows columns old (pieces_tile r ps text s rows columns is)
        (pieces_drawn r ps text drawable captions status) holds in
        record {
          lines = λ line h. subst (λ (p : Page). IsDrawableLine (line_at p line)) (sym same)
              (drawn.lines line (rw (← same) h));
        }
