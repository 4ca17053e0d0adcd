-- Cells that differ from blanks in their characters only: writing the characters is enough.
use Rattle.cells.proofs.Vocabulary.{◌≡◌, ℕ, zero, suc, ◌+◌, ◌-◌, ◌<◌, ◌≤◌, max, Bool, true, false, ◌&&◌, cond, ltb}
use Rattle.cells.proofs.Vocabulary.{List, [], ◌∷◌, ◌++◌, length, take, drop, get_or, set, replicate, not, leb, refl}
use Rattle.cells.proofs.Vocabulary.{sym, ap, ◌∙◌, subst, arith, ⊎_elim, get_or_default, ext_get_or, take_at}
use Rattle.cells.proofs.Vocabulary.{get_or-replicate, length-replicate, length-take-le, map-append}
use Rattle.cells.proofs.Vocabulary.{replicate-append-replicate, cases_lt, Cell, blank, plain, cell_at, is_left}
use Rattle.cells.proofs.Vocabulary.{is_right, cells_from, spliced, narrow_cell, narrow_cells, IsBlankFrom, IsPaired}
use Rattle.cells.proofs.Vocabulary.{IsPlain, ArePlainFrom, IsNoted, Source, Fresh, Old, taken, unprotected_erased}
use Rattle.cells.proofs.Vocabulary.{are_halves, kept, source_before, source_after, settled, IsPut}
use Rattle.std.proofs.Math.Seq.{take-suc}
use Rattle.cells.proofs.Settling.{settled_at, cell_at_past, cell_at-cells_from, length-cells_from, IsPaired-cells_from}
use Rattle.cells.proofs.Used.{IsBlankFrom-cells_from, spliced_behind}
use Rattle.cells.proofs.Splicing.{IsPaired-blanks}
use Rattle.cells.proofs.Putting.{IsPaired-shapes, IsPut-more, length-narrow_cells, spliced_over}
use Rattle.cells.proofs.PuttingWhole.{put_plain}

-- one more character over a plain cell
next_put : (at count : ℕ) (fresh old line : List Cell) (unread : Cell) (character : ℕ) → ArePlainFrom at old
    → length fresh ≡ count → at + count < length old → IsPut at fresh old line
    → IsPut at (fresh ++ narrow_cell character plain false ∷ []) old
    (set line (at + count) (record (get_or line (at + count) unread) { character = character }))
next_put at count fresh old line unread character plains n inside put =
    let new : Cell = narrow_cell character plain false in
    let within : at + count < length line = rw put.width inside in
    let is : get_or line (at + count) unread ≡ narrow_cell (cell_at old (at + count)).character plain false =
    get_or_default line (at + count) unread blank within ∙ put.rest (at + count) (omega (arith, n))
    ∙ plains (at + count) (omega arith) in
    subst (λ (x : Cell). IsPut at (fresh ++ new ∷ []) old (set line (at + count) x))
    (sym (ap (λ (x : Cell). record x { character = character }) is))
    (subst (λ m. IsPut at (fresh ++ new ∷ []) old (set line (at + m) new)) n
    (IsPut-more at fresh old line new put (omega (arith, n))))

-- the first `count` characters are written
abbrev pub AreWritten : ℕ → List ℕ → List Cell → ℕ → List Cell → Type 0
AreWritten at codes old count line = IsPut at (narrow_cells (take count codes) plain false) old line

pub next_written : (at count next : ℕ) (codes : List ℕ) (old line : List Cell) (unread : Cell) → ArePlainFrom at old
    → at + count < length old → count < length codes → count + 1 ≡ next → AreWritten at codes old count line
    → AreWritten at codes old next
    (set line (at + count) (record (get_or line (at + count) unread) { character = get_or codes count 0 }))
next_written at count next codes old line unread plains inside within more written =
    let code : ℕ = get_or codes count 0 in
    let longer : take next codes ≡ take count codes ++ code ∷ [] =
    (let e : next ≡ suc count = omega (arith, more) in ap (λ n. take n codes) e) ∙ take-suc codes count 0 within in
    subst
    (λ (v : List Cell). IsPut at v old
    (set line (at + count) (record (get_or line (at + count) unread) { character = code })))
    (sym
    (ap (λ cs. narrow_cells cs plain false) longer
    ∙ map-append (λ c. narrow_cell c plain false) (take count codes) (code ∷ [])))
    (next_put at count (narrow_cells (take count codes) plain false) old line unread code plains
    (length-narrow_cells (take count codes) plain false ∙ length-take-le count codes (omega arith)) inside written)

-- the first cells are blanked
abbrev pub AreBlanked : ℕ → List Cell → ℕ → List Cell → Type 0
AreBlanked from old count line = IsPut from (replicate count blank) old line

pub next_blanked : (from count next : ℕ) (old line : List Cell) (unread : Cell) → ArePlainFrom from old
    → from + count < length old → count + 1 ≡ next → AreBlanked from old count line
    → AreBlanked from old next (set line (from + count) (record (get_or line (from + count) unread) { character = 32 }))
next_blanked from count next old line unread plains inside more blanked = subst
    (λ (v : List Cell). IsPut from v old
    (set line (from + count) (record (get_or line (from + count) unread) { character = 32 })))
    (replicate-append-replicate count 1 blank ∙ ap (λ n. replicate n blank) more)
    (next_put from count (replicate count blank) old line unread 32 plains (length-replicate count blank) inside
    blanked)

-- plain cells are no halves
plains_paired : (cells : List Cell) → ArePlainFrom 0 cells → IsPaired cells
plains_paired cells plains = record {
  first = ap (λ (x : Cell). is_right x.shape) (plains 0 (omega arith));
  next = λ k. ap (λ (x : Cell). is_left x.shape) (plains k (omega arith))
      ∙ sym (ap (λ (x : Cell). is_right x.shape) (plains (suc k) (omega arith)));
}

pub plain_cells : (codes : List ℕ) → ArePlainFrom 0 (narrow_cells codes plain false)
plain_cells codes k h = go codes k
  where
    go : (codes : List ℕ) (k : ℕ) → IsPlain (cell_at (narrow_cells codes plain false) k)
    go [] k = refl
    go (c ∷ codes) zero = refl
    go (c ∷ codes) (suc k) = go codes k

-- characters over plain cells tear no wide character
pub put_over_plain : (at : ℕ) (codes : List ℕ) (cells line : List Cell) → at + length codes ≤ length cells
    → IsPaired cells → ArePlainFrom at cells → IsPut at (narrow_cells codes plain false) cells line
    → line ≡ cells_from (spliced at (narrow_cells codes plain false) (at + length codes) (length cells)) cells
put_over_plain at codes cells line room paired plains put =
    let fresh : List Cell = narrow_cells codes plain false in
    let n : length fresh ≡ length codes = length-narrow_cells codes plain false in
    put_plain at fresh cells line (rw n room) paired (plains_paired fresh (plain_cells codes))
    (ap (λ (x : Cell). is_right x.shape) (plains at (omega arith)))
    (ap (λ (x : Cell). is_right x.shape) (plains (at + length fresh) (omega arith)))
    put
    ∙ ap (λ m. cells_from (spliced at fresh (at + m) (length cells)) cells) n

pub first_over_plain : (at count : ℕ) (codes : List ℕ) (cells line : List Cell) → count ≤ length codes
    → at + count ≤ length cells → IsPaired cells → ArePlainFrom at cells → AreWritten at codes cells count line
    → line ≡ cells_from (spliced at (narrow_cells (take count codes) plain false) (at + count) (length cells)) cells
first_over_plain at count codes cells line few room paired plains written =
    let n : length (take count codes) ≡ count = length-take-le count codes few in
    put_over_plain at (take count codes) cells line (omega (arith, n)) paired plains written
    ∙ ap (λ m. cells_from (spliced at (narrow_cells (take count codes) plain false) (at + m) (length cells)) cells) n

pub put_paired : (at : ℕ) (codes : List ℕ) (cells line : List Cell) → (0 < length codes → ArePlainFrom at cells)
    → IsPaired cells → IsPut at (narrow_cells codes plain false) cells line → IsPaired line
put_paired at codes cells line plains paired put =
    let n : length (narrow_cells codes plain false) ≡ length codes = length-narrow_cells codes plain false in
    IsPaired-shapes cells line (λ k. ⊎_elim
    (λ (front : k < at). sym (ap (λ (x : Cell). x.shape) (put.front k front)))
    (λ (past : at ≤ k). ⊎_elim
    (λ (new : k < at + length codes). let e : at + (k - at) ≡ k = omega arith in
    ap (λ (x : Cell). x.shape) (plains (omega arith) k past)
    ∙ sym
    (ap (λ (x : Cell). x.shape)
    (ap (cell_at line) (sym e) ∙ put.placed (k - at) (omega (arith, n, new))
    ∙ plain_cells codes (k - at) (omega arith))))
    (λ (behind : at + length codes ≤ k).
    sym (ap (λ (x : Cell). x.shape) (put.rest k (omega (arith, n, behind)))))
    (cases_lt k (at + length codes)))
    (cases_lt k at)) paired

-- the characters stand there, in copies of a space
pub put_stands : (at : ℕ) (codes : List ℕ) (old line : List Cell) (space : Cell) → (0 < length codes → space ≡ blank)
    → IsPut at (narrow_cells codes plain false) old line
    → IsPut at (narrow_cells codes space.rendition space.is_protected) line line
put_stands at codes old line space is put =
    let n : length (narrow_cells codes plain false) ≡ length codes = length-narrow_cells codes plain false in
    let m = length-narrow_cells codes space.rendition space.is_protected in
    record {
      width = refl;
      front = λ k h. refl;
      placed = λ k h. put.placed k (omega (arith, n, m, h))
          ∙ sym
          (ap (λ (x : Cell). cell_at (narrow_cells codes x.rendition x.is_protected) k) (is (omega (arith, m, h))));
      rest = λ k h. refl;
    }

-- new cells over these characters
pub over_written : (at count begun : ℕ) (codes : List ℕ) (fresh old line : List Cell) → begun ≤ length codes
    → length fresh ≡ count → begun ≤ count → AreWritten at codes old begun line
    → cells_from (spliced at fresh (at + count) (length line)) line ≡ cells_from
    (spliced at fresh (at + count) (length old)) old
over_written at count begun codes fresh old line few n more written =
    spliced_over at count (narrow_cells (take begun codes) plain false) fresh old line n
    (omega (arith, length-narrow_cells (take begun codes) plain false, length-take-le begun codes few, more)) written

-- blanks in the used columns make the line blank
pub cleared_plain : (used : ℕ) (cells line : List Cell) → used ≤ length cells → IsBlankFrom used cells
    → IsPut 0 (replicate (used - 0) blank) cells line → line ≡ replicate (length cells) blank
cleared_plain used cells line inside blanks put =
    let all : used - 0 ≡ used = omega arith in
    let n : length (replicate (used - 0) blank) ≡ used = length-replicate (used - 0) blank ∙ all in
    ext_get_or blank line (replicate (length cells) blank) (put.width ∙ sym (length-replicate (length cells) blank))
    (λ k h.
    let w : length line ≡ length cells = put.width in
    let within : k < length cells = omega arith in
    ⊎_elim
    (λ (front : k < used). let e : 0 + k ≡ k = omega arith in
    ap (cell_at line) (sym e) ∙ put.placed k (omega (arith, n))
    ∙ get_or-replicate (used - 0) k blank blank (omega arith))
    (λ (back : used ≤ k). put.rest k (omega (arith, n)) ∙ blanks k back)
    (cases_lt k used)
    ∙ sym (get_or-replicate (length cells) k blank blank within))

-- blanks are plain
pub blanks_plain : (from : ℕ) (cells : List Cell) → IsBlankFrom from cells → ArePlainFrom from cells
blanks_plain from cells blanks = λ k h. subst IsPlain (sym (blanks k h)) refl

-- all cells are plain if all sources are
settled_plain : (cells : List Cell) (before here after : Source) → IsPlain (taken cells here)
    → settled cells before here after ≡ taken cells here
settled_plain cells before here after is = ap
    (λ (x : Cell). kept x.shape (taken cells here) (are_halves here after) (are_halves before here)) is

pub plain-cells_from : (source : ℕ → Source) (cells : List Cell) → ((k : ℕ) → IsPlain (taken cells (source k)))
    → ArePlainFrom 0 (cells_from source cells)
unfolding settled_at
plain-cells_from source cells each k h = ⊎_elim
    (λ (inside : k < length cells).
    subst IsPlain
    (sym
    (cell_at-cells_from source cells k inside
    ∙ settled_plain cells (source_before source k) (source k) (source_after source (length cells) k) (each k)))
    (each k))
    (λ (past : length cells ≤ k). subst IsPlain
    (sym (cell_at_past (cells_from source cells) k (rw (length-cells_from source cells) past))) refl)
    (cases_lt k (length cells))

pub plain_spliced : (at : ℕ) (fresh cells : List Cell) (rest width : ℕ) → ArePlainFrom 0 fresh → ArePlainFrom 0 cells
    → (k : ℕ) → IsPlain (taken cells (spliced at fresh rest width k))
plain_spliced at fresh cells rest width new old k = go (ltb k at) (ltb k (at + length fresh))
    (ltb (k + rest) (at + length fresh + width))
  where
    go : (a b c : Bool)
        → IsPlain
        (taken cells
        (cond a (Old k)
        (cond b (Fresh (cell_at fresh (k - at))) (cond c (Old (k + rest - (at + length fresh))) (Fresh blank)))))
    go true b c = old k (omega arith)
    go false true c = new (k - at) (omega arith)
    go false false true = old (k + rest - (at + length fresh)) (omega arith)
    go false false false = refl

pub plain_one : (cell : Cell) → IsPlain cell → ArePlainFrom 0 (cell ∷ [])
plain_one cell is zero h = is
plain_one cell is (suc k) h = refl

pub plain_blanks : (count : ℕ) → ArePlainFrom 0 (replicate count blank)
plain_blanks count k h = ⊎_elim
    (λ (inside : k < count). subst IsPlain (sym (get_or-replicate count k blank blank inside)) refl)
    (λ (past : count ≤ k). subst IsPlain
    (sym (cell_at_past (replicate count blank) k (rw (length-replicate count blank) past))) refl)
    (cases_lt k count)

-- a line of blanks
blank_at : (width k : ℕ) → cell_at (replicate width blank) k ≡ blank
blank_at width k = ⊎_elim
    (λ (inside : k < width). get_or-replicate width k blank blank inside)
    (λ (past : width ≤ k). cell_at_past (replicate width blank) k (rw (length-replicate width blank) past))
    (cases_lt k width)

-- blanks past `end` were there before
pub blanked_up_to : (from end count : ℕ) (old line : List Cell) → IsBlankFrom (max from end) old → end ≤ from + count
    → AreBlanked from old count line → AreBlanked from old (end - from) line
blanked_up_to from end count old line blanks enough put =
    let n : length (replicate count blank) ≡ count = length-replicate count blank in
    let m : length (replicate (end - from) blank) ≡ end - from = length-replicate (end - from) blank in
    record {
      width = put.width;
      front = put.front;
      placed = λ k h. put.placed k (omega (arith, n, m, h)) ∙ blank_at count k ∙ sym (blank_at (end - from) k);
      rest = λ k h. ⊎_elim
          (λ (within : k < from + count). let e : from + (k - from) ≡ k = omega (arith, m, h) in
          ap (cell_at line) (sym e) ∙ put.placed (k - from) (omega (arith, n, m, h)) ∙ blank_at count (k - from)
          ∙ sym (blanks k (omega (arith, m, h))))
          (λ (past : from + count ≤ k). put.rest k (omega (arith, n)))
          (cases_lt k (from + count));
    }

-- after a run in the first columns, the rest of the line is blanked
pub cleared_behind : (codes : List ℕ) (used : ℕ) (cells put line : List Cell) → length codes ≤ length cells
    → IsBlankFrom used cells → IsPut 0 (narrow_cells codes plain false) cells put
    → IsPut (length codes) (replicate (used - length codes) blank) put line
    → line ≡ cells_from
    (spliced 0 (narrow_cells codes plain false) (length codes) (length (replicate (length cells) blank)))
    (replicate (length cells) blank)
cleared_behind codes used cells put line room blanks run is =
    let width : ℕ = length cells in
    let empty : List Cell = replicate width blank in
    let w : length empty ≡ width = length-replicate width blank in
    let n : length (narrow_cells codes plain false) ≡ length codes = length-narrow_cells codes plain false in
    let m : length (replicate (used - length codes) blank) ≡ used - length codes = length-replicate
    (used - length codes) blank in
    let e : 0 + length codes ≡ length codes = omega arith in
    put_over_plain 0 codes empty line (omega (arith, w)) (IsPaired-blanks width) (plain_blanks width)
    (record {
      width = is.width ∙ run.width ∙ sym w;
      front = λ k h. absurd (omega arith);
      placed = λ k h. is.front (0 + k) (omega (arith, n, h)) ∙ run.placed k h;
      rest = λ k h. ⊎_elim
          (λ (within : k < used). let f : length codes + (k - length codes) ≡ k = omega (arith, n, h) in
          ap (cell_at line) (sym f) ∙ is.placed (k - length codes) (omega (arith, m, n, h))
          ∙ blank_at (used - length codes) (k - length codes))
          (λ (free : used ≤ k). is.rest k (omega (arith, m, n, h)) ∙ run.rest k h ∙ blanks k free)
          (cases_lt k used) ∙ sym (blank_at width k);
    })
    ∙ ap (λ i. cells_from (spliced 0 (narrow_cells codes plain false) i (length empty)) empty) e

-- the line after an edit is written back
pub plain-stored : (source : ℕ → Source) (new old items : List Cell) (len : ℕ) → length new ≡ len
    → new ≡ cells_from source old → old ≡ items → ((k : ℕ) → IsPlain (taken items (source k)))
    → ArePlainFrom 0 (take len (new ++ drop (length new) items))
plain-stored source new old items len n is same each =
    rw (take_at new (drop (length new) items) len n)
    (subst (ArePlainFrom 0) (sym (is ∙ ap (cells_from source) same)) (plain-cells_from source items each))

pub erased_plain : (cells old : List Cell) (from end : ℕ) → ArePlainFrom 0 cells → (k : ℕ)
    → IsPlain (taken cells (unprotected_erased old from end k))
erased_plain cells old from end plains k = go (leb from k && ltb k end && not (cell_at old k).is_protected)
  where
    go : (b : Bool) → IsPlain (taken cells (cond b (Fresh blank) (Old k)))
    go true = refl
    go false = plains k (omega arith)

-- what is noted of a line that was cleared, perhaps except for a run
pub noted_blank : (width len : ℕ) (new rest : List Cell) → length new ≡ len → new ≡ replicate width blank
    → IsNoted 0 true (take len (new ++ rest))
noted_blank width len new rest n is = rw (take_at new rest len n) (subst (IsNoted 0 true) (sym is) (record {
  used_part = record { paired = IsPaired-blanks width; inside = omega arith; blank = λ k h. blank_at width k };
  plain = λ e. plain_blanks width;
}))

pub noted_run : (codes : List ℕ) (width len : ℕ) (new rest : List Cell) → length new ≡ len → length codes ≤ width
    → new ≡ cells_from (spliced 0 (narrow_cells codes plain false) (length codes) (length (replicate width blank)))
    (replicate width blank) → IsNoted (length codes) true (take len (new ++ rest))
noted_run codes width len new rest n room is =
    let fresh : List Cell = narrow_cells codes plain false in
    let empty : List Cell = replicate width blank in
    let source : ℕ → Source = spliced 0 fresh (length codes) (length empty) in
    let m : length fresh ≡ length codes = length-narrow_cells codes plain false in
    let w : length empty ≡ width = length-replicate width blank in
    rw (take_at new rest len n) (subst (IsNoted (length codes) true) (sym is) (record {
      used_part = record {
        paired = IsPaired-cells_from source empty (IsPaired-blanks width);
        inside = rw (length-cells_from source empty) (omega (arith, w));
        blank = IsBlankFrom-cells_from source (length codes) empty
            (λ k past inside. spliced_behind 0 fresh empty (length codes) 0 k (λ j h. blank_at width j)
            (omega (arith, m)));
      };
      plain = λ e. plain-cells_from source empty
          (plain_spliced 0 fresh empty (length codes) (length empty) (plain_cells codes) (plain_blanks width));
    }))

pub both : (a b : Bool) → a && b ≡ true → (a ≡ true) × (b ≡ true)
both true b h = (refl, h)
both false b h = absurd (cc)

-- a line of plain cells, after a run in its first columns
pub plain_behind : (codes : List ℕ) (cells put : List Cell) → ArePlainFrom 0 cells
    → IsPut 0 (narrow_cells codes plain false) cells put → ArePlainFrom (length codes) put
plain_behind codes cells put plains is k h =
    let n : length (narrow_cells codes plain false) ≡ length codes = length-narrow_cells codes plain false in
    subst IsPlain (sym (is.rest k (omega (arith, n, h)))) (plains k (omega arith))

-- a line that ends in blanks, after a run in its first columns
pub blank_behind : (codes : List ℕ) (used : ℕ) (cells put : List Cell) → IsBlankFrom used cells
    → IsPut 0 (narrow_cells codes plain false) cells put → IsBlankFrom (max (length codes) used) put
blank_behind codes used cells put blanks is k h =
    let n : length (narrow_cells codes plain false) ≡ length codes = length-narrow_cells codes plain false in
    is.rest k (omega (arith, n, h)) ∙ blanks k (omega (arith, h))
