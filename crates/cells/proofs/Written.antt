-- Text written into cells, character by character.
use Rattle.cells.proofs.Vocabulary.{◌≡◌, ℕ, ◌+◌, ◌-◌, ◌<◌, ◌≤◌, Bool, true, false, List, [], ◌∷◌, ◌++◌, length, take}
use Rattle.cells.proofs.Vocabulary.{drop, set, append_assoc, refl, sym, ap, ◌∙◌, subst, arith, length-append, list_all}
use Rattle.cells.proofs.Vocabulary.{text, is_character, is_plain, Cell, Rendition, blank, cell_at, left_cell, marked}
use Rattle.cells.proofs.Vocabulary.{narrow_cell, narrow_cells, right_cell, IsPut, base_cell, is_base, is_based}
use Rattle.cells.proofs.Vocabulary.{is_known_wide, is_letter, is_mark, last_columns, text_cells, whole, PutsText}
use Rattle.std.proofs.Math.Seq.{set-append_seam, get_or-append_seam}
use Rattle.charsets.specs.Utf8.{codes}
use Rattle.charsets.proofs.Texts.{IsText-one, text-more, IsText-more}
use Rattle.cells.proofs.Putting.{IsPut-more, IsPut-other}
use Rattle.cells.proofs.TextCells.{cells_of-plain, plain_puts, base_first, cells-base, is_based-base, is_based-mark}
use Rattle.cells.proofs.TextCells.{last_is, letter_alone, or_true, some_characters, wide_alone, with_tip}

-- the first bytes are text, and its cells are put
pub record IsWritten (rendition : Rendition) (is_protected : Bool) (at : ℕ) (bytes : List ℕ) (old line : List Cell)
    (column last read : ℕ) : Type 0 where
  pub past : at ≤ column
  pub inside : column ≤ length old
  pub puts : PutsText bytes rendition is_protected (length old - at)
      (record { count = column - at; last = last; read = read })
  pub put : IsPut at (text_cells (text (take read bytes)) rendition is_protected) old line

module _ (rendition : Rendition) (is_protected : Bool) (at : ℕ) (bytes : List ℕ) (old : List Cell) where
  abbrev cells_of : List ℕ → List Cell
  cells_of characters = text_cells characters rendition is_protected

  -- the first bytes are 20 to 7E, and stand there
  pub begun_written : (begun : ℕ) → begun ≤ length bytes → at + begun ≤ length old
      → list_all is_plain (take begun bytes) ≡ true
      → IsPut at (narrow_cells (take begun bytes) rendition is_protected) old old
      → IsWritten rendition is_protected at bytes old old (at + begun) 1 begun
  begun_written begun few room codes put =
      let e : begun ≡ at + begun - at = omega arith in
      record {
        past = omega arith;
        inside = room;
        puts = subst
            (λ n. PutsText bytes rendition is_protected (length old - at)
            (record { count = n; last = 1; read = begun }))
            e (plain_puts rendition is_protected bytes (length old - at) begun few (omega (arith, room)) codes);
        put = subst (λ (v : List Cell). IsPut at v old old)
            (sym (cells_of-plain rendition is_protected (take begun bytes) codes)) put;
      }

  module _ (line : List Cell) (column last read : ℕ)
      (so_far : IsWritten rendition is_protected at bytes old line column last read) where
    abbrev fresh : List Cell
    fresh = cells_of (text (take read bytes))

    end_is : at + length fresh ≡ column
    end_is = omega (arith, so_far.puts.count, so_far.past)

    pub last_inside : at < column → at + last ≤ column
    last_inside some =
        with_tip rendition is_protected (text (take read bytes)) (omega (arith, so_far.puts.count)) (λ front cell is.
        let n : length fresh ≡ length front + length (whole cell) = ap length is.cells
        ∙ length-append front (whole cell) in
        let l : length (whole cell) ≡ last = sym (ap last_columns is.cells ∙ last_is front cell is.first)
        ∙ so_far.puts.last in
        let e = end_is in
        omega (arith, n, l, e))

    -- one more character
    module _ (character size : ℕ) (fits : size ≤ length bytes - read)
        (reads : codes (take size (take (length bytes - read) (drop read bytes))) ≡ (character ∷ [], []))
        (graphic : is_character character ≡ true) where
      characters : text (take (read + size) bytes) ≡ text (take read bytes) ++ character ∷ []
      characters = text-more bytes read size so_far.puts.is_text
          ∙ ap (λ (p : List ℕ × List ℕ). text (take read bytes) ++ p.0) reads

      written_more : (more next : List Cell) (end columns : ℕ)
          → cells_of (text (take read bytes) ++ character ∷ []) ≡ more → at + length more ≡ end → end ≤ length old
          → is_based (text (take read bytes) ++ character ∷ []) ≡ true → last_columns more ≡ columns
          → IsPut at more old next
          → IsWritten rendition is_protected at bytes old next end columns (read + size)
      written_more more next end columns is n room based last_is put =
          let cells : cells_of (text (take (read + size) bytes)) ≡ more = ap cells_of characters ∙ is in
          record {
            past = omega (arith, n);
            inside = room;
            puts = record {
              few = omega (arith, so_far.puts.few);
              is_text = IsText-more bytes read size so_far.puts.is_text (IsText-one _ character reads graphic);
              based = ap is_based characters ∙ based;
              count = ap length cells ∙ omega (arith, n);
              last = ap last_columns cells ∙ last_is;
              inside = omega (arith, room);
            };
            put = subst (λ (v : List Cell). IsPut at v old next) (sym cells) put;
          }

      -- one more character with cells of its own
      base_written : (own : List Cell) (next : List Cell) (end : ℕ) → is_base character ≡ true
          → is_mark character ≡ false → whole (base_cell character rendition is_protected) ≡ own
          → column + length own ≡ end → end ≤ length old → IsPut at (fresh ++ own) old next
          → IsWritten rendition is_protected at bytes old next end (length own) (read + size)
      base_written own next end base no_mark is n room put =
          written_more (fresh ++ own) next end (length own)
          (cells-base rendition is_protected (text (take read bytes)) character no_mark
          ∙ ap (λ (v : List Cell). fresh ++ v) is)
          (let e = end_is in omega (arith, length-append fresh own, n, e)) room
          (is_based-base (text (take read bytes)) character so_far.puts.based base)
          (ap (λ (v : List Cell). last_columns (fresh ++ v)) (sym is)
          ∙ last_is fresh (base_cell character rendition is_protected) (base_first rendition is_protected character)
          ∙ ap length is)
          put

      pub letter_written : column < length old → is_letter character ≡ true
          → IsWritten rendition is_protected at bytes old
          (set line column (narrow_cell character rendition is_protected)) (column + 1) 1 (read + size)
      letter_written inside letter =
          let cell : Cell = narrow_cell character rendition is_protected in
          let alone = letter_alone character letter in
          let e = end_is in
          base_written (cell ∷ []) (set line column cell) (column + 1) (rw letter refl) alone.1 (rw alone.0 refl) refl
          (omega arith)
          (subst (λ n. IsPut at (fresh ++ cell ∷ []) old (set line n cell)) e
          (IsPut-more at fresh old line cell so_far.put (omega (arith, e))))

      pub wide_written : column + 1 < length old → is_known_wide character ≡ true
          → IsWritten rendition is_protected at bytes old
          (set (set line column (left_cell character rendition is_protected)) (column + 1)
          (right_cell character rendition is_protected)) (column + 2) 2 (read + size)
      wide_written inside wide =
          let left : Cell = left_cell character rendition is_protected in
          let right : Cell = right_cell character rendition is_protected in
          let e = end_is in
          let half : IsPut at (fresh ++ left ∷ []) old (set line column left) =
          subst (λ n. IsPut at (fresh ++ left ∷ []) old (set line n left)) e
          (IsPut-more at fresh old line left so_far.put (omega (arith, e))) in
          let end : at + length (fresh ++ left ∷ []) ≡ column + 1 = omega (arith, length-append fresh (left ∷ []), e) in
          base_written (left ∷ right ∷ []) (set (set line column left) (column + 1) right) (column + 2)
          (rw wide (or_true (is_letter character))) (wide_alone character wide) (rw wide refl) refl (omega arith)
          (subst (λ (v : List Cell). IsPut at v old (set (set line column left) (column + 1) right))
          (append_assoc fresh (left ∷ []) (right ∷ []))
          (subst (λ n. IsPut at ((fresh ++ left ∷ []) ++ right ∷ []) old (set (set line column left) n right)) end
          (IsPut-more at (fresh ++ left ∷ []) old (set line column left) right half (omega (arith, end)))))

      -- a mark joins the first cell of the last character
      pub mark_written : at < column → is_mark character ≡ true
          → IsWritten rendition is_protected at bytes old
          (set line (column - last) (marked (cell_at line (column - last)) character)) column last (read + size)
      mark_written some is_mark =
          let read_so_far : List ℕ = text (take read bytes) in
          let e = end_is in
          with_tip rendition is_protected read_so_far (omega (arith, e, some)) (λ front cell tip.
          let n : length fresh ≡ length front + length (whole cell) = ap length tip.cells
          ∙ length-append front (whole cell) in
          let l : length (whole cell) ≡ last = sym (ap last_columns tip.cells ∙ last_is front cell tip.first)
          ∙ so_far.puts.last in
          let here : at + length front ≡ column - last = omega (arith, n, l, e) in
          let joined : Cell = marked cell character in
          let m : length (front ++ whole joined) ≡ length front + length (whole cell) = length-append front
          (whole joined) in
          let put : IsPut at (front ++ whole cell) old line = subst (λ (v : List Cell). IsPut at v old line) tip.cells
          so_far.put in
          let same : cell_at line (column - last) ≡ cell = ap (cell_at line) (sym here)
          ∙ put.placed (length front) (omega (arith, length-append front (whole cell)))
          ∙ get_or-append_seam front cell _ blank in
          written_more (front ++ whole joined)
          (set line (column - last) (marked (cell_at line (column - last)) character)) column last
          (tip.marks character is_mark) (omega (arith, m, n, e)) so_far.inside
          (is_based-mark read_so_far character
          (some_characters rendition is_protected read_so_far (omega (arith, e, some))) so_far.puts.based
          is_mark)
          (last_is front joined tip.first ∙ l)
          (subst
          (λ (x : Cell). IsPut at (front ++ whole joined) old (set line (column - last) (marked x character)))
          (sym same)
          (subst (λ k. IsPut at (front ++ whole joined) old (set line k joined)) here
          (subst (λ (v : List Cell). IsPut at v old (set line (at + length front) joined))
          (set-append_seam front cell _ joined)
          (IsPut-other at (front ++ whole cell) old line (length front) joined put
          (omega (arith, length-append front (whole cell))) (omega (arith, n, e, so_far.inside)))))))
