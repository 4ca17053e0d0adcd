-- A ring keeps the last ones of the lines that were taken in.
use Rattle.std.proofs.Common.{◌≡◌, ℕ, ◌-◌, List, [], ◌∷◌, ◌++◌, length, map, drop, sym, ap, ◌∙◌, subst}
use Rattle.std.proofs.lemmas.List.{drop-map, length-map}
use Rattle.circular_buffer.specs.Buffer.{keep_last}
use Rattle.cells.specs.declared.cell.Cell.{Cell}
use Rattle.scrollback.specs.Kept.{Kept, with_line, resized_lines, StandsFor, Continues, ContinuesResized}
use Rattle.cells.specs.Resizing.{line_resized}
use Rattle.scrollback.proofs.Lasts.{keep_twice}

pub continues : (old new : Kept) (line : List Cell) → new ≡ with_line old line → Continues old new line
continues old new line e lines h =
    subst (λ (k : Kept). StandsFor k (lines ++ line ∷ [])) (sym e)
    (ap (λ (x : List (List Cell)). keep_last old.keep (x ++ line ∷ [])) h ∙ keep_twice old.keep lines line)

pub keep_last-map : (f : List Cell → List Cell) (count : ℕ) (items : List (List Cell))
    → keep_last count (map f items) ≡ map f (keep_last count items)
keep_last-map f count items = ap (λ n. drop (n - count) (map f items)) (length-map items f)
    ∙ drop-map f (length items - count) items

pub continues_resized : (old new : Kept) (columns : ℕ) → new ≡ resized_lines old columns
    → ContinuesResized old new columns
continues_resized old new columns e lines h =
    subst (λ (k : Kept). StandsFor k (map (line_resized columns) lines)) (sym e)
    (ap (map (line_resized columns)) h ∙ sym (keep_last-map (line_resized columns) old.keep lines))
