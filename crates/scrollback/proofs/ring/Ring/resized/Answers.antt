use Rattle.std.proofs.Common.{◌≡◌, ℕ, List, [], length, map, get_or, sym, ap, ◌∙◌}
use Rattle.std.proofs.lemmas.List.{length-map, get_or-map}
use Rattle.circular_buffer.specs.Buffer.{Buffer, buffer, keep_last}
use Rattle.cells.specs.declared.cell.Cell.{Cell}
use Rattle.cells.specs.Resizing.{line_resized}
use Rattle.cells.proofs.Resizing.{length-line_resized}
use Rattle.scrollback.specs.Kept.{Kept, resized_lines}
use Rattle.scrollback.proofs.Ringing.{keep_last-map, continues_resized}
use Rattle.scrollback.proofs.ring.Ring.resized.Goals as goal

pub invariant_of-self : goal.invariant_of-self
invariant_of-self c =
    let items : List (List Cell) = c.self.inside.lines.items in
    let f : List Cell → List Cell = line_resized c.args.columns in
    let after : c.in_ok-lines.lines ≡ buffer (map f items) c.self.inside.lines.capacity = c.in_ok-lines.ensures in
    let room : c.in_ok-lines.lines.capacity ≡ c.self.inside.lines.capacity = ap (λ (b : Buffer (List Cell)). b.capacity)
    after in
    let many : length c.in_ok-lines.lines.items ≡ length items = ap (λ (b : Buffer (List Cell)). length b.items) after
    ∙ length-map items f in
    record {
      full = many ∙ c.self.invariant.full ∙ sym room;
      inside = rw room c.self.invariant.inside;
      width = λ k h. ap (λ (b : Buffer (List Cell)). length (get_or b.items k [])) after
          ∙ ap length (get_or-map f items k [] [] (rw many at h))
          ∙ length-line_resized c.args.columns (get_or items k []);
    }

pub returns-clause-ok : goal.returns-clause-ok
returns-clause-ok c =
    let items : List (List Cell) = c.self.inside.lines.items in
    let after : c.in_ok-lines.lines ≡ buffer (map (line_resized c.args.columns) items) c.self.inside.lines.capacity =
    c.in_ok-lines.ensures in
    ap (λ (b : Buffer (List Cell)). kept_with b.capacity c.args.columns (keep_last c.self.inside.count b.items)) after
    ∙ ap (kept_with c.self.inside.lines.capacity c.args.columns)
    (keep_last-map (line_resized c.args.columns) c.self.inside.count items)
    ∙ ap (λ (k : Kept). resized_lines k c.args.columns) c.self.view_is
  where
    kept_with : ℕ → ℕ → List (List Cell) → Kept
    kept_with keep columns lines = record { keep = keep; columns = columns; lines = lines }

pub returns-clause-stands : goal.returns-clause-stands
returns-clause-stands c = continues_resized c.args.self.now _ c.args.columns (returns-clause-ok c)
