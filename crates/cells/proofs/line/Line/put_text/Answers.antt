use Rattle.cells.proofs.Vocabulary.{◌≡◌, ℕ, ◌+◌, ◌-◌, List, length, take, drop, false, ◌∙◌, ap, sym, subst, arith}
use Rattle.cells.proofs.Vocabulary.{length-take-le, take_at, text, Cell, cells_spliced, narrow_cells, plain, spliced}
use Rattle.cells.proofs.Vocabulary.{ArePlainFrom, IsPaired, text_cells}
use Rattle.cells.proofs.OverPlain.{first_over_plain, over_written, plain-stored, plain_spliced, plain_cells, put_paired}
use Rattle.cells.proofs.OverPlain.{put_stands}
use Rattle.cells.proofs.Putting.{length-narrow_cells}
use Rattle.cells.proofs.TextCells.{plain_puts, text_over_plain}
use Rattle.cells.proofs.Used.{IsUsed-spliced}
use Rattle.cells.proofs.line.Line.put_text.Goals as goal

pub put_plain-begun-requires-clause-plain : goal.put_plain-begun-requires-clause-plain
put_plain-begun-requires-clause-plain c = subst (ArePlainFrom c.plain_from-plain_from.result)
    (sym (c.as_mut_slice-cells.ensures.value ∙ c.self.view_is)) c.plain_from-plain_from.ensures

pub invariant_of-self : goal.invariant_of-self
invariant_of-self c =
    let items : List Cell = c.self.inside.cells.items in
    let old : List Cell = c.as_mut_slice-cells.result.now in
    let value = c.as_mut_slice-cells.ensures.value in
    let begun : ℕ = c.put_plain-begun.result in
    let run = c.put_plain-begun.ensures in
    let codes : List ℕ = take begun c.args.bytes.now in
    let fresh : List Cell = narrow_cells codes plain false in
    let n : length fresh ≡ begun = length-narrow_cells codes plain false
    ∙ length-take-le begun c.args.bytes.now run.few in
    let width = ap length value in
    let same = c.put_plain-begun.auto.cells ∙ c.as_mut_slice-cells.ensures.len in
    let put = first_over_plain c.args.at begun c.args.bytes.now old c.put_plain-begun.new.cells run.few run.room
    (subst IsPaired (sym value) c.self.invariant.used_part.paired) (run.old c.if-begun-gt0.true) run.cells in
    record {
      used_part = IsUsed-spliced c.args.at fresh (c.args.at + begun) c.self.inside.used c.max-self-inside.result
          c.put_plain-begun.new.cells old items c.self.inside.cells.len same put value c.self.invariant.used_part
          (omega (arith, c.max-self-inside.ensures, c.self.invariant.used_part.inside, width, run.room))
          (λ k past inside. omega (arith, c.max-self-inside.ensures, n));
      plain = λ e. plain-stored (spliced c.args.at fresh (c.args.at + begun) (length old)) c.put_plain-begun.new.cells
          old items c.self.inside.cells.len same put value
          (plain_spliced c.args.at fresh items (c.args.at + begun) (length old) (plain_cells codes)
          (c.self.invariant.plain e));
    }

pub returns-then-is_all-clause-put : goal.returns-then-is_all-clause-put
returns-then-is_all-clause-put c =
    let line = ap length (c.as_mut_slice-cells.ensures.value ∙ c.self.view_is) in
    plain_puts c.args.rendition c.args.is_protected c.args.bytes.now (length c.args.self.now - c.args.at)
    c.put_plain-begun.result c.put_plain-begun.ensures.few (omega (arith, line, c.put_plain-begun.ensures.room))
    c.put_plain-begun.ensures.codes

pub returns-then-is_all-clause-cells : goal.returns-then-is_all-clause-cells
returns-then-is_all-clause-cells c =
    let old : List Cell = c.as_mut_slice-cells.result.now in
    let value = c.as_mut_slice-cells.ensures.value in
    let run = c.put_plain-begun.ensures in
    let codes : List ℕ = take c.put_plain-begun.result c.args.bytes.now in
    let end : ℕ = c.args.at + c.put_plain-begun.result in
    take_at c.put_plain-begun.new.cells (drop (length c.put_plain-begun.new.cells) c.self.inside.cells.items)
    c.self.inside.cells.len (c.put_plain-begun.auto.cells ∙ c.as_mut_slice-cells.ensures.len)
    ∙ first_over_plain c.args.at c.put_plain-begun.result c.args.bytes.now old c.put_plain-begun.new.cells run.few
    run.room (subst IsPaired (sym value) c.self.invariant.used_part.paired) (run.old c.if-begun-gt0.true) run.cells
    ∙ ap (λ (v : List Cell). cells_spliced c.args.at v end old)
    (sym
    (text_over_plain c.args.rendition c.args.is_protected codes run.codes
    (sym c.narrow-space.ensures ∙ run.new c.if-begun-gt0.true)))
    ∙ ap (cells_spliced c.args.at (text_cells (text codes) c.args.rendition c.args.is_protected) end)
    (value ∙ c.self.view_is)

pub put_text-put-requires-clause-paired : goal.put_text-put-requires-clause-paired
put_text-put-requires-clause-paired c =
    let run = c.put_plain-begun.ensures in
    let n = length-take-le c.put_plain-begun.result c.args.bytes.now run.few in
    put_paired c.args.at (take c.put_plain-begun.result c.args.bytes.now) c.as_mut_slice-cells.result.now
    c.put_plain-begun.new.cells (λ some. run.old (omega (arith, n, some)))
    (subst IsPaired (sym c.as_mut_slice-cells.ensures.value) c.self.invariant.used_part.paired) run.cells

pub put_text-put-requires-clause-begun : goal.put_text-put-requires-clause-begun
put_text-put-requires-clause-begun c =
    let run = c.put_plain-begun.ensures in
    let n = length-take-le c.put_plain-begun.result c.args.bytes.now run.few in
    put_stands c.args.at (take c.put_plain-begun.result c.args.bytes.now) c.as_mut_slice-cells.result.now
    c.put_plain-begun.new.cells c.narrow-space.result (λ some. run.new (omega (arith, n, some))) run.cells

pub invariant_of-self-2 : goal.invariant_of-self-2
invariant_of-self-2 c =
    let items : List Cell = c.self.inside.cells.items in
    let old : List Cell = c.as_mut_slice-cells.result.now in
    let value = c.as_mut_slice-cells.ensures.value in
    let put = c.put_text-put.ensures.put in
    let count : ℕ = c.put_text-put.result.count in
    let fresh : List Cell = text_cells (text (take c.put_text-put.result.read c.args.bytes.now))
    c.narrow-space.result.rendition c.narrow-space.result.is_protected in
    let same = c.put_plain-begun.auto.cells ∙ c.as_mut_slice-cells.ensures.len in
    let width = ap length value in
    record {
      used_part = IsUsed-spliced c.args.at fresh (c.args.at + count) c.self.inside.used c.max-self-inside-2.result
          c.put_text-put.new.cells old items c.self.inside.cells.len (c.put_text-put.auto.cells ∙ same)
          (c.put_text-put.ensures.cells
          ∙ over_written c.args.at count c.put_plain-begun.result c.args.bytes.now fresh old c.put_plain-begun.new.cells
          c.put_plain-begun.ensures.few put.count c.put_text-put.ensures.more c.put_plain-begun.ensures.cells)
          value c.self.invariant.used_part
          (omega (
            arith,
            c.max-self-inside-2.ensures,
            c.self.invariant.used_part.inside,
            width,
            c.put_plain-begun.auto.cells,
            put.inside,
            c.put_plain-begun.ensures.room,
          ))
          (λ k past inside. omega (arith, c.max-self-inside-2.ensures, put.count));
      plain = λ e. absurd (cc);
    }

pub returns-clause-cells : goal.returns-clause-cells
returns-clause-cells c =
    let old : List Cell = c.as_mut_slice-cells.result.now in
    let characters : List ℕ = text (take c.put_text-put.result.read c.args.bytes.now) in
    let count : ℕ = c.put_text-put.result.count in
    take_at c.put_text-put.new.cells (drop (length c.put_text-put.new.cells) c.self.inside.cells.items)
    c.self.inside.cells.len
    (c.put_text-put.auto.cells ∙ c.put_plain-begun.auto.cells ∙ c.as_mut_slice-cells.ensures.len)
    ∙ c.put_text-put.ensures.cells
    ∙ over_written c.args.at count c.put_plain-begun.result c.args.bytes.now
    (text_cells characters c.narrow-space.result.rendition c.narrow-space.result.is_protected) old
    c.put_plain-begun.new.cells c.put_plain-begun.ensures.few c.put_text-put.ensures.put.count
    c.put_text-put.ensures.more c.put_plain-begun.ensures.cells
    ∙ ap
    (λ (x : Cell). cells_spliced c.args.at (text_cells characters x.rendition x.is_protected) (c.args.at + count) old)
    c.narrow-space.ensures
    ∙ ap (cells_spliced c.args.at (text_cells characters c.args.rendition c.args.is_protected) (c.args.at + count))
    (c.as_mut_slice-cells.ensures.value ∙ c.self.view_is)
