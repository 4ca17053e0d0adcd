use Rattle.cells.proofs.Vocabulary.{◌≤◌, ◌+◌, ◌-◌, ℕ, List, set, take, sym, ◌∙◌, subst, arith, text, Cell, Left, Right}
use Rattle.cells.proofs.Vocabulary.{text_cells}
use Rattle.cells.proofs.Mending.{cells_mended, nothing_put}
use Rattle.cells.proofs.TextCells.{paired_complete, text_paired}
use Rattle.cells.proofs.Written.{IsWritten, begun_written, last_inside, letter_written, wide_written, mark_written}
use Rattle.cells.proofs.texts.put_text.Goals as goal
use Rattle.cells.proofs.texts.put_text.Goals.{then-is_letter, else-is_letter+then-at-column+then-is_mark}
use Rattle.cells.proofs.texts.put_text.Goals.{else-is_letter+else-at-column+then-column-cells+then-is_known_wide}

pub loop-column-init : goal.loop-column-init
loop-column-init c = (
  begun_written c.args.space.now.rendition c.args.space.now.is_protected c.args.at c.args.bytes.now c.args.cells.now
      c.args.begun c.requires.few c.requires.room c.requires.codes c.requires.begun,
  omega arith,
)

pub overflow_sub-column : goal.overflow_sub-column
overflow_sub-column c =
    let inside : c.args.at + c.loop-column.last ≤ c.loop-column.column =
    last_inside c.args.space.now.rendition c.args.space.now.is_protected c.args.at c.args.bytes.now c.args.cells.now
    c.loop-column.cells c.loop-column.column c.loop-column.last c.loop-column.read c.loop-column.invariant.0
    c.if-at-column.true in
    omega (arith, inside)

pub loop-column-preserved : goal.loop-column-preserved
loop-column-preserved c =
    let rendition = c.args.space.now.rendition in
    let is_protected = c.args.space.now.is_protected in
    let few = c.loop-column.invariant.1 in
    elim c.if-is_letter.branch [
      | then-is_letter w ↦ rw (w.cells-is, w.column-is, w.last-is) (
        subst
            (λ (x : Cell). IsWritten rendition is_protected c.args.at c.args.bytes.now c.args.cells.now
            (set c.loop-column.cells c.loop-column.column (record x { character = c.in-Some.character }))
            (c.loop-column.column + 1) 1 (c.loop-column.read + c.in-Some.size))
            (sym c.requires.space)
            (letter_written rendition is_protected c.args.at c.args.bytes.now c.args.cells.now
            c.loop-column.cells c.loop-column.column c.loop-column.last c.loop-column.read c.loop-column.invariant.0
            c.in-Some.character c.in-Some.size (omega (arith, c.in-Some.ensures.few)) c.in-Some.ensures.reads
            c.in-Some.ensures.character (omega (arith, c.loop-column.auto.cells, c.loop-column-test.true))
            (sym c.is_letter.ensures ∙ w.if-is_letter.true)),
        omega (arith, few),
      )
      | else-is_letter+then-at-column+then-is_mark w ↦ rw (w.cells-is, w.column-is, w.last-is) (
        rw w.join_mark.ensures
            (mark_written rendition is_protected c.args.at c.args.bytes.now c.args.cells.now
            c.loop-column.cells c.loop-column.column c.loop-column.last c.loop-column.read c.loop-column.invariant.0
            c.in-Some.character c.in-Some.size (omega (arith, c.in-Some.ensures.few)) c.in-Some.ensures.reads
            c.in-Some.ensures.character w.if-at-column.true (sym w.is_mark.ensures ∙ w.if-is_mark.true)),
        few,
      )
      | else-is_letter+else-at-column+then-column-cells+then-is_known_wide w ↦ rw (w.cells-is, w.column-is, w.last-is) (
        rw w.write_halves.ensures
            (subst
            (λ (x : Cell). IsWritten rendition is_protected c.args.at c.args.bytes.now c.args.cells.now
            (set
            (set c.loop-column.cells c.loop-column.column (record x { character = c.in-Some.character; shape = Left }))
            (c.loop-column.column + 1) (record x { character = c.in-Some.character; shape = Right }))
            (c.loop-column.column + 2) 2 (c.loop-column.read + c.in-Some.size))
            (sym c.requires.space)
            (wide_written rendition is_protected c.args.at c.args.bytes.now c.args.cells.now
            c.loop-column.cells c.loop-column.column c.loop-column.last c.loop-column.read c.loop-column.invariant.0
            c.in-Some.character c.in-Some.size (omega (arith, c.in-Some.ensures.few)) c.in-Some.ensures.reads
            c.in-Some.ensures.character (omega (arith, c.loop-column.auto.cells, w.if-column-cells.true))
            (sym w.is_known_wide.ensures ∙ w.if-is_known_wide.true))),
        omega (arith, few),
      )
    ]

pub overflow_sub-count : goal.overflow_sub-count
overflow_sub-count c = c.loop-column.invariant.0.past

pub returns-then-count-gt0-clause-cells : goal.returns-then-count-gt0-clause-cells
returns-then-count-gt0-clause-cells c =
    let so_far = c.loop-column.invariant.0 in
    let characters : List ℕ = text (take c.loop-column.read c.args.bytes.now) in
    let fresh : List Cell = text_cells characters c.args.space.now.rendition c.args.space.now.is_protected in
    c.mend.ensures
    ∙ cells_mended c.args.at (c.loop-column.column - c.args.at) fresh c.args.cells.now c.loop-column.cells
    c.cuts_wide-is_cut.result so_far.puts.count c.cuts_wide-is_cut.ensures c.if-count-gt0.true
    (omega (arith, so_far.past, so_far.inside)) c.requires.paired so_far.put
    (λ j h. paired_complete fresh
    (text_paired c.args.space.now.rendition c.args.space.now.is_protected characters) j)

pub returns-else-count-gt0-clause-cells : goal.returns-else-count-gt0-clause-cells
returns-else-count-gt0-clause-cells c =
    let so_far = c.loop-column.invariant.0 in
    nothing_put c.args.at (c.loop-column.column - c.args.at)
    (text_cells (text (take c.loop-column.read c.args.bytes.now)) c.args.space.now.rendition
    c.args.space.now.is_protected) c.args.cells.now c.loop-column.cells so_far.puts.count c.if-count-gt0.false
    c.requires.paired so_far.put
