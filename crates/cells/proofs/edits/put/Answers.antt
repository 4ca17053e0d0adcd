use Rattle.cells.proofs.Vocabulary.{◌≡◌, ◌+◌, ◌<◌, length, slice_set, sym, ap, ◌∙◌, subst, arith, nat_tests, IsPaired}
use Rattle.cells.proofs.Vocabulary.{cut_of, IsPut}
use Rattle.cells.proofs.Cutting.{IsPaired-cut_of}
use Rattle.cells.proofs.Settling.{length-cut_of}
use Rattle.cells.proofs.PuttingWhole.{put_none}
use Rattle.cells.proofs.Putting.{put_is, put_next, put_narrow_is, IsPutSoFar}
use Rattle.cells.proofs.edits.put.Goals as goal

pub returns-then-is_empty : goal.returns-then-is_empty
returns-then-is_empty c =
    let none : length c.args.fresh.now ≡ 0 = grind (arith, nat_tests, c.if-is_empty.true, c.is_empty.ensures) in
    put_none c.args.at c.args.fresh.now c.args.cells.now none c.requires.paired

pub cut-requires-2 : goal.cut-requires-2
cut-requires-2 c = record
    { paired = subst IsPaired (sym c.cut.ensures) (IsPaired-cut_of c.args.at c.args.cells.now c.requires.paired) }

pub returns-then-are_narrow : goal.returns-then-are_narrow
returns-then-are_narrow c =
    let same : length c.cut-2.new.cells ≡ length c.args.cells.now = ap length c.cut-2.ensures
    ∙ length-cut_of _ c.cut.new.cells ∙ ap length c.cut.ensures ∙ length-cut_of c.args.at c.args.cells.now in
    let twice : c.cut-2.new.cells ≡ cut_of (c.args.at + length c.args.fresh.now) (cut_of c.args.at c.args.cells.now) =
    c.cut-2.ensures ∙ ap (cut_of (c.args.at + length c.args.fresh.now)) c.cut.ensures in
    let some : 0 < length c.args.fresh.now = grind (arith, nat_tests, c.if-is_empty.false, c.is_empty.ensures) in
    put_narrow_is c.args.at c.args.fresh.now c.args.cells.now c.copy_over.new.cells c.requires.room some
    c.requires.paired (ap length (sym twice) ∙ same)
    (subst (λ x. IsPut c.args.at c.args.fresh.now x c.copy_over.new.cells) twice c.copy_over.ensures)
    (c.are_narrow.ensures c.if-are_narrow.true)

pub loop-column-preserved : goal.loop-column-preserved
loop-column-preserved c =
    let same : length c.loop-column.cells ≡ length c.args.cells.now = c.loop-column.auto.cells
    ∙ ap length c.cut-2.ensures ∙ length-cut_of _ c.cut.new.cells ∙ ap length c.cut.ensures
    ∙ length-cut_of c.args.at c.args.cells.now in
    subst
    (λ x. IsPutSoFar c.args.at c.args.fresh.now
    (cut_of (c.args.at + length c.args.fresh.now) (cut_of c.args.at c.args.cells.now)) (c.loop-column.column + 1)
    (slice_set c.loop-column.cells (c.args.at + c.loop-column.column) x))
    (sym c.settled_fresh.ensures)
    (put_next c.args.at c.args.fresh.now
    (cut_of (c.args.at + length c.args.fresh.now) (cut_of c.args.at c.args.cells.now)) c.loop-column.column
    c.loop-column.cells c.loop-column.invariant (omega (arith, c.requires.room)))

pub returns : goal.returns
returns c =
    let same : length c.loop-column.cells ≡ length c.args.cells.now = c.loop-column.auto.cells
    ∙ ap length c.cut-2.ensures ∙ length-cut_of _ c.cut.new.cells ∙ ap length c.cut.ensures
    ∙ length-cut_of c.args.at c.args.cells.now in
    let all : c.loop-column.column ≡ length c.args.fresh.now = omega arith in
    let some : 0 < length c.args.fresh.now = grind (arith, nat_tests, c.if-is_empty.false, c.is_empty.ensures) in
    let invariant : IsPutSoFar c.args.at c.args.fresh.now
    (cut_of (c.args.at + length c.args.fresh.now) (cut_of c.args.at c.args.cells.now)) (length c.args.fresh.now)
    c.loop-column.cells =
    subst
    (λ n. IsPutSoFar c.args.at c.args.fresh.now
    (cut_of (c.args.at + length c.args.fresh.now) (cut_of c.args.at c.args.cells.now)) n c.loop-column.cells) all
    c.loop-column.invariant in
    put_is c.args.at c.args.fresh.now c.args.cells.now c.requires.room some c.requires.paired c.loop-column.cells same
    invariant.outside invariant.new
