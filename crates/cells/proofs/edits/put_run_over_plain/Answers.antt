use Rattle.cells.proofs.Vocabulary.{◌≡◌, ◌+◌, ◌*◌, ◌/◌, ℕ, false, length, refl, subst, arith, take_all, narrow_cells}
use Rattle.cells.proofs.Vocabulary.{plain, IsPut}
use Rattle.cells.proofs.Putting.{IsPut-none}
use Rattle.cells.proofs.OverPlain.{AreWritten, next_written}
use Rattle.cells.proofs.edits.put_run_over_plain.Goals as goal

pub loop-eight-init : goal.loop-eight-init
loop-eight-init c = IsPut-none c.args.at c.args.cells.now

pub loop-place-init : goal.loop-place-init
loop-place-init c = subst (λ n. AreWritten c.args.at c.args.codes.now c.args.cells.now n c.loop-eight.cells)
    (omega arith) c.loop-eight.invariant

pub loop-place-preserved : goal.loop-place-preserved
loop-place-preserved c =
    let count : ℕ = 8 * c.loop-eight.eight + c.loop-place.place in
    next_written c.args.at count (8 * c.loop-eight.eight + (c.loop-place.place + 1)) c.args.codes.now c.args.cells.now
    c.loop-place.cells _ c.requires.plain (omega (arith, c.requires.room)) (omega arith) (omega arith)
    c.loop-place.invariant

pub loop-eight-preserved : goal.loop-eight-preserved
loop-eight-preserved c =
    let all : 8 * c.loop-eight.eight + c.loop-place.place ≡ 8 * (c.loop-eight.eight + 1) = omega arith in
    subst (λ n. AreWritten c.args.at c.args.codes.now c.args.cells.now n c.loop-place.cells) all c.loop-place.invariant

pub loop-column-init : goal.loop-column-init
loop-column-init c =
    let all : 8 * c.loop-eight.eight ≡ 8 * (length c.args.codes.now / 8) = omega arith in
    subst (λ n. AreWritten c.args.at c.args.codes.now c.args.cells.now n c.loop-eight.cells) all c.loop-eight.invariant

pub loop-column-preserved : goal.loop-column-preserved
loop-column-preserved c =
    next_written c.args.at c.loop-column.column (c.loop-column.column + 1) c.args.codes.now c.args.cells.now
    c.loop-column.cells _ c.requires.plain (omega (arith, c.loop-column-test.true, c.requires.room))
    c.loop-column-test.true refl c.loop-column.invariant

pub returns : goal.returns
returns c = subst (λ v. IsPut c.args.at (narrow_cells v plain false) c.args.cells.now c.loop-column.cells)
    (take_all c.loop-column.column c.args.codes.now (omega arith)) c.loop-column.invariant
