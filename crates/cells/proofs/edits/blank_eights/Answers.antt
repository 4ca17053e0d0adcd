use Rattle.std.proofs.Common.{◌≡◌, ◌+◌, ◌*◌, ℕ, subst, arith}
use Rattle.cells.proofs.Putting.{IsPut-none}
use Rattle.cells.proofs.OverPlain.{AreBlanked, next_blanked}
use Rattle.cells.proofs.edits.blank_eights.Goals as goal

pub loop-eight-init : goal.loop-eight-init
loop-eight-init c = IsPut-none c.args.from c.args.cells.now

pub loop-place-init : goal.loop-place-init
loop-place-init c = subst (λ n. AreBlanked c.args.from c.args.cells.now n c.loop-eight.cells) (omega arith)
    c.loop-eight.invariant

pub loop-place-preserved : goal.loop-place-preserved
loop-place-preserved c =
    let count : ℕ = 8 * c.loop-eight.eight + c.loop-place.place in
    next_blanked c.args.from count (8 * c.loop-eight.eight + (c.loop-place.place + 1)) c.args.cells.now
    c.loop-place.cells _ c.requires.plain (omega (arith, c.loop-place.auto, c.loop-eight.auto, c.requires.room))
    (omega arith)
    c.loop-place.invariant

pub loop-eight-preserved : goal.loop-eight-preserved
loop-eight-preserved c =
    let all : 8 * c.loop-eight.eight + c.loop-place.place ≡ 8 * (c.loop-eight.eight + 1) = omega arith in
    subst (λ n. AreBlanked c.args.from c.args.cells.now n c.loop-place.cells) all c.loop-place.invariant

pub returns : goal.returns
returns c =
    let all : 8 * c.loop-eight.eight ≡ 8 * c.args.eights = omega arith in
    subst (λ n. AreBlanked c.args.from c.args.cells.now n c.loop-eight.cells) all c.loop-eight.invariant
