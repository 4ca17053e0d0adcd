use Rattle.std.proofs.Common.{◌≡◌, ◌+◌, ◌-◌, refl, subst, arith}
use Rattle.cells.proofs.Putting.{IsPut-none}
use Rattle.cells.proofs.OverPlain.{AreBlanked, blanked_up_to, next_blanked}
use Rattle.cells.proofs.edits.blank_plain.Goals as goal

pub returns-then-from-eights : goal.returns-then-from-eights
returns-then-from-eights c = blanked_up_to c.args.from c.args.end _ c.args.cells.now c.blank_eights.new.cells
    c.requires.blank (omega arith) c.blank_eights.ensures

pub loop-column-init : goal.loop-column-init
loop-column-init c = IsPut-none c.args.from c.args.cells.now

pub loop-column-preserved : goal.loop-column-preserved
loop-column-preserved c =
    next_blanked c.args.from c.loop-column.column (c.loop-column.column + 1) c.args.cells.now c.loop-column.cells _
    c.requires.plain (omega (arith, c.loop-column.auto, c.requires.inside)) refl c.loop-column.invariant

pub returns : goal.returns
returns c =
    let all : c.loop-column.column ≡ c.args.end - c.args.from = omega arith in
    subst (λ n. AreBlanked c.args.from c.args.cells.now n c.loop-column.cells) all c.loop-column.invariant
