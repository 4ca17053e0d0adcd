use Rattle.std.proofs.Common.{◌+◌, arith, sym, subst}
use Rattle.cells.specs.Page.{IsGridSize}
use Rattle.regions.specs.declared.rect.Rect.{Rect}
use Rattle.redraw_tests.proofs.drawing.view_of.Goals as goal

pub compose_over-requires-clause-sized : goal.compose_over-requires-clause-sized
compose_over-requires-clause-sized c =
    subst (λ (r : Rect). IsGridSize (r.line + 1) r.columns) (sym c.of_status.ensures) (record {
      least_rows = omega (arith);
      most_rows = omega (arith);
      least_columns = omega (arith);
      most_columns = omega (arith);
    })
