use Rattle.std.proofs.Common.{◌≡◌, ◌++◌, drop}
use Rattle.std.specs.String.{string_bytes}
use Rattle.web_page.specs.Runs.{runs, spelled_runs, rest_of}
use Rattle.web_page.proofs.line.put_runs.Given as goal

abbrev pub invariant-loop-cell : goal.invariant-loop-cell
invariant-loop-cell l = string_bytes l.out ++ rest_of l.last (runs (drop l.cell-index l.cells))
    ≡ string_bytes l.fn.out ++ spelled_runs (runs l.cells)
