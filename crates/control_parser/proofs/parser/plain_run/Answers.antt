use Rattle.std.proofs.Common.{sym, ap, ◌∙◌, arith}
use lib.Count.{count_trailing_zeros}
use Rattle.control_parser.proofs.Lanes.{run_through, run_stops}
use Rattle.control_parser.proofs.parser.plain_run.Goals as goal

pub returns-then-stops-ne0 : goal.returns-then-stops-ne0
returns-then-stops-ne0 c =
    let stops = c.stops_in-stops in
    let run = run_stops c.args.bytes.now c.loop-run.run 32 (omega arith) (omega arith) (omega (arith, stops.ensures))
    ∙ ap (count_trailing_zeros 64) (sym stops.ensures) in
    omega (arith, run, c.loop-run.invariant.plain)

pub loop-run-preserved : goal.loop-run-preserved
loop-run-preserved c =
    let run = run_through c.args.bytes.now c.loop-run.run 32 (omega arith) (omega (arith, c.stops_in-stops.ensures)) in
    record { plain = omega (arith, run, c.loop-run.invariant.plain); inside = omega arith }
