use Rattle.redraw.proofs.Vocabulary.{◌≡◌, ◌+◌, ℕ, List, drop, get_or, ap, arith, drop_more, drop_all, all_bytes}
use Rattle.redraw.specs.Renditions.{value_bytes}
use Rattle.redraw.proofs.rendition.all_bytes.Goals as goal

pub loop-index-preserved : goal.loop-index-preserved
loop-index-preserved c =
    let values : List ℕ = c.args.values.now in
    let i : ℕ = c.loop-index.index in
    let step : all_bytes (drop i values) ≡ value_bytes (get_or values i 0) + all_bytes (drop (i + 1) values) = ap
    all_bytes (drop_more values i 0 c.loop-index-test.true) in (
      omega (arith, step, c.loop-index.invariant.0, c.value_bytes-bytes.ensures.value),
      omega
          (arith, c.loop-index.invariant.1, c.value_bytes-bytes.ensures.few),
    )

pub returns : goal.returns
returns c =
    let none : all_bytes (drop c.loop-index.index c.args.values.now) ≡ 0 = ap all_bytes
    (drop_all c.loop-index.index c.args.values.now c.loop-index-test.false) in
    omega (arith, none, c.loop-index.invariant.0)
