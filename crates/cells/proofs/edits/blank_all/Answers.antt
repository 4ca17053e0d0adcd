use Rattle.std.proofs.Common.{length, ◌+◌, ◌≤◌, ◌∙◌, arith}
use Rattle.cells.proofs.Blanks.{front_next}
use Rattle.cells.proofs.edits.blank_all.Goals as goal

pub loop-done-preserved : goal.loop-done-preserved
loop-done-preserved c =
    let begun = c.loop-done.invariant in
    let copied = c.copy_within.ensures.by_index in
    let room : c.loop-done.done + c.min-more.result ≤ length c.copy_within.new.self =
    omega (arith, c.copy_within.ensures.len) in
    record {
      same = c.copy_within.ensures.len ∙ begun.same;
      inside = omega (arith, begun.same);
      some = omega (arith, begun.some);
      front = front_next c.loop-done.done c.min-more.result c.loop-done.cells c.copy_within.new.self room (omega arith)
          begun.front copied.0 copied.1;
    }
