use Rattle.std.proofs.Common.{◌≡◌, true, sym, ◌∙◌}
use Rattle.server_trail.proofs.Files.{line_more}
use Rattle.server_trail.proofs.reading.are_lines.Goals as goal

pub loop-place-preserved : goal.loop-place-preserved
loop-place-preserved g c =
    let first : c.in_ok-has_line.field-0 ≡ true = c.if-not-branch.false in
    let second : c.in_ok-is_line_of.field-0 ≡ true = c.if-not-branch-2.false in
    let w = c.in_ok-is_line_of.ensures second in
    line_more c.args.entries.now.entries c.loop-place.place c.at-entry.result.now
    c.has_line.new.line.items _ _ _ c.at-entry.ensures c.loop-place.invariant
    (c.in_ok-has_line.ensures first) (w.0, sym c.as_slice.ensures.value ∙ w.1)
