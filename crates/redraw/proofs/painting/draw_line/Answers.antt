use Rattle.redraw.proofs.Vocabulary.{◌≡◌, ℕ, false, arith, cell_at, is_right, IsNextUnlike, Differs}
use Rattle.redraw.proofs.Pieces.{line_start, line_piece, line_end, start_whole}
use Rattle.redraw.proofs.painting.draw_line.Goals as goal

pub loop-start-init : goal.loop-start-init
loop-start-init c = record {
  inside = omega arith;
  known = λ some. absurd (omega arith);
  draws = λ old new rows lh rh lines. line_start old new rows c.args.line c.args.before.now c.args.after.now lines
      c.args.pen.now c.args.out.now.items;
}

pub loop-start-preserved : goal.loop-start-preserved
loop-start-preserved c =
    let k : ℕ = c.loop-start.column in
    let i : ℕ = c.in-Some.start in
    let run : IsNextUnlike c.args.before.now c.args.after.now k i c.in-Some.end = c.in-Some.ensures.found in
    let next : ℕ = c.in_ok-column.column in
    record {
      inside = omega (arith, c.in_ok-column.ensures.forth, c.requires.same_width);
      known = λ some. record {
        start_on = omega arith;
        inside = run.last.inside;
        unlike = λ column from below. run.last.unlike column (omega (arith, c.in_ok-column.ensures.forth)) below;
        alike_after = run.last.alike_after;
      };
      draws = λ old new rows lh rh lines.
          let drawn = c.loop-start.invariant.draws old new rows lh rh lines in
          let whole : is_right (cell_at c.args.after.now i).shape ≡ false
          = start_whole old new rows c.args.line c.args.before.now c.args.after.now lines c.args.pen.now
          c.loop-start.pen k i c.args.out.now.items c.loop-start.out.items drawn run.first.from_on
          run.first.alike_before run.first.unlike in
          let differs : Differs old new c.args.line i = λ e. run.first.unlike (rw (lines.old_is, lines.new_is) at e) in
          line_piece old new rows c.args.line c.args.before.now c.args.after.now lines c.args.pen.now c.loop-start.pen
          c.draw_piece.new.pen k i next c.args.out.now.items c.loop-start.out.items c.draw_piece.new.out.items
          drawn run.first.from_on c.in_ok-column.ensures.forth.0
          (omega (arith, run.first.inside, c.requires.same_width)) whole run.first.alike_before
          (c.in_ok-column.ensures.draws old new rows c.args.before.now lh rh lines whole differs);
    }

pub returns : goal.returns
returns c old new rows lh rh lines =
    line_end old new rows c.args.line c.args.before.now c.args.after.now lines c.args.pen.now c.loop-start.pen
    c.loop-start.column c.args.out.now.items c.loop-start.out.items
    (c.loop-start.invariant.draws old new rows lh rh lines) c.in_default.ensures.none
