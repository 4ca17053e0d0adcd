use Rattle.redraw.proofs.Vocabulary.{ℕ, ◌<◌, arith, width_of}
use Rattle.redraw.proofs.Inking.{put_takes, width_some}
use Rattle.redraw.proofs.pen.Pen.put_cell.Goals as goal

pub returns : goal.returns
returns c = record {
  takes = λ old new rows lh rh room cl is whole stands differs.
      let some : 0 < width_of c.args.cell.now.shape = width_some c.args.cell.now.shape in
      let columns : ℕ = c.args.columns in
      let inside : c.args.at.column < columns = omega arith in
      put_takes old new rows columns c.args.self.now c.aim.new.self c.args.at.line c.args.at.column c.columns_of.result
      c.then_some-self.result c.args.cell.now c.args.out.now.items c.aim.new.out.items c.put_glyphs.new.out.items
      c.in_ok-aim.ensures.place c.columns_of.ensures.value c.then_some-self.ensures lh room is whole stands differs
      (c.in_ok-aim.ensures.takes old new rows columns lh rh inside cl) c.in_ok-put_glyphs.ensures;
}
