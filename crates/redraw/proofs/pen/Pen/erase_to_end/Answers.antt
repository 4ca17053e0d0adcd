use Rattle.redraw.proofs.Vocabulary.{◌<◌, arith, subst, sym, blank, spelling, Pen, EraseToEnd, func_of, Drawing, Takes}
use Rattle.redraw.proofs.Vocabulary.{Writes}
use Rattle.redraw.proofs.Screens.{at_place}
use Rattle.redraw.proofs.Erasing.{erase_end_leads}
use Rattle.redraw.proofs.Takings.{takes_bytes}
use Rattle.redraw.proofs.Inking.{aimed_writes}
use Rattle.redraw.proofs.pen.Pen.erase_to_end.Goals as goal

pub returns : goal.returns
returns c = record {
  takes = λ old new rows columns n lh rh some room cl.
      let pen : Pen = at_place c.args.at.line c.args.at.column c.args.self.now.rendition in
      let inside : c.args.at.column < columns = omega arith in
      let aimed = c.in_ok-move_to.ensures.takes old new rows columns lh rh inside cl in
      let erased : Takes old new (Drawing rows columns pen)
      (Writes rows columns pen c.args.at.line c.args.at.column n (λ k. blank)) c.move_to.new.out.items
      c.put.new.out.items
      = takes_bytes old new (Drawing rows columns pen)
      (Writes rows columns pen c.args.at.line c.args.at.column n (λ k. blank)) c.move_to.new.out.items
      c.put.new.out.items
      (spelling (func_of EraseToEnd)) c.in_ok-put.ensures
      (λ x d. erase_end_leads rows columns old new c.args.at.line c.args.at.column c.args.self.now.rendition x d lh
      inside
      n some room) in
      let erased' = subst
      (λ (p : Pen). Takes old new (Drawing rows columns p)
      (Writes rows columns p c.args.at.line c.args.at.column n (λ k. blank)) c.move_to.new.out.items
      c.put.new.out.items)
      (sym c.in_ok-move_to.ensures.place) erased in
      aimed_writes old new rows columns c.args.self.now c.move_to.new.self c.move_to.new.self c.args.at.line
      c.args.at.column
      n (λ k. blank) c.args.out.now.items c.move_to.new.out.items c.put.new.out.items aimed erased';
}
