use Rattle.std.proofs.Common.{ap, ◌∙◌, ◌<◌, length, arith}
use Rattle.vt_screen_page.specs.Store.{Placed}
use Rattle.vt_screen_page.proofs.Stored.{view_grid, places_stay}
use Rattle.vt_screen_page.proofs.Turning.{erased_none, erased_more}
use Rattle.vt_screen_page.proofs.page.Page.erase_lines.Goals as goal

pub loop-line-init : goal.loop-line-init
loop-line-init c = record {
  store = c.self.invariant;
  lines = ap (λ (v : Placed). v.lines) c.self.view_is
      ∙ erased_none c.args.first c.args.self.now.lines (view_grid c.self.view_is c.self.invariant);
  places = places_stay c.self.view_is;
}

pub loop-line-preserved : goal.loop-line-preserved
loop-line-preserved c =
    let inside : c.loop-line.line < length c.args.self.now.lines = omega arith in
    let m = erased_more c.args.first c.loop-line.line c.args.self.now.lines c.loop-line.invariant.store
    c.loop-line.invariant.lines (omega arith) inside c.index-place.ensures c.index_mut.ensures.value c.clear.ensures in
    record { store = m.store; lines = m.lines; places = c.loop-line.invariant.places }
