use Rattle.std.proofs.Common.{refl, ◌∙◌}
use Rattle.cells.specs.Line.{blank}
use Rattle.vt_screen_page.proofs.Stored.{view_grid, places_stay}
use Rattle.vt_screen_page.proofs.Sizes.{filled_makes, filled_whole}
use Rattle.vt_screen_page.proofs.page.Page.clear.Goals as goal

pub invariant_of-self : goal.invariant_of-self
invariant_of-self c = (filled_makes blank refl c.self.view_is c.self.invariant
    (c.fill_all.auto.stored ∙ c.as_mut_slice.ensures.len) c.as_mut_slice.ensures.value c.fill_all.ensures).store

pub returns-clause-lines : goal.returns-clause-lines
returns-clause-lines c = (filled_makes blank refl c.self.view_is c.self.invariant
    (c.fill_all.auto.stored ∙ c.as_mut_slice.ensures.len) c.as_mut_slice.ensures.value c.fill_all.ensures).lines
    ∙ filled_whole blank c.args.self.now.lines refl (view_grid c.self.view_is c.self.invariant)

pub returns-clause-places : goal.returns-clause-places
returns-clause-places c = places_stay c.self.view_is
