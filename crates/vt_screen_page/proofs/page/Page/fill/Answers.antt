use Rattle.std.proofs.Common.{◌∙◌}
use Rattle.vt_screen_page.proofs.Stored.{places_stay}
use Rattle.vt_screen_page.proofs.Sizes.{filled_makes}
use Rattle.vt_screen_page.proofs.page.Page.fill.Goals as goal

pub invariant_of-self : goal.invariant_of-self
invariant_of-self c = (filled_makes c.args.cell c.requires.narrow c.self.view_is c.self.invariant
    (c.fill_all.auto.stored ∙ c.as_mut_slice.ensures.len) c.as_mut_slice.ensures.value c.fill_all.ensures).store

pub returns-clause-lines : goal.returns-clause-lines
returns-clause-lines c = (filled_makes c.args.cell c.requires.narrow c.self.view_is c.self.invariant
    (c.fill_all.auto.stored ∙ c.as_mut_slice.ensures.len) c.as_mut_slice.ensures.value c.fill_all.ensures).lines

pub returns-clause-places : goal.returns-clause-places
returns-clause-places c = places_stay c.self.view_is
