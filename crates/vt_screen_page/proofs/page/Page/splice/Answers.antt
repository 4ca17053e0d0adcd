use Rattle.vt_screen_page.proofs.Stored.{spliced_line, places_stay}
use Rattle.vt_screen_page.proofs.page.Page.splice.Goals as goal

pub invariant_of-self : goal.invariant_of-self
invariant_of-self c = (spliced_line _ _ _ c.splice.ensures c.self.view_is c.self.invariant c.requires.line_inside
    c.index-place.ensures c.index_mut.ensures.value).store

pub returns-clause-lines : goal.returns-clause-lines
returns-clause-lines c = (spliced_line _ _ _ c.splice.ensures c.self.view_is c.self.invariant c.requires.line_inside
    c.index-place.ensures c.index_mut.ensures.value).lines

pub returns-clause-places : goal.returns-clause-places
returns-clause-places c = places_stay c.self.view_is
