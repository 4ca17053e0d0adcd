use Rattle.cells.specs.Line.{unprotected_erased}
use Rattle.vt_screen_page.proofs.Stored.{edited_line, places_stay}
use Rattle.vt_screen_page.proofs.page.Page.erase_unprotected.Goals as goal

pub invariant_of-self : goal.invariant_of-self
invariant_of-self c = (edited_line (λ line. unprotected_erased line c.args.from c.args.end) c.erase_unprotected.ensures
    c.self.view_is c.self.invariant c.requires.line_inside c.index-place.ensures c.index_mut.ensures.value).store

pub returns-clause-lines : goal.returns-clause-lines
returns-clause-lines c = (edited_line (λ line. unprotected_erased line c.args.from c.args.end)
    c.erase_unprotected.ensures c.self.view_is c.self.invariant c.requires.line_inside
    c.index-place.ensures c.index_mut.ensures.value).lines

pub returns-clause-places : goal.returns-clause-places
returns-clause-places c = places_stay c.self.view_is
