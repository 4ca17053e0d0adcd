use Rattle.std.proofs.Common.{◌-◌, List, length, subst}
use Rattle.cells.specs.declared.cell.Cell.{Cell}
use Rattle.cells.specs.Texts.{PutsText}
use Rattle.vt_screen_page.proofs.Stored.{spliced_line, stored_line, places_stay}
use Rattle.vt_screen_page.proofs.page.Page.put_text.Goals as goal

pub invariant_of-self : goal.invariant_of-self
invariant_of-self c = (spliced_line _ _ _ c.put_text.ensures.cells c.self.view_is c.self.invariant
    c.requires.line_inside c.index-place.ensures c.index_mut.ensures.value).store

pub returns-clause-put : goal.returns-clause-put
returns-clause-put c = subst
    (λ (line : List Cell). PutsText c.args.bytes.now c.args.rendition c.args.is_protected
    (length line - c.args.at.column) c.put_text.result)
    (stored_line c.self.view_is c.self.invariant c.requires.line_inside c.index-place.ensures
    c.index_mut.ensures.value) c.put_text.ensures.put

pub returns-clause-lines : goal.returns-clause-lines
returns-clause-lines c = (spliced_line _ _ _ c.put_text.ensures.cells c.self.view_is c.self.invariant
    c.requires.line_inside c.index-place.ensures c.index_mut.ensures.value).lines

pub returns-clause-places : goal.returns-clause-places
returns-clause-places c = places_stay c.self.view_is
