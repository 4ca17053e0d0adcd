use Rattle.std.proofs.Common.{ℕ, ◌<◌, List, length, get_or, ap, ◌∙◌}
use Rattle.std.proofs.lemmas.List.{get_or_default}
use Rattle.cells.specs.declared.cell.Cell.{Cell}
use Rattle.vt_screen_page.specs.Store.{Placed}
use Rattle.vt_screen_page.proofs.Stored.{inside_places}
use Rattle.vt_screen_page.proofs.page.Page.place.Goals as goal

pub returns-clause-alone : goal.returns-clause-alone
returns-clause-alone c other h same =
    let stored : List (List Cell) = c.self.inside.stored.items in
    let places : List ℕ = c.self.inside.places.items in
    let inside : c.args.line < length places = inside_places stored places c.self.view_is c.requires in
    c.self.invariant.places_apart.apart other c.args.line (inside_places stored places c.self.view_is h) inside
    (ap (λ (v : Placed). get_or v.places other 0) c.self.view_is ∙ same ∙ c.index.ensures
    ∙ get_or_default places c.args.line c.index.result.now 0 inside)
