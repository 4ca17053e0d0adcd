use Rattle.view.proofs.Vocabulary.{◌≡◌, ap, ◌∙◌, length, IfSome, line_at, IsGrid, IsInside, View, place_of, Part}
use Rattle.view.proofs.Vocabulary.{part_of, cursor_of}
use Rattle.view.specs.declared.view.KeyModes.{KeyModes}
use Rattle.view.proofs.Focusing.{line_fits, column_fits, cursor_inside, same_view}
use Rattle.view.proofs.view.View.focus.Goals as goal

pub returns-clause-focused : goal.returns-clause-focused
returns-clause-focused c = λ placed.
    let page = c.args.self.now.page in
    let part : Part = part_of c.args.pane.now in
    let page_is : c.self.inside.grid ≡ page = ap (λ (v : View). v.page) c.self.view_is in
    let grid : IsGrid page = rw (← page_is) c.self.invariant.grid in
    let at : place_of c.cursor_of.result ≡ cursor_of c.args.rect part = c.cursor_of.ensures
    (line_fits c.args.rect page placed grid) (column_fits c.args.rect page placed grid) in
    let inside : IfSome (place_of c.cursor_of.result)
    (λ p. IsInside (length c.self.inside.grid) (length (line_at c.self.inside.grid 0)) p.line p.column) = rw
    (at, page_is) (cursor_inside c.args.rect page placed part) in
    let modes = c.modes_of-self-inside.ensures in
    c.set_cursor.ensures.value inside
    ∙ same_view _ _ _ _ _ _ _ _ page_is at (ap (λ (m : KeyModes). m.has_application_arrows) modes)
    (ap (λ (m : KeyModes). m.has_application_keypad) modes)
