use Rattle.std.proofs.Common.{arith, sym, ap, ◌∙◌, [], ◌<◌, ◌≡◌, length}
use Rattle.std.proofs.lemmas.List.{get_or_default}
use Rattle.web_page.specs.Showing.{Kept, kept_at}
use Rattle.web_page.proofs.Looking.{stays}
use Rattle.web_page.proofs.row.look_at.Goals as goal

pub returns-then-has-clause-ok : goal.returns-then-has-clause-ok
returns-then-has-clause-ok c =
    let inside : c.args.number < length c.args.rows.now.items = grind arith in
    let here : kept_at c.args.rows.now.items c.args.number ≡ c.index.result.now =
    sym (c.index.ensures ∙ get_or_default c.args.rows.now.items c.args.number c.index.result.now
    (record { cells = []; stamp = 0 }) inside) in
    stays c.args.rows.now.items c.args.cells.now c.args.stamp c.args.number inside
    (ap (λ (r : Kept). r.cells) here ∙ c.has.ensures.0 c.if-has.true)
