use Rattle.redraw.proofs.Vocabulary.{refl, subst, spelling, func_of, Drawing, Keeps, IsWay}
use Rattle.redraw.proofs.Screens.{way_leads, at_place}
use Rattle.redraw.proofs.Takings.{takes_nothing, takes_bytes}
use Rattle.redraw.proofs.pen.Pen.move_to.Goals as goal

pub returns-in_default-clause-takes : goal.returns-in_default-clause-takes
returns-in_default-clause-takes c old new rows columns lh rh ch cl =
    takes_nothing old new (Drawing rows columns c.args.self.now) (Keeps rows columns c.args.self.now)
    c.args.out.now.items c.args.out.now.items refl
    (λ x d. record { drawing = d; cells = λ l k. refl; modes = refl })

pub returns-clause-takes : goal.returns-clause-takes
returns-clause-takes c old new rows columns lh rh ch cl =
    let is = subst (IsWay c.args.self.now c.args.line c.args.column) c.in-Some.is c.way_to.ensures in
    takes_bytes old new (Drawing rows columns c.args.self.now)
    (Keeps rows columns (at_place c.args.line c.args.column c.args.self.now.rendition))
    c.args.out.now.items c.put.new.out.items (spelling (func_of c.in-Some.way)) c.in_ok-put.ensures
    (λ x d. way_leads rows columns old new c.args.self.now x d c.args.line c.args.column c.in-Some.way lh rh ch cl is)
