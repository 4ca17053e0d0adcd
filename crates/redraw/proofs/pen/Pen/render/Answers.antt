use Rattle.redraw.proofs.Vocabulary.{Some, refl, spelling, Render, func_of, Drawing, Keeps}
use Rattle.redraw.proofs.Screens.{render_leads}
use Rattle.redraw.proofs.Takings.{takes_nothing, takes_bytes}
use Rattle.redraw.proofs.pen.Pen.render.Goals as goal

pub returns-then-has-clause-takes : goal.returns-then-has-clause-takes
returns-then-has-clause-takes c old new rows columns =
    takes_nothing old new (Drawing rows columns c.args.self.now) (Keeps rows columns c.args.self.now)
    c.args.out.now.items c.args.out.now.items refl
    (λ x d. record { drawing = d; cells = λ l k. refl; modes = refl })

pub returns-clause-takes : goal.returns-clause-takes
returns-clause-takes c old new rows columns =
    takes_bytes old new (Drawing rows columns c.args.self.now)
    (Keeps rows columns
    (record { line = c.args.self.now.line; column = c.args.self.now.column; rendition = Some c.args.rendition }))
    c.args.out.now.items c.put.new.out.items (spelling (func_of (Render c.args.self.now.rendition c.args.rendition)))
    c.in_ok-put.ensures
    (λ x d. render_leads rows columns old new c.args.self.now x d c.args.rendition)
