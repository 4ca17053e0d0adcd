use Rattle.redraw.proofs.Vocabulary.{◌≡◌, true, Option, Some, None, sym, subst, ap, IfSome, Position, IsInside}
use Rattle.redraw.proofs.Vocabulary.{place_of, Pen, Takes, Stage, Final}
use Rattle.redraw.proofs.Stages.{hidden_takes, placed_takes, shown_takes}
use Rattle.redraw.proofs.painting.draw_cursor.Goals as goal

pub returns-in_ok-change-in-Hidden : goal.returns-in_ok-change-in-Hidden
returns-in_ok-change-in-Hidden c before after page rows columns arrows keypad rh cl inside =
    let pen : Pen = c.args.pen.now in
    let is : place_of c.args.new ≡ None = ap place_of c.in-Hidden.is in
    subst
    (λ (k : Option Position). Takes before after (Stage rows columns pen page arrows keypad c.args.was_shown)
    (λ x y. Final rows columns pen page arrows keypad k y) c.args.out.now.items c.change.new.out.items) (sym is)
    (hidden_takes before after page rows columns pen arrows keypad c.args.was_shown c.args.out.now.items
    c.change.new.out.items c.in_ok-change-in-Hidden.ensures)

pub returns-in_ok-change-in-At : goal.returns-in_ok-change-in-At
returns-in_ok-change-in-At c before after page rows columns arrows keypad rh cl inside =
    let pen : Pen = c.args.pen.now in
    let next : Pen = c.move_to.new.self in
    let place : Position = record { line = c.in-At.line; column = c.in-At.column } in
    let is : place_of c.args.new ≡ Some place = ap place_of c.in-At.is in
    let within : IsInside rows columns c.in-At.line c.in-At.column = subst
    (λ (k : Option Position). IfSome k (λ p. IsInside rows columns p.line p.column)) is inside in
    subst
    (λ (k : Option Position). Takes before after (Stage rows columns pen page arrows keypad c.args.was_shown)
    (λ x y. Final rows columns next page arrows keypad k y) c.args.out.now.items c.change-in-At.new.out.items)
    (sym is)
    (placed_takes before after page rows columns pen next c.in-At.line c.in-At.column arrows keypad c.args.was_shown
    c.args.out.now.items c.move_to.new.out.items c.change-in-At.new.out.items
    c.in_ok-move_to-in-At.ensures.place
    (c.in_ok-move_to-in-At.ensures.takes before after rows columns within.0 rh within.1 cl)
    (shown_takes before after page rows columns next arrows keypad c.args.was_shown true c.move_to.new.out.items
    c.change-in-At.new.out.items c.in_ok-change-in-At.ensures))
