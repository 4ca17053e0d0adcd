use Rattle.redraw.proofs.Vocabulary.{◌≡◌, ℕ, Bool, length, ap, ◌∙◌, subst, is_some, line_at, Pen, Takes, Stage, pen_of}
use Rattle.redraw.proofs.Vocabulary.{EndsAs, Begins}
use Rattle.redraw.proofs.Takings.{takes_given}
use Rattle.redraw.proofs.Ends.{ended}
use Rattle.redraw.proofs.frames.next_bytes.Goals as goal

pub returns : goal.returns
returns c od nd =
    let old = c.args.old.now in
    let v = c.args.view.now in
    let rows : ℕ = length v.page in
    let columns : ℕ = length (line_at v.page 0) in
    let drawn = ended old.page v.page rows columns c.paint.new.pen v
    (Stage rows columns c.pen_at-pen.result old.page old.has_application_arrows old.has_application_keypad
    c.is_shown.result) c.args.out.now.items c.paint.new.out.items
    (c.in_ok-paint.ensures od nd) in
    let pen : c.pen_at-pen.result ≡ pen_of old.cursor = c.pen_at-pen.ensures
    ∙ ap pen_of c.cursor-cursor.ensures.cursor in
    let shown : c.is_shown.result ≡ is_some old.cursor = c.is_shown.ensures
    ∙ ap is_some c.cursor-cursor.ensures.cursor in
    let stage = subst
    (λ (p : Pen). Takes old.page v.page
    (Stage rows columns p old.page old.has_application_arrows old.has_application_keypad (is_some old.cursor))
    (λ x y. EndsAs rows columns v y) c.args.out.now.items c.paint.new.out.items) pen
    (subst
    (λ (b : Bool). Takes old.page v.page
    (Stage rows columns c.pen_at-pen.result old.page old.has_application_arrows old.has_application_keypad b)
    (λ x y. EndsAs rows columns v y) c.args.out.now.items c.paint.new.out.items) shown drawn) in
    takes_given old.page v.page
    (Stage rows columns (pen_of old.cursor) old.page old.has_application_arrows old.has_application_keypad
    (is_some old.cursor)) (Begins rows columns old) (λ x y. EndsAs rows columns v y) c.args.out.now.items
    c.paint.new.out.items (λ x f. f.stage) stage
