use Rattle.redraw.proofs.Vocabulary.{◌≡◌, ℕ, Some, None, false, true, length, replicate, sym, ap, ◌∙◌, subst, plain}
use Rattle.redraw.proofs.Vocabulary.{blank, line_at, blank_page, View, HaveHalves, Takes, Stage, Final}
use Rattle.redraw.proofs.Ends.{ended, blank_halves}
use Rattle.redraw.proofs.frames.first_bytes.Goals as goal

pub returns : goal.returns
returns c nd =
    let v = c.args.view.now in
    let rows : ℕ = length v.page in
    let columns : ℕ = length (line_at v.page 0) in
    let z : View = c.in-Ok.blank in
    let cleared : View = record {
      page = blank_page rows columns;
      cursor = None;
      has_application_arrows = false;
      has_application_keypad = false;
    } in
    let is : z ≡ cleared = c.in-Ok.ensures.ok
    ∙ ap (λ (n : ℕ). record cleared { page = replicate n (replicate c.columns.result blank) }) c.rows.ensures.value
    ∙ ap (λ (n : ℕ). record cleared { page = replicate rows (replicate n blank) }) c.columns.ensures.value in
    let painted = c.in_ok-paint.ensures (subst (λ (k : View). HaveHalves k.page) (sym is) (blank_halves rows columns))
    nd in
    let painted' = subst
    (λ (k : View). Takes k.page v.page
    (Stage rows columns (record { line = Some 0; column = Some 0; rendition = Some plain }) k.page
    k.has_application_arrows k.has_application_keypad true)
    (λ x y. Final rows columns c.paint.new.pen v.page v.has_application_arrows v.has_application_keypad v.cursor y)
    c.extend_from_slice.new.self.items c.paint.new.out.items) is painted in
    record {
      middle = c.extend_from_slice.new.self.items;
      resets = c.in_ok-extend_from_slice.ensures.items;
      paints = ended (blank_page rows columns) v.page rows columns c.paint.new.pen v
          (Stage rows columns (record { line = Some 0; column = Some 0; rendition = Some plain })
          (blank_page rows columns) false false true)
          c.extend_from_slice.new.self.items c.paint.new.out.items painted';
    }
