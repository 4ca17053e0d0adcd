use Rattle.redraw.proofs.Vocabulary.{◌≡◌, ◌<◌, ◌≤◌, List, [], length, sym, ap, ◌∙◌, arith, ⊎_elim, cases_lt}
use Rattle.redraw.proofs.Vocabulary.{get_or_past, Cell, cell_at, unprotected, KeyModes}
use Rattle.redraw.proofs.shadow.first_change.Goals as goal

pub returns-then-is_same_modes-clause-none : goal.returns-then-is_same_modes-clause-none
returns-then-is_same_modes-clause-none c =
    let all : length c.args.new.now.page ≤ c.first_unlike-line.result = omega
    (arith, c.if-is_same_page.true, c.rows.ensures.value) in
    let modes : c.modes.result ≡ c.modes-2.result = c.is_same_modes-is_same_modes.ensures.0 c.if-is_same_modes.true in
    record {
      cells = λ l column. ⊎_elim
          (λ (h : l < c.first_unlike-line.result). c.first_unlike-line.ensures.above l column h)
          (λ (h : c.first_unlike-line.result ≤ l). ap (λ (k : List Cell). unprotected (cell_at k column))
          (get_or_past c.args.old.now.page l [] (omega (arith, c.requires.rows_are))
          ∙ sym (get_or_past c.args.new.now.page l [] (omega arith))))
          (cases_lt l c.first_unlike-line.result);
      cursor = sym c.cursor.ensures.cursor ∙ c.is_same_cursor-is_same_cursor.ensures.0 c.if-is_same_cursor.true
          ∙ c.cursor-2.ensures.cursor;
      arrows = ap (λ (m : KeyModes). m.has_application_arrows) (sym c.modes.ensures ∙ modes ∙ c.modes-2.ensures);
      keypad = ap (λ (m : KeyModes). m.has_application_keypad) (sym c.modes.ensures ∙ modes ∙ c.modes-2.ensures);
    }
