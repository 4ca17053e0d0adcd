use Rattle.windows.proofs.Vocabulary.{◌≡◌, ◌∙◌, sym, ap, subst, List, Some, None, filter, not, ◌==◌, option_copied}
use Rattle.windows.proofs.Vocabulary.{row_of, Window, AreRows}
use Rattle.windows.proofs.Rows.{rows_kept, row_lost, none_lost}
use Rattle.windows.proofs.Answering.{own, one_closed, none_closed}
use Rattle.windows.proofs.windows.Windows.close.Goals as goal

pub returns-in_default-clause-answer : goal.returns-in_default-clause-answer
returns-in_default-clause-answer c =
    let none : row_of own c.args.self.now c.args.serial ≡ None =
    ap (λ (ws : List Window). row_of own ws c.args.serial) (sym c.self.view_is) ∙ sym c.get.ensures
    ∙ ap option_copied c.in_default.is in
    none_closed (Unit {0}) c.args.self.now c.args.self.now c.args.serial none

pub returns-in_default-clause-alone : goal.returns-in_default-clause-alone
returns-in_default-clause-alone c =
    none_lost c.args.self.now c.args.serial
    (ap (λ (ws : List Window). row_of own ws c.args.serial) (sym c.self.view_is) ∙ sym c.get.ensures
    ∙ ap option_copied c.in_default.is)

pub returns-clause-alone : goal.returns-clause-alone
returns-clause-alone c =
    row_lost c.args.self.now c.remove.new.self c.args.serial
    (c.remove.ensures
    ∙ ap (λ (ws : List Window). filter (λ (v : Window). not (own v == c.args.serial)) ws) c.self.view_is)

pub returns-clause-answer : goal.returns-clause-answer
returns-clause-answer c =
    let at : row_of own c.args.self.now c.args.serial ≡ Some c.in-Some._window.now =
    ap (λ (ws : List Window). row_of own ws c.args.serial) (sym c.self.view_is) ∙ sym c.get.ensures
    ∙ ap option_copied c.in-Some.is in
    one_closed (tt {0}) c.args.self.now c.remove.new.self c.args.serial _ at
    (c.remove.ensures
    ∙ ap (λ (ws : List Window). filter (λ (v : Window). not (own v == c.args.serial)) ws) c.self.view_is)

pub invariant_of-self : goal.invariant_of-self
invariant_of-self c = subst AreRows (sym c.remove.ensures)
    (rows_kept (λ (v : Window). not (own v == c.args.serial)) c.self.inside.rows c.self.invariant)
