use Rattle.windows.proofs.Vocabulary.{◌≡◌, ◌∙◌, true, false, sym, ap, subst, refl, List, with_back, taken_by_other}
use Rattle.windows.proofs.Vocabulary.{Window, AreRows, ChangesRow}
use Rattle.windows.proofs.Rows.{row_changes, none_changes, rows_renumbered}
use Rattle.windows.proofs.Answering.{own, lent, not_lent, put_back, number_missing, number_taken, number_given}
use Rattle.windows.proofs.windows.Windows.renumber.Goals as goal

pub returns-in_default-clause-answer : goal.returns-in_default-clause-answer
returns-in_default-clause-answer c =
    number_missing (Unit {0}) c.args.self.now c.args.self.now c.args.serial c.args.number (
    not_lent c.get_mut.result c.self.inside.rows c.args.self.now c.args.serial c.in_default.is c.get_mut.ensures.value
    c.self.view_is)

pub returns-then-is_taken-clause-answer : goal.returns-then-is_taken-clause-answer
returns-then-is_taken-clause-answer c =
    let at = lent c.get_mut.result c.in-Some.window c.self.inside.rows c.args.self.now c.args.serial c.in-Some.is
    c.get_mut.ensures.value c.self.view_is in
    let taken : taken_by_other c.args.self.now c.args.serial c.args.number ≡ true =
    sym (c.is_taken-is_taken.ensures
    ∙ ap (λ (ws : List Window). taken_by_other ws c.args.serial c.args.number)
    (c.as_slice.ensures ∙ c.self.view_is)) ∙ c.if-is_taken.true in
    number_taken c.args.self.now c.args.self.now c.args.serial c.args.number c.in-Some.window.now at (Unit {0}) taken

pub returns-then-is_taken-clause-err : goal.returns-then-is_taken-clause-err
returns-then-is_taken-clause-err c =
    let made : Window = c.in-Some.window.now in
    let at = lent c.get_mut.result c.in-Some.window c.self.inside.rows c.args.self.now c.args.serial c.in-Some.is
    c.get_mut.ensures.value c.self.view_is in
    let put = put_back c.get_mut.result c.in-Some.window c.self.inside.rows c.args.self.now
    (c.get_mut.follows.lender made) c.args.serial made c.in-Some.is (c.get_mut.follows.holds made) c.self.view_is in
    put ∙ with_back own c.args.self.now c.args.serial made at

pub returns-clause-answer : goal.returns-clause-answer
returns-clause-answer c =
    let made : Window = record c.in-Some.window.now { number = c.args.number } in
    let at = lent c.get_mut.result c.in-Some.window c.self.inside.rows c.args.self.now c.args.serial c.in-Some.is
    c.get_mut.ensures.value c.self.view_is in
    let put = put_back c.get_mut.result c.in-Some.window c.self.inside.rows c.args.self.now
    (c.get_mut.follows.lender made) c.args.serial made c.in-Some.is (c.get_mut.follows.holds made) c.self.view_is in
    let free : taken_by_other c.args.self.now c.args.serial c.args.number ≡ false =
    sym (c.is_taken-is_taken.ensures
    ∙ ap (λ (ws : List Window). taken_by_other ws c.args.serial c.args.number)
    (c.as_slice.ensures ∙ c.self.view_is)) ∙ c.if-is_taken.false in
    number_given c.args.self.now (c.get_mut.follows.lender made) c.args.serial c.args.number c.in-Some.window.now at
    (tt {0}) free put

pub returns-then-is_taken-clause-alone : goal.returns-then-is_taken-clause-alone
returns-then-is_taken-clause-alone c = subst (ChangesRow c.args.serial c.args.self.now)
    (sym (returns-then-is_taken-clause-err c)) (none_changes c.args.serial c.args.self.now)

pub returns-clause-alone : goal.returns-clause-alone
returns-clause-alone c =
    let made : Window = record c.in-Some.window.now { number = c.args.number } in
    let at = lent c.get_mut.result c.in-Some.window c.self.inside.rows c.args.self.now c.args.serial c.in-Some.is
    c.get_mut.ensures.value c.self.view_is in
    let put = put_back c.get_mut.result c.in-Some.window c.self.inside.rows c.args.self.now
    (c.get_mut.follows.lender made) c.args.serial made c.in-Some.is (c.get_mut.follows.holds made) c.self.view_is in
    row_changes c.args.self.now (c.get_mut.follows.lender made) c.args.serial c.in-Some.window.now made at put refl

pub invariant_of-self-then-is_taken : goal.invariant_of-self-then-is_taken
invariant_of-self-then-is_taken c = subst AreRows (sym (returns-then-is_taken-clause-err c))
    (subst AreRows c.self.view_is c.self.invariant)

pub invariant_of-self-2 : goal.invariant_of-self-2
invariant_of-self-2 c =
    let made : Window = record c.in-Some.window.now { number = c.args.number } in
    let at = lent c.get_mut.result c.in-Some.window c.self.inside.rows c.args.self.now c.args.serial c.in-Some.is
    c.get_mut.ensures.value c.self.view_is in
    let put = put_back c.get_mut.result c.in-Some.window c.self.inside.rows c.args.self.now
    (c.get_mut.follows.lender made) c.args.serial made c.in-Some.is (c.get_mut.follows.holds made) c.self.view_is in
    let free : taken_by_other c.args.self.now c.args.serial c.args.number ≡ false =
    sym (c.is_taken-is_taken.ensures
    ∙ ap (λ (ws : List Window). taken_by_other ws c.args.serial c.args.number)
    (c.as_slice.ensures ∙ c.self.view_is)) ∙ c.if-is_taken.false in
    rows_renumbered c.args.self.now (c.get_mut.follows.lender made) c.args.serial c.args.number c.in-Some.window.now
    made at refl refl free put (subst AreRows c.self.view_is c.self.invariant)
