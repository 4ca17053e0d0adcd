use Rattle.windows.proofs.Vocabulary.{subst, AreRows, Window, retitled}
use Rattle.windows.proofs.Rows.{row_writes, rows_written}
use Rattle.windows.proofs.Answering.{lent, not_lent, put_back, row_became, row_stays, missing_if_room}
use Rattle.windows.proofs.windows.Windows.retitle.Goals as goal

pub returns-in_default-clause-answer : goal.returns-in_default-clause-answer
returns-in_default-clause-answer c =
    missing_if_room (Unit {0}) c.args.self.now c.args.self.now c.args.serial (retitled c.args.title.now) (
    not_lent c.get_mut.result c.self.inside.rows c.args.self.now c.args.serial c.in_default.is c.get_mut.ensures.value
    c.self.view_is)

pub returns-clause-answer : goal.returns-clause-answer
returns-clause-answer c =
    let made : Window = c.retitle.new.self in
    let at = lent c.get_mut.result c.in-Some.window c.self.inside.rows c.args.self.now c.args.serial c.in-Some.is
    c.get_mut.ensures.value c.self.view_is in
    let put = put_back c.get_mut.result c.in-Some.window c.self.inside.rows c.args.self.now
    (c.get_mut.follows.lender made) c.args.serial made c.in-Some.is (c.get_mut.follows.holds made) c.self.view_is in
    row_became c.args.self.now (c.get_mut.follows.lender made) c.args.serial (retitled c.args.title.now)
    c.in-Some.window.now made at c.retitle.result put c.retitle.ensures.answer

pub returns-clause-err : goal.returns-clause-err
returns-clause-err c =
    let made : Window = c.retitle.new.self in
    let at = lent c.get_mut.result c.in-Some.window c.self.inside.rows c.args.self.now c.args.serial c.in-Some.is
    c.get_mut.ensures.value c.self.view_is in
    let put = put_back c.get_mut.result c.in-Some.window c.self.inside.rows c.args.self.now
    (c.get_mut.follows.lender made) c.args.serial made c.in-Some.is (c.get_mut.follows.holds made) c.self.view_is in
    row_stays c.args.self.now (c.get_mut.follows.lender made) c.args.serial (retitled c.args.title.now)
    c.in-Some.window.now made at c.retitle.result put c.retitle.ensures.err

pub returns-clause-alone : goal.returns-clause-alone
returns-clause-alone c =
    let made : Window = c.retitle.new.self in
    let at = lent c.get_mut.result c.in-Some.window c.self.inside.rows c.args.self.now c.args.serial c.in-Some.is
    c.get_mut.ensures.value c.self.view_is in
    let put = put_back c.get_mut.result c.in-Some.window c.self.inside.rows c.args.self.now
    (c.get_mut.follows.lender made) c.args.serial made c.in-Some.is (c.get_mut.follows.holds made) c.self.view_is in
    row_writes c.args.self.now (c.get_mut.follows.lender made) c.args.serial c.in-Some.window.now made at put
    c.retitle.ensures.name

pub invariant_of-self-2 : goal.invariant_of-self-2
invariant_of-self-2 c =
    let made : Window = c.retitle.new.self in
    let at = lent c.get_mut.result c.in-Some.window c.self.inside.rows c.args.self.now c.args.serial c.in-Some.is
    c.get_mut.ensures.value c.self.view_is in
    let put = put_back c.get_mut.result c.in-Some.window c.self.inside.rows c.args.self.now
    (c.get_mut.follows.lender made) c.args.serial made c.in-Some.is (c.get_mut.follows.holds made) c.self.view_is in
    rows_written c.args.self.now (c.get_mut.follows.lender made) c.args.serial
    (row_writes c.args.self.now (c.get_mut.follows.lender made) c.args.serial c.in-Some.window.now made at put
    c.retitle.ensures.name)
    (subst AreRows c.self.view_is c.self.invariant)
