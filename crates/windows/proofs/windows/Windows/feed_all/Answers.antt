use Rattle.windows.proofs.Vocabulary.{subst, AreRows, Output, Window, written}
use Rattle.windows.proofs.Rows.{row_writes, rows_written}
use Rattle.windows.proofs.Answering.{lent, not_lent, put_back, row_became, row_stays, missing_if_room, fed_becomes}
use Rattle.windows.proofs.Answering.{fed_answers, both_stay}
use Rattle.windows.proofs.windows.Windows.feed_all.Goals as goal

pub returns-in_default-clause-answer : goal.returns-in_default-clause-answer
returns-in_default-clause-answer c =
    missing_if_room (Unit {0}) c.args.self.now c.args.self.now c.args.serial (written (Output c.args.bytes.now)) (
    not_lent c.get_mut.result c.self.inside.rows c.args.self.now c.args.serial c.in_default.is c.get_mut.ensures.value
    c.self.view_is)

pub returns-clause-answer : goal.returns-clause-answer
returns-clause-answer c =
    let made : Window = c.feed_all.new.self in
    let at = lent c.get_mut.result c.in-Some.window c.self.inside.rows c.args.self.now c.args.serial c.in-Some.is
    c.get_mut.ensures.value c.self.view_is in
    let put = put_back c.get_mut.result c.in-Some.window c.self.inside.rows c.args.self.now
    (c.get_mut.follows.lender made) c.args.serial made c.in-Some.is (c.get_mut.follows.holds made) c.self.view_is in
    row_became c.args.self.now (c.get_mut.follows.lender made) c.args.serial (written (Output c.args.bytes.now))
    c.in-Some.window.now made at c.feed_all.result put
    (fed_becomes c.feed_all.result c.in-Some.window.now made c.args.bytes.now c.args.out.now.items
    c.feed_all.new.out.items c.feed_all.ensures.ok c.feed_all.ensures.err)

pub returns-clause-reports : goal.returns-clause-reports
returns-clause-reports c =
    let made : Window = c.feed_all.new.self in
    let at = lent c.get_mut.result c.in-Some.window c.self.inside.rows c.args.self.now c.args.serial c.in-Some.is
    c.get_mut.ensures.value c.self.view_is in
    fed_answers c.feed_all.result c.args.self.now c.args.serial c.in-Some.window.now made c.args.bytes.now
    c.args.out.now.items c.feed_all.new.out.items at c.feed_all.ensures.ok

pub returns-clause-err : goal.returns-clause-err
returns-clause-err c =
    let made : Window = c.feed_all.new.self in
    let at = lent c.get_mut.result c.in-Some.window c.self.inside.rows c.args.self.now c.args.serial c.in-Some.is
    c.get_mut.ensures.value c.self.view_is in
    let put = put_back c.get_mut.result c.in-Some.window c.self.inside.rows c.args.self.now
    (c.get_mut.follows.lender made) c.args.serial made c.in-Some.is (c.get_mut.follows.holds made) c.self.view_is in
    both_stay _ _ _ c.feed_all.result
    (row_stays c.args.self.now (c.get_mut.follows.lender made) c.args.serial (written (Output c.args.bytes.now))
    c.in-Some.window.now made at c.feed_all.result put c.feed_all.ensures.window)
    c.feed_all.ensures.reports

pub returns-clause-alone : goal.returns-clause-alone
returns-clause-alone c =
    let made : Window = c.feed_all.new.self in
    let at = lent c.get_mut.result c.in-Some.window c.self.inside.rows c.args.self.now c.args.serial c.in-Some.is
    c.get_mut.ensures.value c.self.view_is in
    let put = put_back c.get_mut.result c.in-Some.window c.self.inside.rows c.args.self.now
    (c.get_mut.follows.lender made) c.args.serial made c.in-Some.is (c.get_mut.follows.holds made) c.self.view_is in
    row_writes c.args.self.now (c.get_mut.follows.lender made) c.args.serial c.in-Some.window.now made at put
    c.feed_all.ensures.name

pub invariant_of-self-2 : goal.invariant_of-self-2
invariant_of-self-2 c =
    let made : Window = c.feed_all.new.self in
    let at = lent c.get_mut.result c.in-Some.window c.self.inside.rows c.args.self.now c.args.serial c.in-Some.is
    c.get_mut.ensures.value c.self.view_is in
    let put = put_back c.get_mut.result c.in-Some.window c.self.inside.rows c.args.self.now
    (c.get_mut.follows.lender made) c.args.serial made c.in-Some.is (c.get_mut.follows.holds made) c.self.view_is in
    rows_written c.args.self.now (c.get_mut.follows.lender made) c.args.serial
    (row_writes c.args.self.now (c.get_mut.follows.lender made) c.args.serial c.in-Some.window.now made at put
    c.feed_all.ensures.name)
    (subst AreRows c.self.view_is c.self.invariant)
