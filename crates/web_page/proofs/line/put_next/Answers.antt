use Rattle.std.proofs.Common.{sym, ◌∙◌}
use Rattle.std.specs.String.{string_bytes}
use Rattle.web_page.proofs.Writing.{same_run_at, new_run_at}
use Rattle.web_page.proofs.line.put_next.Goals as goal

pub returns-then-goes_on : goal.returns-then-goes_on
returns-then-goes_on c = λ rs.
    let yes = c.goes_on.ensures.yes c.if-goes_on.true in
    same_run_at c.style_of-style.result (string_bytes c.args.out.now) (string_bytes c.put_cell.new.out) c.args.last
    c.args.cell.now rs c.style_of-style.ensures (sym c.is_right.ensures ∙ c.if-is_right.false) yes.0 yes.1
    c.in_ok-put_cell.ensures

pub returns : goal.returns
returns c = λ rs.
    new_run_at c.style_of-style.result (string_bytes c.args.out.now) (string_bytes c.close_run.new.out)
    (string_bytes c.begin_run.new.out) (string_bytes c.put_cell-2.new.out) c.args.last c.args.cell.now rs
    c.style_of-style.ensures (sym c.is_right.ensures ∙ c.if-is_right.false)
    (c.goes_on.ensures.no c.if-goes_on.false) c.in_ok-close_run.ensures c.in_ok-begin_run.ensures
    c.in_ok-put_cell-2.ensures
