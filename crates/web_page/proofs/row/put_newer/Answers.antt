use Rattle.std.proofs.Common.{arith}
use Rattle.std.specs.String.{string_bytes}
use Rattle.web_page.proofs.Writing.{row_told, row_left}
use Rattle.web_page.proofs.row.put_newer.Goals as goal

pub returns-then-row-since : goal.returns-then-row-since
returns-then-row-since c =
    row_left c.args.since c.args.number c.args.row.now (string_bytes c.args.out.now) (grind arith)

pub returns : goal.returns
returns c =
    row_told c.args.since c.args.number c.args.row.now (string_bytes c.args.out.now) (string_bytes c.put_row.new.out)
    (grind arith) c.in_ok-put_row.ensures
