use Rattle.std.proofs.Common.{arith}
use Rattle.std.specs.String.{string_bytes}
use Rattle.web_page.proofs.Writing.{row_more, rows_end}
use Rattle.web_page.proofs.row.put_rows.Goals as goal

pub loop-number-preserved : goal.loop-number-preserved
loop-number-preserved c =
    row_more c.args.since c.loop-number.number c.args.rows.now c.index-rows-number.result
    (string_bytes c.loop-number.out) (string_bytes c.put_newer.new.out) _ (omega arith) c.index-rows-number.is
    c.loop-number.invariant c.in_ok-put_newer.ensures

pub returns : goal.returns
returns c =
    rows_end c.args.since c.loop-number.number c.args.rows.now (string_bytes c.loop-number.out) _ (omega arith)
    c.loop-number.invariant
