use Rattle.std.proofs.Common.{◌≡◌, ◌++◌, drop}
use Rattle.std.specs.List.{flat_map}
use Rattle.std.specs.String.{string_bytes}
use Rattle.web_page.specs.Updates.{spelled_row}
use Rattle.web_page.specs.Showing.{newer}
use Rattle.web_page.proofs.row.put_rows.Given as goal

abbrev pub invariant-loop-number : goal.invariant-loop-number
invariant-loop-number l = string_bytes l.out ++ flat_map spelled_row (newer l.since l.number (drop l.number l.rows))
    ≡ string_bytes l.fn.out ++ flat_map spelled_row (newer l.since 0 l.rows)
