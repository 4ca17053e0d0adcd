use Rattle.web_page.specs.Showing.{HasLooked}
use Rattle.web_page.proofs.sheet.look_at_rows.Given as goal

abbrev pub invariant-loop-number : goal.invariant-loop-number
invariant-loop-number l =
    HasLooked l.number l.emulator.screen.page l.moment l.fn.rows.items l.rows.items l.is_new
