use Rattle.std.proofs.Common.{◌≡◌, ℕ, ◌<◌, true}
use Rattle.std.specs.List.{list_all}
use Rattle.cells.specs.Page.{line_at}
use Rattle.web_page.specs.Vacant.{is_blank}
use Rattle.web_page.proofs.sheet.is_vacant.Given as goal

abbrev pub invariant-loop-number : goal.invariant-loop-number
invariant-loop-number l =
    (n : ℕ) → n < l.number → list_all is_blank (line_at l.emulator.screen.page n) ≡ true
