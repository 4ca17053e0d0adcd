use Rattle.client_notice.specs.Notices.{IsHelp}
use Rattle.client_notice.proofs.notice.help_page.Given as goal

abbrev pub invariant-loop-row : goal.invariant-loop-row
invariant-loop-row l = IsHelp l.fn.columns l.row l.page.items
