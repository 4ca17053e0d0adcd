use Rattle.web_page.proofs.Blank.{same-blank}
use Rattle.web_page.proofs.blank_sheets_are_equal.Goals as goal

pub returns : goal.returns
returns c = same-blank
