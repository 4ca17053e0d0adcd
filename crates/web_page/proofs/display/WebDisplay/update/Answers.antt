use Rattle.std.proofs.Common.{OnOk, subst}
use Rattle.web_page.specs.Showing.{Looks}
use Rattle.web_page.specs.Hearing.{WebDisplay}
use Rattle.web_page.proofs.display.WebDisplay.update.Goals as goal

pub returns-clause-looks : goal.returns-clause-looks
returns-clause-looks c =
    subst (λ (d : WebDisplay). OnOk c.update.result (Looks d.sheet c.update.new.self)) c.self.view_is
    c.update.ensures.looks
