use Rattle.std.proofs.Common.{subst}
use Rattle.web_page.specs.Hearing.{WebDisplay, KeepsSent}
use Rattle.web_page.proofs.display.WebDisplay.hear.Goals as goal

pub returns-in-Some-clause-sent : goal.returns-in-Some-clause-sent
returns-in-Some-clause-sent c =
    subst (λ (d : WebDisplay). KeepsSent d.sheet c.draw-in-Some.new.self.sheet) c.self.view_is
    c.draw-in-Some.ensures.sent
