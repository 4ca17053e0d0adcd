use Rattle.std.proofs.Common.{subst}
use Rattle.web_page.specs.Hearing.{WebDisplay, KeepsSent}
use Rattle.web_page.proofs.display.WebDisplay.draw.Goals as goal

pub returns-clause-sent : goal.returns-clause-sent
returns-clause-sent c =
    subst (λ (d : WebDisplay). KeepsSent d.sheet c.read.new.self) c.self.view_is
    (c.read.ensures.moment, c.read.ensures.browsers)
