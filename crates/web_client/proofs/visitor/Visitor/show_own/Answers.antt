use Rattle.std.proofs.Common.{ap}
use Rattle.web_page.specs.declared.display.WebDisplay.{WebDisplay}
use Rattle.web_client.proofs.Rows.{on_ok}
use Rattle.web_client.proofs.visitor.Visitor.show_own.Goals as goal

pub returns-in_ok-show-in-Own-clause-shows : goal.returns-in_ok-show-in-Own-clause-shows
returns-in_ok-show-in-Own-clause-shows c =
    λ is_open. rw c.in-Own.is (λ due. on_ok c.check_bound.result _ (c.in_ok-show-in-Own.ensures.due due))

pub returns-in_ok-show-in-Own-clause-later : goal.returns-in_ok-show-in-Own-clause-later
returns-in_ok-show-in-Own-clause-later c =
    rw c.in-Own.is (λ not_due.
    let kept = c.show.ensures.later not_due in
    (kept.0, ap (λ (d : WebDisplay). record c.in-Own.client { display = d }) kept.1))

pub returns-in_ok-show-in-Own-clause-keeps : goal.returns-in_ok-show-in-Own-clause-keeps
returns-in_ok-show-in-Own-clause-keeps c =
    rw c.in-Own.is (ap (λ (d : WebDisplay). record c.in-Own.client { display = d }) c.show.ensures.same)

pub returns-in_err-show-in-Own-clause-keeps : goal.returns-in_err-show-in-Own-clause-keeps
returns-in_err-show-in-Own-clause-keeps c =
    rw c.in-Own.is (ap (λ (d : WebDisplay). record c.in-Own.client { display = d }) c.show.ensures.same)
