use Rattle.session_model.specs.Trace.{begun}
use Rattle.session_core.proofs.session.Session.after.Goals as goal

pub returns-clause-promise : goal.returns-clause-promise
returns-clause-promise c =
    c.run-ran.ensures.promise (begun c.args.start.edition c.args.start.owner) c.in_ok-session.ensures.ok
