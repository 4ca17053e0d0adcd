use Rattle.std.proofs.Common.{ap, subst, sym}
use Rattle.std.specs.Prelude.{◌↔◌, IfOk, IsTrue}
use Rattle.session.specs.Trace.{EventValue, happening}
use Rattle.server_steps.specs.Submitted.{IsQuit}
use Rattle.server_steps.proofs.meaning.quits.Goals as goal

pub returns-in-Command : goal.returns-in-Command
returns-in-Command c =
    subst (λ (v : EventValue). IfOk c.is_quit.result (λ quits. IsTrue quits ↔ IsQuit v))
    (sym (ap happening c.in-Command.is)) c.is_quit.ensures
