use Rattle.session_core.proofs.Vocabulary.{refl, ap, happening, Keys, Command, Output}
use Rattle.session_model.specs.Trace.{Attach, Detach, Resize, Open, Closed}
use Rattle.session_core.proofs.Entries.{taken}
use Rattle.session_core.proofs.coming.take.Goals as goal

pub returns-in-Attach-clause-step : goal.returns-in-Attach-clause-step
returns-in-Attach-clause-step c =
    taken (happening c.args.event)
    (Attach c.in-Attach.user c.in-Attach.rows c.in-Attach.columns)
    c.args.state.now c.attach_client.new.state c.args.sharing.now c.attach_client.result c.args.step.now
    c.attach_client.new.step (ap happening c.in-Attach.is) refl c.attach_client.ensures.step

pub returns-in-Detach-clause-step : goal.returns-in-Detach-clause-step
returns-in-Detach-clause-step c =
    taken (happening c.args.event)
    (Detach c.in-Detach.client)
    c.args.state.now c.let_go.new.state c.args.sharing.now c.let_go.result c.args.step.now
    c.let_go.new.step (ap happening c.in-Detach.is) refl c.let_go.ensures.step

pub returns-in-Keys-clause-step : goal.returns-in-Keys-clause-step
returns-in-Keys-clause-step c =
    taken (happening c.args.event)
    (Keys c.in-Keys.client c.in-Keys.bytes.now)
    c.args.state.now c.give_keys.new.state c.args.sharing.now c.give_keys.result c.args.step.now
    c.give_keys.new.step (ap happening c.in-Keys.is) refl c.give_keys.ensures.step

pub returns-in-Command-clause-step : goal.returns-in-Command-clause-step
returns-in-Command-clause-step c =
    taken (happening c.args.event)
    (Command c.in-Command.user c.in-Command.window c.in-Command.line.now)
    c.args.state.now c.give_line.new.state c.args.sharing.now c.give_line.result c.args.step.now
    c.give_line.new.step (ap happening c.in-Command.is) refl c.give_line.ensures.step

pub returns-in-Resize-clause-step : goal.returns-in-Resize-clause-step
returns-in-Resize-clause-step c =
    taken (happening c.args.event)
    (Resize c.in-Resize.client c.in-Resize.rows c.in-Resize.columns)
    c.args.state.now c.resize_client.new.state c.args.sharing.now c.resize_client.result c.args.step.now
    c.resize_client.new.step (ap happening c.in-Resize.is) refl c.resize_client.ensures.step

pub returns-in-Open-clause-step : goal.returns-in-Open-clause-step
returns-in-Open-clause-step c =
    taken (happening c.args.event)
    (Open c.in-Open.user c.in-Open.rows c.in-Open.columns c.in-Open.keep c.in-Open.title.now)
    c.args.state.now c.open_window.new.state c.args.sharing.now c.open_window.result c.args.step.now
    c.open_window.new.step (ap happening c.in-Open.is) refl c.open_window.ensures.step

pub returns-in-Output-clause-step : goal.returns-in-Output-clause-step
returns-in-Output-clause-step c =
    taken (happening c.args.event)
    (Output c.in-Output.window c.in-Output.bytes.now)
    c.args.state.now c.write.new.state c.args.sharing.now c.write.result c.args.step.now
    c.write.new.step (ap happening c.in-Output.is) refl c.write.ensures.step

pub returns-in-Closed-clause-step : goal.returns-in-Closed-clause-step
returns-in-Closed-clause-step c =
    taken (happening c.args.event)
    (Closed c.in-Closed.window)
    c.args.state.now c.end_window.new.state c.args.sharing.now c.end_window.result c.args.step.now
    c.end_window.new.step (ap happening c.in-Closed.is) refl c.end_window.ensures.step
