-- The causes that a peer is told.
use Rattle.attach_proto.specs.declared.why.Why.{Why}
use Rattle.attach_proto.specs.declared.why.Why.TheVariants as why
use Rattle.session.specs.event.Reason.{Reason}
use Rattle.session.specs.event.Reason.TheVariants as reason

-- the cause by the session's reason
abbrev pub told_of : Reason → Why
told_of reason.Detached = why.Detached
told_of reason.Removed = why.Removed
told_of reason.SingleUser = why.SingleUser
told_of reason.Killed = why.Killed
told_of reason.Quit = why.Quit
