use Rattle.std.proofs.Common.{ap}
use Rattle.server_typing.specs.Typed.{Typed}
use Rattle.server_inbox.proofs.inbox.Inbox.gather.Goals as goal

pub returns : goal.returns
returns c = (
  c.gather_some-far.new.self,
  c.gather_some-far.ensures,
  ap (λ (t : Typed). record c.gather_some-far.new.self { typed = t }) c.expire.ensures.expired,
)
