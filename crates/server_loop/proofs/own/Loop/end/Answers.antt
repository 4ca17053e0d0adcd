use Rattle.std.proofs.Common.{◌∙◌, ap}
use Rattle.std.specs.Option.{option_or}
use Rattle.server_loop.proofs.own.Loop.end.Goals as goal

pub returns : goal.returns
returns g c = (
  c.has_stopped.result,
  c.has_stopped.ensures,
  c.or.ensures ∙ ap (λ o. option_or c.args.self.now.end o) c.full_if.ensures,
)
