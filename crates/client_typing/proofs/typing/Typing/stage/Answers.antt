use Rattle.std.proofs.Common.{ap, sym, ◌∙◌}
use Rattle.client_typing.specs.Following.{stage_of}
use Rattle.client_typing.proofs.Typed.{stage-is}
use Rattle.client_typing.proofs.typing.Typing.stage.Goals as goal

pub returns-in-Some : goal.returns-in-Some
returns-in-Some c = stage-is c.in-Some.leave c.stage.result c.stage.ensures ∙ ap stage_of (sym c.in-Some.is)
