use Rattle.std.proofs.Common.{sym}
use Rattle.keys.specs.Kept.{rest_of}
use Rattle.client_typing.proofs.Typed.{awaits-other, awaits-second}
use Rattle.client_typing.proofs.typing.Typing.begins.Goals as goal

pub returns-then-key-ne1 : goal.returns-then-key-ne1
returns-then-key-ne1 c = sym (awaits-other (rest_of c.args.self.now.keys) c.args.key c.if-key-ne1.true)

pub returns : goal.returns
returns c =
    awaits-second (rest_of c.args.self.now.keys) c.args.key c.is_at_rest.result c.if-key-ne1.false c.is_at_rest.ensures
