use Rattle.std.proofs.Common.{rules}
use Rattle.web_client.proofs.Rows.{ends}
use Rattle.web_client.proofs.wire.Wire.end.Goals as goal

pub returns-in_ok-explain-in-Some-clause-ends : goal.returns-in_ok-explain-in-Some-clause-ends
returns-in_ok-explain-in-Some-clause-ends c =
    ends c.tell_gone.result c.args.display.now.told.refusal c.args.display.now.told.gone c.in-Some.why c.args.self.now
    c.explain.new.self c.tell_gone.new.self (search rules) c.in_ok-explain-in-Some.ensures.explains
    c.tell_gone.ensures.tells
