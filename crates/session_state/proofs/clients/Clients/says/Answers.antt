use Rattle.std.proofs.Common.{◌∙◌}
use Rattle.session_state.proofs.Telling.{said_more, said_all}
use Rattle.session_state.proofs.clients.Clients.says.Goals as goal

pub returns : goal.returns
returns c = λ rows are.
    let items = c.as_slice-client-items.result.now in
    said_all c.args.text.now rows c.args.self.now items c.loop-client.made.items
    c.loop-client.client-index are (c.as_slice-client-items.ensures ∙ c.self.view_is)
    c.loop-client-test.false c.loop-client.invariant

pub loop-client-preserved : goal.loop-client-preserved
loop-client-preserved c =
    said_more c.args.text.now c.in_ok-of.field-0 c.as_slice-client-items.result.now
    c.loop-client.client-index c.client-item.result c.loop-client.made.items c.push.new.self.items
    c.loop-client-test.true c.client-item.is c.in_ok-of.ensures c.loop-client.invariant
    c.in_ok-push.ensures.items
