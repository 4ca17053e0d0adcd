use Rattle.session_state.proofs.Vocabulary.{◌<◌, length, get_or, arith, get_or_default, map_over_more, without_window}
use Rattle.session_state.proofs.Vocabulary.{without}
use Rattle.session_state.proofs.Changing.{all_over}
use Rattle.session_state.proofs.Keeping.{keeps_without}
use Rattle.session_state.proofs.clients.Clients.close_window.Goals as goal

pub loop-client-preserved : goal.loop-client-preserved
loop-client-preserved c =
    let items = c.loop-client.client-items in
    let i = c.loop-client.client-index in
    let here = get_or items i c.client-item.result in
    let inside : i < length items = omega arith in
    rw c.close_window.ensures
    (map_over_more (without c.args.serial) c.as_mut_slice-client-items.result.now items i here
    c.loop-client-test.true c.loop-client.invariant
    (get_or_default items i c.client-item.result here inside))

pub returns : goal.returns
returns c =
    all_over (without_window c.args.serial) (without c.args.serial) c.args.self.now
    c.self.inside.rows c.as_mut_slice-client-items.result.now c.loop-client.client-items
    c.loop-client.client-index (keeps_without c.args.serial) c.self.view_is
    c.as_mut_slice-client-items.ensures.value c.loop-client-test.false
    c.loop-client.auto.client-items c.loop-client.invariant
