use Rattle.session_events.proofs.Left.{all_focused}
use Rattle.session_events.proofs.focuses.Focuses.of.Goals as goal

pub returns : goal.returns
returns c = λ t st sound.
    all_focused t.clients c.args.state.now.clients c.as_slice-client-items.result.now c.loop-client.client-index
    c.loop-client.focuses
    st.clients sound.few_clients c.as_slice-client-items.ensures c.loop-client-test.false c.loop-client.invariant
