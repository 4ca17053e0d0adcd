use Rattle.session_state.proofs.Vocabulary.{◌∙◌, ap, map, List, ℕ, Option, codes, separated, client_line, Client}
use Rattle.session_state.proofs.Vocabulary.{client_item}
use Rattle.session_state.proofs.Growing.{items_more, items_all}
use Rattle.session_state.proofs.Listing.{clients_alike}
use Rattle.session_state.proofs.texts.clients_text.Goals as goal

pub returns : goal.returns
returns c = λ t st fit.
    let item = client_item c.args.state.now.windows in
    c.from_vec.ensures
    ∙ (items_all item c.as_slice-client-items.result.now c.loop-client.client-index
    c.loop-client.is_first c.loop-client.text.items c.loop-client-test.false c.loop-client.invariant
    ∙ (ap (λ (cs : List Client). separated (codes "  ") (map item cs))
    c.as_slice-client-items.ensures
    ∙ clients_alike t c.args.state.now st))

pub loop-client-preserved : goal.loop-client-preserved
loop-client-preserved c =
    items_more (client_item c.args.state.now.windows) c.as_slice-client-items.result.now
    c.loop-client.client-index c.client-item.result c.loop-client.is_first _
    c.loop-client.text.items c.push_separator.new.out.items c.push_client.new.out.items
    c.loop-client-test.true c.client-item.is
    (ap (λ (f : Option ℕ). client_line c.client-item.result.serial c.client-item.result.user f)
    c.number_shown-focus.ensures)
    c.loop-client.invariant c.in_ok-push_separator.ensures.ok c.in_ok-push_client.ensures.ok
