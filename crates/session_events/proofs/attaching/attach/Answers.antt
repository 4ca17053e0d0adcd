use Rattle.session_events.proofs.Vocabulary.{◌≡◌, ◌∷◌, ◌++◌, [], refl, sym, ◌∙◌, nat_lt, ◌^◌}
use Rattle.acl.specs.declared.act.Act.TheVariants as act
use Rattle.session_events.proofs.Passing.{taken_is}
use Rattle.session_events.proofs.Feeding.{pushed}
use Rattle.session_events.proofs.NewClients.{attached_done}
use Rattle.session_events.proofs.attaching.attach.Goals as goal

pub returns-clause-answer : goal.returns-clause-answer
returns-clause-answer c = λ t st fit passed.
    let s = c.args.state.now in
    let before = c.args.made.now in
    let client = c.in-Some.client in
    let serial_is : client ≡ t.next_client =
    taken_is (nat_lt s.next_client (2 ^ 32)) s.next_client client
    (sym c.serial_from.ensures ∙ c.in-Some.is)
    ∙ st.next_client_is in (
      serial_is,
      attached_done t c.args.user c.args.rows c.args.columns s st client c.first_window-window.result
          c.attach.new.self serial_is (c.first_window-window.ensures t st) c.in_ok-attach.ensures.ok
          c.enter.new.state before (record before { acts = c.push.new.self }) c.enter.new.made fit
          (pushed c.push.result c.unwrap.result c.push.new.self.items
          (before.acts.items ++ act.Attached client c.args.user ∷ []) before.acts.items
          c.unwrap.ensures c.push.ensures.items)
          refl c.enter.ensures.done,
    )
