use Rattle.session_state.proofs.Vocabulary.{◌≡◌, ◌<◌, ◌+◌, ◌-◌, ◌∙◌, length, get_or, replicate, arith, ap, sym, refl}
use Rattle.session_state.proofs.Vocabulary.{get_or_default, map_over_more, Text, hearing, heard}
use Rattle.session_state.proofs.Changing.{all_over}
use Rattle.session_state.proofs.Keeping.{keeps_heard}
use Rattle.session_state.proofs.clients.Clients.hear_all.Goals as goal

pub loop-client-preserved : goal.loop-client-preserved
loop-client-preserved c =
    let xs = c.as_mut_slice-client-items.result.now in
    let ys = c.loop-client.client-items in
    let i = c.loop-client.client-index in
    let here = get_or ys i c.client-item.result in
    let inside : i < length ys = omega arith in
    record {
      left = omega (arith, c.loop-client.invariant.left, c.next_message.ensures.len);
      told = λ text all.
          let before = c.loop-client.invariant.told text all in
          let count : length xs - i ≡ (length xs - (i + 1)) + 1 =
          omega (arith, c.loop-client-test.true) in
          let next =
          c.next_message.ensures.same (length xs - (i + 1)) (Text text)
          (before.0 ∙ ap (λ n. replicate n (Text text)) count) in (
            next.1,
            rw (c.hear.ensures, next.0)
                (map_over_more (heard text) xs ys i here c.loop-client-test.true before.1
                (get_or_default ys i c.client-item.result here inside)),
          );
    }

pub returns : goal.returns
returns c = λ text all.
    let told =
    c.loop-client.invariant.told text
    (all
    ∙ ap (λ n. replicate n (Text text))
    (sym (ap length (c.as_mut_slice-client-items.ensures.value ∙ c.self.view_is)))) in
    all_over (hearing (Text text)) (heard text) c.args.self.now c.self.inside.rows
    c.as_mut_slice-client-items.result.now c.loop-client.client-items c.loop-client.client-index
    (λ m d st. keeps_heard (Text text) m d (heard text d) refl st) c.self.view_is
    c.as_mut_slice-client-items.ensures.value c.loop-client-test.false
    c.loop-client.auto.client-items told.1
