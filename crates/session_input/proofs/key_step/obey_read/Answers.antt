use Rattle.session_input.proofs.Vocabulary.{◌≡◌, ℕ, List, ap, ◌∙◌, refl, Client, with_client, row_of, with_row}
use Rattle.session_input.proofs.Vocabulary.{serial_is, with_same, State, read_by, reading}
use Rattle.session_state.specs.declared.client.Client.{Client as Row}
use Rattle.session_input.proofs.Putting.{serial, fit_put, stands_read}
use Rattle.session_input.proofs.key_step.obey_read.Goals as goal

pub returns-in-Ok-clause-ok : goal.returns-in-Ok-clause-ok
returns-in-Ok-clause-ok c = λ t row keys st fit at same read.
    let n : ℕ = c.args.given.now.by.client in
    let there : row.serial ≡ n = serial_is serial t.clients n row at in
    let d : Client = read_by c.args.message keys row in
    c.in-Ok.ensures.ok (with_client t d) (reading keys row) d
    (stands_read t c.args.state.now n row keys c.args.reader.now c.exchange.new.keys c.args.message
    c.exchange.new.message c.exchange.new.self at read c.exchange.ensures.row st)
    (fit_put t n row d at there refl refl fit)
    (ap (λ (k : ℕ). row_of serial (with_row serial t.clients k d) n) there
    ∙ with_same serial t.clients n row d at there)
    there same

pub returns-clause-err : goal.returns-clause-err
returns-clause-err c = λ here.
    let s : State = c.args.state.now in
    let kept = c.in-Err.ensures.whole.0 in
    let put = c.exchange.ensures.row here.0 here.1 in
    let back : c.exchange-in-Err.new.self ≡ s.clients =
    c.exchange-in-Err.ensures.back s.clients here.0 c.args.reader.now c.args.message here.1
    (ap (λ (x : State). x.clients) kept.state ∙ put.row) put.keys_are put.message_is in
    record {
      state = ap (λ (x : State). record x { clients = c.exchange-in-Err.new.self }) kept.state
          ∙ ap (λ (cs : List Row). record s { clients = cs }) back;
      acts = kept.acts;
      effects = kept.effects;
    }
