use Rattle.session_input.proofs.Vocabulary.{ℕ, List, ap, sym, subst, ◌∙◌, Keeping, StandsFor, Client, client_at}
use Rattle.session_input.proofs.Vocabulary.{serial_is, both_back, ClientStands, read_of}
use Rattle.std.specs.Prelude.{option_copied}
use Rattle.session_input.proofs.Putting.{serial}
use Rattle.session_input.proofs.KeyStepping.{called_by, were_read, err_always}
use Rattle.session_input.proofs.key_step.keys.Goals as goal
use Rattle.session_input.proofs.key_step.keys.Goals.{in-Some-order+in_ok-give_order-in-Some-order}
use Rattle.session_input.proofs.key_step.keys.Goals.{in-None+in_ok-give_typed-in-None}

pub returns-in_err-give_order-in-Some-order-clause-err : goal.returns-in_err-give_order-in-Some-order-clause-err
returns-in_err-give_order-in-Some-order-clause-err c =
    err_always c.from_residual-in_err-give_order-in-Some-order.result
    (c.in_err-give_order-in-Some-order.ensures.err
    (c.in-Some.row.now, sym c.get.ensures.row ∙ ap option_copied c.in-Some.is))

pub returns-clause-answer : goal.returns-clause-answer
returns-clause-answer c = λ t st fit.
    let n : ℕ = c.args.client in
    let bytes : List ℕ = c.args.bytes.now in
    let found = both_back ClientStands (client_at t n) (option_copied c.get.result)
    c.in-Some.row.now (c.get.ensures.stands t.clients st.clients)
    (ap option_copied c.in-Some.is) in
    let row : Client = found.0 in
    let here = c.caller_of-caller.ensures
    ∙ called_by row c.in-Some.row.now n (serial_is serial t.clients n row found.1) found.2 in
    let keys = c.in_ok-taken.field-0 in
    let reading = c.in_ok-taken.ensures row
    (subst (λ (k : Keeping). StandsFor k row.keys) (sym c.copied-reader.ensures) found.2.keys) in
    elim c.match-order.branch [
      | in-Some-order+in_ok-give_order-in-Some-order w ↦
          rw (w.state-is, w.step-is)
          (were_read t row (client_at t n) bytes keys.taken w.give_order.new.state c.args.step.now
          w.give_order.new.step found.1 reading.taken_is
          (w.in_ok-give_order-in-Some-order.ensures.ok t row (read_of row bytes) st fit found.1 here
          (record {
            typed_is = reading.read.typed_is;
            order_is = sym w.in-Some-order.is ∙ reading.read.order_is;
            reads = reading.read.reads;
          })))
      | in-None+in_ok-give_typed-in-None w ↦
          rw (w.state-is, w.step-is)
          (were_read t row (client_at t n) bytes keys.taken w.give_typed.new.state c.args.step.now
          w.give_typed.new.step found.1 reading.taken_is
          (w.in_ok-give_typed-in-None.ensures.ok t row (read_of row bytes) st fit found.1 here
          (record {
            typed_is = reading.read.typed_is;
            order_is = sym w.in-None.is ∙ reading.read.order_is;
            reads = reading.read.reads;
          })))
    ]
