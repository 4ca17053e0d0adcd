use Rattle.session_state.proofs.Vocabulary.{◌≡◌, ◌∙◌, ap, subst, refl, with_row, reading, Client}
use Rattle.session_state.specs.Exchanges.{Exchanged}
use Rattle.session_state.proofs.Changing.{changed_row, no_row, lent_at, none_lent, serial_of}
use Rattle.session_state.proofs.Exchanging.{keeps_read, stood, back, put_together}
use Rattle.session_state.proofs.clients.Clients.exchange.Goals as goal

pub returns-clause-read : goal.returns-clause-read
returns-clause-read c = λ bytes silent more.
    let row : Client = c.in-Some.client.now in
    let here =
    lent_at c.args.self.now c.self.inside.rows c.args.serial c.get_mut.result
    c.in-Some.client c.get_mut.follows.lender c.exchange.new.self c.self.view_is
    c.get_mut.follows.claims c.get_mut.follows.holds c.in-Some.is in
    changed_row (reading bytes) c.args.self.now c.self.inside.rows c.args.serial
    c.get_mut.result c.in-Some.client c.get_mut.follows.lender c.exchange.new.self
    c.self.view_is c.get_mut.follows.claims c.get_mut.follows.holds c.in-Some.is
    (λ m st.
    keeps_read bytes c.args.keys.now c.args.message.now m row c.exchange.new.self silent
    (more row here.0 m.keys st.keys) c.exchange.ensures.row st)

pub returns-clause-row : goal.returns-clause-row
returns-clause-row c = λ other at.
    let row : Client = c.in-Some.client.now in
    let here =
    lent_at c.args.self.now c.self.inside.rows c.args.serial c.get_mut.result
    c.in-Some.client c.get_mut.follows.lender c.exchange.new.self c.self.view_is
    c.get_mut.follows.claims c.get_mut.follows.holds c.in-Some.is in
    let same : row ≡ other = cc (here.0, at) in
    subst
    (λ (x : Client).
    Exchanged c.args.serial x c.args.self.now c.args.keys.now c.args.message.now
    (c.get_mut.follows.lender c.exchange.new.self) c.exchange.new.keys
    c.exchange.new.message)
    same (record {
      row =
          here.1
          ∙ ap (λ (d : Client). with_row serial_of c.args.self.now c.args.serial d)
          c.exchange.ensures.row;
      keys_are = c.exchange.ensures.keys;
      message_is = c.exchange.ensures.message;
    })

pub returns-clause-back : goal.returns-clause-back
returns-clause-back c = λ before other k w at is keys_are message_is.
    let row : Client = c.in-Some.client.now in
    let once : Client = record other { keys = k; message = w } in
    let here =
    lent_at c.args.self.now c.self.inside.rows c.args.serial c.get_mut.result
    c.in-Some.client c.get_mut.follows.lender c.exchange.new.self c.self.view_is
    c.get_mut.follows.claims c.get_mut.follows.holds c.in-Some.is in
    let there = stood before c.args.self.now c.args.serial other once refl at is in
    let same : row ≡ once = cc (here.0, there) in
    back before c.args.self.now (c.get_mut.follows.lender c.exchange.new.self) c.args.serial other
    once row c.exchange.new.self refl at is here.1
    (c.exchange.ensures.row
    ∙ put_together row other k w c.args.keys.now c.args.message.now same keys_are message_is)

pub returns-in_default-clause-read : goal.returns-in_default-clause-read
returns-in_default-clause-read c = λ bytes silent more.
    no_row (reading bytes) c.args.self.now c.self.inside.rows _ c.args.serial c.get_mut.result
    c.self.view_is c.get_mut.follows.claims c.in_default.is

pub returns-in_default-clause-row : goal.returns-in_default-clause-row
returns-in_default-clause-row c = λ other at.
    absurd (cc (
      at,
      none_lent c.args.self.now c.self.inside.rows c.args.serial c.get_mut.result c.self.view_is
          c.get_mut.follows.claims c.in_default.is,
    ))

pub returns-in_default-clause-back : goal.returns-in_default-clause-back
returns-in_default-clause-back c = λ before other k w at is keys_are message_is.
    let there = stood before c.args.self.now c.args.serial other (record other { keys = k; message = w }) refl at is in
    absurd (cc (
      there,
      none_lent c.args.self.now c.self.inside.rows c.args.serial c.get_mut.result
          c.self.view_is c.get_mut.follows.claims c.in_default.is,
    ))
