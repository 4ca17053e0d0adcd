use Rattle.hub_ledger.proofs.Vocabulary.{◌∙◌, Some, ap, length, refl, subst, sym, arith, length-map, Vec, Global, Sent}
use Rattle.hub_ledger.proofs.Vocabulary.{happening, kept_of, State, state_of, Sitting, StandsLast, Told, stepped}
use Rattle.hub_ledger.specs.Seats.{Answers, handed_in}
use Rattle.hub_ledger.proofs.Filing.{answered, begins_stay, handed, one_more, seats_stay, stands_last}
use Rattle.hub_ledger.proofs.Rising.{rise_pushed}
use Rattle.hub_ledger.proofs.Sums.{few_below, one_told, same_sum, step_sum}
use Rattle.hub_ledger.proofs.ledger.Ledger.file.Goals as goal

pub copied-entry-requires : goal.copied-entry-requires
copied-entry-requires g c =
    let old = state_of c.self.inside.filed in
    let new = state_of c.file.new.self in
    let more = one_more c.seat.inside.number (happening c.args.event) c.in_ok-made.made.0 c.in_ok-made.made.1 old new
    c.in_ok-made.ensures.step c.requires in
    omega (arith, more, c.len-place.ensures)

pub checks-checks-requires : goal.checks-checks-requires
checks-checks-requires g c =
    let old = state_of c.self.inside.filed in
    let new = state_of c.file.new.self in
    let more = one_more c.seat.inside.number (happening c.args.event) c.in_ok-made.made.0 c.in_ok-made.made.1 old new
    c.in_ok-made.ensures.step c.requires in
    omega (arith, more, c.len-place.ensures)

pub returns-clause-checks : goal.returns-clause-checks
returns-clause-checks g c = c.checks-checks.ensures

pub returns-clause-entry : goal.returns-clause-entry
returns-clause-entry g c =
    let old = state_of c.self.inside.filed in
    let new = state_of c.file.new.self in
    subst (λ (s : State). StandsLast c.copied-entry.result s.trail.entries new.trail.entries) c.self.view_is
    (stands_last c.seat.inside.asks c.seat.inside.number (happening c.args.event) c.in_ok-made.made.0
    c.in_ok-made.made.1 old new c.len-place.result c.copied-entry.result c.in_ok-made.ensures.step c.requires
    c.len-place.ensures c.copied-entry.ensures)

pub returns-clause-answer : goal.returns-clause-answer
returns-clause-answer g c =
    let event = happening c.args.event in
    let reply = c.in_ok-made.made.0 in
    let typed = c.in_ok-made.made.1 in
    let place = c.len-place.result in
    let was : Sitting = record {
      number = c.seat.inside.number;
      asks = c.seat.inside.asks;
      receipts = c.seat.inside.told.receipts;
      steps = c.seat.inside.steps;
      takes = c.seat.inside.takes;
      handed = handed_in c.seat.inside.share.amount;
      is_told = c.seat.inside.is_told;
    } in
    let told : Told = record {
      event = event;
      reply = reply;
      typed = typed;
      place = Some place;
      checks = c.checks-checks.result.0;
      checks_execute = c.checks-checks.result.1;
      entry = c.copied-entry.result;
    } in
    let now : Sitting = record (stepped was) { receipts = c.file.new.told.receipts } in
    let answers : Answers event told was now = record {
      same = refl;
      receipt = answered (kept_of event) _ told was now (ap Some c.len-place.ensures) c.in_ok-made.ensures.told refl;
      entry = handed was event reply typed (state_of c.self.inside.filed) (state_of c.file.new.self) place
          c.copied-entry.result c.in_ok-made.ensures.step c.requires c.len-place.ensures c.copied-entry.ensures;
    } in
    let received = c.in_ok-made.ensures.told in
    let few = few_below _ c.seat.inside.told.receipts c.seat.invariant.3 received.below in
    let more = one_told c.seat.inside.share.amount c.add.new.share.amount (length c.seat.inside.told.receipts)
    c.add.ensures.amount c.seat.invariant.2 (omega (arith, few, c.in_ok-made.ensures.room)) in
    subst (λ (s : Sitting). Answers event told s (record now { handed = handed_in c.add.new.share.amount }))
    c.seat.view_is
    (subst (λ n. Answers event told was (record now { handed = n })) (sym more.1) answers)

pub invariant_of-self-2 : goal.invariant_of-self-2
invariant_of-self-2 g c =
    let inv = c.self.invariant in
    let old = state_of c.self.inside.filed in
    let new = state_of c.file.new.self in
    let takes = c.in_ok-made.ensures.step in
    let event = happening c.args.event in
    let reply = c.in_ok-made.made.0 in
    let typed = c.in_ok-made.made.1 in
    let more = one_more c.seat.inside.number event reply typed old new takes c.requires in
    let stay = seats_stay c.seat.inside.number event reply typed old new takes in
    let begins = begins_stay c.seat.inside.number event reply typed old new takes in
    let one = one_told c.self.inside.book.total c.add.new.self.total _ c.add.ensures.total inv.1
    c.in_ok-made.ensures.room in (
      c.file.ensures.kept,
      one.0 ∙ sym more,
      omega (arith, more, c.in_ok-made.ensures.room),
      sym (length-map c.file.new.self.waiting.lists.items (λ (v : Vec Sent Global). v.items)) ∙ stay.0
          ∙ length-map c.self.inside.filed.waiting.lists.items (λ (v : Vec Sent Global). v.items) ∙ inv.3,
      stay.1 ∙ inv.4,
      inv.5,
      begins.0 ∙ inv.6,
      begins.1 ∙ inv.7,
      inv.8,
      same_sum _ _ new (sym one.1)
          (step_sum _ c.seat.inside.number event reply typed old new inv.0.seats takes inv.9),
    )

pub invariant_of-seat-2 : goal.invariant_of-seat-2
invariant_of-seat-2 g c =
    let inv = c.seat.invariant in
    let received = c.in_ok-made.ensures.told in
    let pushed = rise_pushed c.seat.inside.told.receipts c.seat.inside.told.receipts c.file.new.told.receipts _ refl
    received.more.2 inv.3 received.below in
    let few = few_below _ c.seat.inside.told.receipts inv.3 received.below in
    let one = one_told c.seat.inside.share.amount c.add.new.share.amount (length c.seat.inside.told.receipts)
    c.add.ensures.amount inv.2 (omega (arith, few, c.in_ok-made.ensures.room)) in (
      inv.0,
      c.add.ensures.parts ∙ inv.1,
      one.0 ∙ sym pushed.1,
      pushed.0,
      omega (arith, few, pushed.1, c.in_ok-made.ensures.room),
    )
