use Rattle.hub_ledger.proofs.Vocabulary.{◌≡◌, ◌∙◌, false, length, ap, subst, sym, arith, is_some, length-map, Vec}
use Rattle.hub_ledger.proofs.Vocabulary.{Global, Sent, happening, kept_of, State, state_of}
use Rattle.hub_ledger.specs.Seats.{handed_in}
use Rattle.hub_ledger.specs.States.{Balances}
use Rattle.hub_ledger.proofs.Filing.{begins_stay, no_more, seats_stay}
use Rattle.hub_ledger.proofs.Sums.{step_sum}
use Rattle.hub_ledger.proofs.ledger.Ledger.submit.Goals as goal

pub invariant_of-self : goal.invariant_of-self
invariant_of-self g c =
    let inv = c.self.invariant in
    let same = c.in_err-made.ensures.same in
    let entries : length c.take_step.new.self.entries.list.entries ≡ length c.self.inside.filed.entries.list.entries =
    ap (λ (s : State). length s.trail.entries) same in (
      c.take_step.ensures.kept,
      inv.1 ∙ sym entries,
      omega (arith, entries, inv.2),
      sym (length-map c.take_step.new.self.waiting.lists.items (λ (v : Vec Sent Global). v.items))
          ∙ ap (λ (s : State). length s.waiting) same
          ∙ length-map c.self.inside.filed.waiting.lists.items (λ (v : Vec Sent Global). v.items) ∙ inv.3,
      ap (λ (s : State). length s.marks) same ∙ inv.4,
      inv.5,
      ap (λ (s : State). s.trail.edition) same ∙ inv.6,
      ap (λ (s : State). s.trail.owner) same ∙ inv.7,
      inv.8,
      subst (Balances (handed_in c.self.inside.book.total)) (sym same) inv.9,
    )

pub invariant_of-self-else-writes_entry : goal.invariant_of-self-else-writes_entry
invariant_of-self-else-writes_entry g c =
    let inv = c.self.invariant in
    let event = happening c.args.event in
    let not : is_some (kept_of event) ≡ false = sym c.writes_entry.ensures ∙ c.if-writes_entry.false in
    let old = state_of c.self.inside.filed in
    let new = state_of c.take_step.new.self in
    let takes = c.in_ok-made.ensures.step in
    let entries = no_more _ event c.in_ok-made.made.0 c.in_ok-made.made.1 old new takes not in
    let stay = seats_stay _ event c.in_ok-made.made.0 c.in_ok-made.made.1 old new takes in
    let begins = begins_stay _ event c.in_ok-made.made.0 c.in_ok-made.made.1 old new takes in (
      c.take_step.ensures.kept,
      inv.1 ∙ sym entries,
      omega (arith, entries, inv.2),
      sym (length-map c.take_step.new.self.waiting.lists.items (λ (v : Vec Sent Global). v.items)) ∙ stay.0
          ∙ length-map c.self.inside.filed.waiting.lists.items (λ (v : Vec Sent Global). v.items) ∙ inv.3,
      stay.1 ∙ inv.4,
      inv.5,
      begins.0 ∙ inv.6,
      begins.1 ∙ inv.7,
      inv.8,
      step_sum _ _ event c.in_ok-made.made.0 c.in_ok-made.made.1 old new inv.0.seats takes inv.9,
    )

pub returns-then-writes_entry-clause-step : goal.returns-then-writes_entry-clause-step
returns-then-writes_entry-clause-step g c = c.file.ensures.step

pub returns-then-writes_entry-clause-answer : goal.returns-then-writes_entry-clause-answer
returns-then-writes_entry-clause-answer g c = c.file.ensures.answer

pub returns-then-writes_entry-clause-entry : goal.returns-then-writes_entry-clause-entry
returns-then-writes_entry-clause-entry g c = c.file.ensures.entry

pub returns-then-writes_entry-clause-same : goal.returns-then-writes_entry-clause-same
returns-then-writes_entry-clause-same g c = c.file.ensures.same

pub returns-then-writes_entry-clause-checks : goal.returns-then-writes_entry-clause-checks
returns-then-writes_entry-clause-checks g c = c.file.ensures.checks
