use Rattle.hub_ledger.proofs.Vocabulary.{◌∙◌, ◌+◌, List, [], length, ap, subst, sym, length-map, Vec, Global}
use Rattle.hub_ledger.proofs.Vocabulary.{AreSeats, Sent, state_of}
use Rattle.std.proofs.Common.{length-set}
use Rattle.hub_ledger.specs.Seats.{handed_in}
use Rattle.hub_ledger.specs.States.{Balances}
use Rattle.hub_ledger.proofs.Sums.{same_sum, take_sum}
use Rattle.hub_ledger.proofs.ledger.Ledger.take.Goals as goal

pub invariant_of-self : goal.invariant_of-self
invariant_of-self g c =
    let inv = c.self.invariant in
    let st = inv.0.past.1 in
    let old = state_of c.self.inside.filed in
    let seat = c.seat.inside.number in
    let marks = c.take-effects.new.self.marks.items in
    let handed = handed_in c.self.inside.book.total in
    let effects = c.take-effects.result.0 in
    let lists = c.take-effects.ensures.lists in
    let waits = ap (λ (w : List (List Sent)). length w) lists ∙ length-set old.waiting seat [] in (
      record {
        past = (
          inv.0.past.0,
          record { stands = st.stands; trail = st.trail; clients = st.clients; windows = st.windows },
        );
        seats = subst (λ n. AreSeats n old.owners) (sym waits) inv.0.seats;
      },
      c.hand.ensures.entries ∙ inv.1,
      inv.2,
      sym (length-map c.take-effects.new.self.lists.items (λ (v : Vec Sent Global). v.items)) ∙ waits
          ∙ length-map c.self.inside.filed.waiting.lists.items (λ (v : Vec Sent Global). v.items) ∙ inv.3,
      ap length c.take-effects.ensures.marks ∙ length-set old.marks seat _ ∙ inv.4,
      inv.5,
      inv.6,
      inv.7,
      inv.8,
      same_sum _ _ _ (sym c.hand.ensures.all)
          (subst
          (λ (w : List (List Sent)). Balances (handed + length effects) (record old { waiting = w; marks = marks }))
          (sym lists) (take_sum handed seat effects marks old c.take-effects.ensures.effects inv.9)),
    )
