use Rattle.hub_ledger.proofs.Vocabulary.{◌≡◌, ◌∙◌, ◌+◌, ◌≤◌, List, length, [], ap, subst, sym, arith, Entry, Trail}
use Rattle.hub_ledger.proofs.Vocabulary.{IsLegal, AreJudgeable, trail_in, State, state_of, Sitting, IsFirstWrong}
use Rattle.hub_ledger.proofs.Vocabulary.{receipts_of}
use Rattle.hub_record.specs.declared.growing_trail.GrowingTrail.{GrowingTrail}
use Rattle.std.specs.Prelude.{◌*◌, ◌^◌}
use Rattle.hub_ledger.specs.Closing.{handed_of}
use Rattle.hub_ledger.specs.Seats.{handed_in, receipts_in}
use Rattle.hub_ledger.specs.States.{Balances}
use Rattle.hub_ledger.proofs.Counting.{none_means}
use Rattle.hub_ledger.proofs.Standing.{kept_judgeable, kept_legal}
use Rattle.hub_ledger.proofs.Sums.{decoded, same_sum}
use Rattle.hub_ledger.proofs.Tellings.{written}
use Rattle.hub_ledger.proofs.ledger.Ledger.close.Given.{Over}
use Rattle.hub_ledger.proofs.ledger.Ledger.close.Goals as goal

pub of-requires : goal.of-requires
of-requires g c =
    subst (λ (e : GrowingTrail). AreJudgeable e.edition e.owner [] e.list.entries) (sym c.into_entries-entries.ensures)
    (kept_judgeable (state_of c.self.inside.filed) c.self.invariant.0)

pub returns-clause-trail : goal.returns-clause-trail
returns-clause-trail g c = c.of.ensures ∙ ap trail_in c.into_entries-entries.ensures
    ∙ ap (λ (s : State). s.trail) c.self.view_is

pub returns-clause-begun : goal.returns-clause-begun
returns-clause-begun g c =
    let is = c.of.ensures ∙ ap trail_in c.into_entries-entries.ensures in
    (ap (λ (t : Trail). t.edition) is ∙ c.self.invariant.6, ap (λ (t : Trail). t.owner) is ∙ c.self.invariant.7)

pub returns-clause-legal : goal.returns-clause-legal
returns-clause-legal g c =
    subst IsLegal (sym (c.of.ensures ∙ ap trail_in c.into_entries-entries.ensures))
    (kept_legal (state_of c.self.inside.filed) c.self.invariant.0)

-- what the shares of all seats count
amounts : (g : Over) (c : goal.After-drop-book g) → length c.args.seats.items ≡ g.L.Ledger.parts
    → (receipts_in c.self.inside.book.total ≡ length (receipts_of c.args.seats.items))
    × (handed_in c.self.inside.book.total ≡ handed_of c.args.seats.items)
amounts g c all =
    let new = c.first_wrong-wrong.new.seats in
    let old = c.args.seats.items in
    let was : c.as_mut_slice.result.now ≡ old = c.as_mut_slice.ensures.value in
    let same : length new ≡ length old = c.first_wrong-wrong.auto.seats ∙ ap (λ (x : List Sitting). length x) was in
    let back = written new old c.args.seats.len c.args.seats.ok.0 same in
    let merged : length new ≡ g.L.Ledger.parts
    → c.first_wrong-wrong.new.book.total ≡ length (receipts_of new) + handed_of new * 2 ^ 32 = subst
    (λ (x : List Sitting). length x ≡ g.L.Ledger.parts
    → c.first_wrong-wrong.new.book.total ≡ length (receipts_of x) + handed_of x * 2 ^ 32) back c.count.ensures in
    let told = merged (same ∙ all) in
    let taken = c.first_wrong-wrong.ensures.total in
    let those : length (receipts_of c.as_mut_slice.result.now) ≡ length (receipts_of old) = ap
    (λ (x : List Sitting). length (receipts_of x)) was in
    let handed : handed_of new ≡ handed_of old = c.first_wrong-wrong.ensures.handed ∙ ap handed_of was in
    let few : length (receipts_of old) ≤ length old * 4194304 = subst
    (λ (x : List Sitting). length (receipts_of x) ≤ length x * 4194304) c.as_slice.ensures.value c.have_few.ensures in
    decoded c.self.inside.book.total (length (receipts_of old)) (handed_of old) (length old)
    (omega (arith, told, taken, those, handed)) (omega (arith, all, c.self.invariant.8)) few

pub returns-clause-counted : goal.returns-clause-counted
returns-clause-counted g c = λ all.
    let entries : length c.of.result.entries ≡ length c.self.inside.filed.entries.list.entries =
    ap (λ (t : Trail). length t.entries) (c.of.ensures ∙ ap trail_in c.into_entries-entries.ensures) in
    entries ∙ sym c.self.invariant.1 ∙ (amounts g c all).0

pub returns-clause-sum : goal.returns-clause-sum
returns-clause-sum g c = λ all. subst (Balances (handed_of c.args.seats.items)) c.self.view_is
    (same_sum _ _ (state_of c.self.inside.filed) (amounts g c all).1 c.self.invariant.9)

pub returns-clause-wrong : goal.returns-clause-wrong
returns-clause-wrong g c =
    let entries : c.into_entries-entries.result.list.entries ≡ c.of.result.entries = sym
    (ap (λ (t : Trail). t.entries) c.of.ensures) in
    subst (λ (es : List Entry). IsFirstWrong es (receipts_of c.args.seats.items) c.first_wrong-wrong.result) entries
    (subst
    (λ (x : List Sitting). IsFirstWrong c.into_entries-entries.result.list.entries (receipts_of x)
    c.first_wrong-wrong.result) c.as_mut_slice.ensures.value c.first_wrong-wrong.ensures.wrong)

pub returns-clause-none : goal.returns-clause-none
returns-clause-none g c = λ all. none_means c.of.result.entries (receipts_of c.args.seats.items)
    c.first_wrong-wrong.result (returns-clause-counted g c all) (returns-clause-wrong g c)
