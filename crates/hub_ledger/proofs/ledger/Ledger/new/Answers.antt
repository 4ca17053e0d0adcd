use Rattle.hub_ledger.proofs.Vocabulary.{◌≡◌, ◌∙◌, ℕ, length, ap, sym, arith, subst, length-map, Vec, Global, Edition}
use Rattle.hub_ledger.proofs.Vocabulary.{UserId, Sent, begun, Session, State, StandsFor}
use Rattle.std.proofs.lemmas.List.{length-replicate}
use Rattle.hub_ledger.specs.States.{begun_with}
use Rattle.hub_ledger.proofs.Sums.{begun_sum}
use Rattle.hub_ledger.proofs.ledger.Ledger.new.Goals as goal

-- the session has the edition and the owner with which the ledger began
so_begun : (session : Session) (e edition : Edition) (o owner : UserId) → e ≡ edition → o ≡ owner
    → StandsFor (begun edition owner) session → StandsFor (begun e o) session
so_begun session e edition o owner same own st =
    subst (λ (x : Edition). StandsFor (begun x o) session) (sym same)
    (subst (λ (x : UserId). StandsFor (begun edition x) session) (sym own) st)

so_made : (s : State) (session : Session) (e edition : Edition) (o owner : UserId) (seats : ℕ) → e ≡ edition → o ≡ owner
    → s ≡ begun_with session e o seats → s ≡ begun_with session edition owner seats
so_made s session e edition o owner seats same own is =
    is ∙ ap (λ (x : Edition). begun_with session x o seats) same
    ∙ ap (λ (x : UserId). begun_with session edition x seats) own

pub new-requires : goal.new-requires
new-requires g c =
    so_begun c.args.session _ g.L.Begun.edition _ g.L.Begun.owner (c.edition-edition.ensures _ c.requires.fresh)
    (c.owner-owner.ensures _ c.requires.fresh) c.requires.fresh

pub invariant_of-result : goal.invariant_of-result
invariant_of-result g c =
    let is = c.in_ok-filed.ensures.state in
    let none : length c.in_ok-filed.filed.entries.list.entries ≡ 0 = ap (λ (s : State). length s.trail.entries) is in (
      c.in_ok-filed.ensures.kept,
      (let zero = c.open-book.ensures.total in omega (arith, zero, none)),
      omega (arith, none),
      sym (length-map c.in_ok-filed.filed.waiting.lists.items (λ (v : Vec Sent Global). v.items))
          ∙ ap (λ (s : State). length s.waiting) is ∙ length-replicate c.args.seats _ ∙ c.requires.parts.1,
      ap (λ (s : State). length s.marks) is ∙ length-replicate c.args.seats _ ∙ c.requires.parts.1,
      (let some = c.requires.seats.0 in omega (arith, some, c.requires.parts.1)),
      ap (λ (s : State). s.trail.edition) is ∙ c.edition-edition.ensures _ c.requires.fresh,
      ap (λ (s : State). s.trail.owner) is ∙ c.owner-owner.ensures _ c.requires.fresh,
      (let few = c.requires.seats.1 in omega (arith, few, c.requires.parts.1)),
      begun_sum c.args.session _ _ c.args.seats _ _ is
          (so_begun c.args.session _ g.L.Begun.edition _ g.L.Begun.owner (c.edition-edition.ensures _ c.requires.fresh)
          (c.owner-owner.ensures _ c.requires.fresh) c.requires.fresh)
          (let zero = c.open-book.ensures.total in omega (arith, zero)),
    )

pub returns-clause-state : goal.returns-clause-state
returns-clause-state g c =
    so_made _ c.args.session _ g.L.Begun.edition _ g.L.Begun.owner c.args.seats
    (c.edition-edition.ensures _ c.requires.fresh) (c.owner-owner.ensures _ c.requires.fresh)
    c.in_ok-filed.ensures.state

pub returns-clause-seats : goal.returns-clause-seats
returns-clause-seats g c = c.in_ok-made.ensures.seats

pub returns-clause-numbers : goal.returns-clause-numbers
returns-clause-numbers g c = c.in_ok-made.ensures.numbers

pub returns-clause-asks : goal.returns-clause-asks
returns-clause-asks g c = c.in_ok-made.ensures.asks
