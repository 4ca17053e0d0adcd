use Rattle.server_users.proofs.Vocabulary.{ap, sym, ◌∙◌, position, IsFirst}
use Rattle.server_users.specs.Allowances.{settled}
use Rattle.server_users.specs.Accounts.{judged}
use Rattle.server_users.proofs.Places.{found, lost, is_of, no_account}
use Rattle.server_users.proofs.Paying.{own_is, other_is, found_is, settled_is, none_settled}
use Rattle.server_users.proofs.allowances.Allowances.settle.Goals as goal

pub returns-in-Some-clause-own : goal.returns-in-Some-clause-own
returns-in-Some-clause-own c =
    let first : IsFirst (is_of c.args.user) c.args.self.now.accounts.items c.in-Some.place =
    found (is_of c.args.user) c.args.self.now.accounts.items c.in-Some.place
    (ap (position (is_of c.args.user)) (sym c.deref.ensures.value)
    ∙ sym c.place_of.ensures.place ∙ c.in-Some.is) in
    own_is c.args.self.now.accounts.items c.args.user c.in-Some.place c.index_mut.result.now first
    c.index_mut.ensures.value c.settle.new.self
    ∙ settled_is _ (settled (judged c.args.self.now.owner c.args.user c.args.outcome) c.args.cost)
    c.index_mut.result.now.allowance c.settle.new.self
    (found_is c.args.self.now.accounts.items c.args.user c.in-Some.place c.index_mut.result.now first
    c.index_mut.ensures.value)
    (c.settle.ensures ∙ ap (λ o. settled o c.args.cost c.index_mut.result.now.allowance) c.judged-outcome.ensures)

pub returns-in-Some-clause-others : goal.returns-in-Some-clause-others
returns-in-Some-clause-others c = λ u differ.
    other_is c.args.self.now.accounts.items c.args.user c.in-Some.place c.index_mut.result.now
    (found (is_of c.args.user) c.args.self.now.accounts.items c.in-Some.place
    (ap (position (is_of c.args.user)) (sym c.deref.ensures.value)
    ∙ sym c.place_of.ensures.place ∙ c.in-Some.is))
    c.index_mut.ensures.value c.settle.new.self u differ

pub returns-in_default-clause-own : goal.returns-in_default-clause-own
returns-in_default-clause-own c = none_settled _
    (settled (judged c.args.self.now.owner c.args.user c.args.outcome) c.args.cost)
    (no_account c.args.self.now.accounts.items c.args.user (lost (is_of c.args.user) c.args.self.now.accounts.items
    (ap (position (is_of c.args.user)) (sym c.deref.ensures.value)
    ∙ sym c.place_of.ensures.place ∙ c.in_default.is)))
