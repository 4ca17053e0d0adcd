use Rattle.server_users.proofs.Vocabulary.{Some, Option, ap, subst, ◌∙◌, unwrap_or, MayPay, Purse, fresh, stands_at}
use Rattle.server_users.specs.Allowances.{paid}
use Rattle.server_users.proofs.Paying.{own_is, other_is, held_is, may_fresh, not_true, unpaid_is, waits_is}
use Rattle.server_users.proofs.allowances.Allowances.pay.Goals as goal

pub returns-in-Ok-clause-others : goal.returns-in-Ok-clause-others
returns-in-Ok-clause-others c = λ u differ.
    other_is c.open.new.self.accounts.items c.args.user c.in-Ok.place c.index_mut.result.now c.in-Ok.ensures.place
    c.index_mut.ensures.value c.pay.new.self u differ ∙ c.in-Ok.ensures.others u differ

pub returns-in-Ok-clause-paid : goal.returns-in-Ok-clause-paid
returns-in-Ok-clause-paid c = λ did.
    own_is c.open.new.self.accounts.items c.args.user c.in-Ok.place c.index_mut.result.now c.in-Ok.ensures.place
    c.index_mut.ensures.value c.pay.new.self
    ∙ ap Some (c.pay.ensures.paid did ∙ ap (λ (p : Purse). paid c.args.cost (stands_at c.args.now p))
    (held_is c.open.new.self.accounts.items c.args.user c.in-Ok.place c.index_mut.result.now c.in-Ok.ensures.place
    c.index_mut.ensures.value _ c.in-Ok.ensures.own))

pub returns-in-Ok-clause-unpaid : goal.returns-in-Ok-clause-unpaid
returns-in-Ok-clause-unpaid c = λ not.
    own_is c.open.new.self.accounts.items c.args.user c.in-Ok.place c.index_mut.result.now c.in-Ok.ensures.place
    c.index_mut.ensures.value c.pay.new.self
    ∙ unpaid_is _ c.args.now c.pay.new.self c.index_mut.result.now.allowance
    (held_is c.open.new.self.accounts.items c.args.user c.in-Ok.place c.index_mut.result.now c.in-Ok.ensures.place
    c.index_mut.ensures.value _ c.in-Ok.ensures.own)
    (c.pay.ensures.unpaid not) (λ less. not_true c.pay.result not (c.pay.ensures.answer.1 less))

pub returns-in-Ok-clause-may : goal.returns-in-Ok-clause-may
returns-in-Ok-clause-may c = λ did.
    subst (λ (p : Purse). MayPay (stands_at c.args.now p))
    (held_is c.open.new.self.accounts.items c.args.user c.in-Ok.place c.index_mut.result.now c.in-Ok.ensures.place
    c.index_mut.ensures.value _ c.in-Ok.ensures.own) (c.pay.ensures.answer.0 did)

pub returns-in-Ok-clause-waits : goal.returns-in-Ok-clause-waits
returns-in-Ok-clause-waits c = λ not.
    waits_is _ c.args.now c.index_mut.result.now.allowance
    (held_is c.open.new.self.accounts.items c.args.user c.in-Ok.place c.index_mut.result.now c.in-Ok.ensures.place
    c.index_mut.ensures.value _ c.in-Ok.ensures.own)
    (λ less. not_true c.pay.result not (c.pay.ensures.answer.1 less))

pub returns-in-Ok-clause-room : goal.returns-in-Ok-clause-room
returns-in-Ok-clause-room c = λ none room.
    c.pay.ensures.answer.1
    (may_fresh c.args.now _
    (held_is c.open.new.self.accounts.items c.args.user c.in-Ok.place c.index_mut.result.now c.in-Ok.ensures.place
    c.index_mut.ensures.value _ c.in-Ok.ensures.own ∙ ap (λ (o : Option Purse). unwrap_or o fresh) none))
