use Rattle.server_users.proofs.Vocabulary.{ap, sym, ◌∙◌, Some, unwrap_or, position, as_nanos, same_user-refl, end_of}
use Rattle.server_users.proofs.Places.{found, lost, other_user}
use Rattle.server_users.proofs.Rationing.{is_for, no_ration, may_cause, may_not, not_none, stays, may_first, none_waits}
use Rattle.server_users.proofs.Rationing.{push_own, push_other}
use Rattle.server_users.proofs.ration.Rations.may.Goals as goal

pub returns-in-Some-clause-may : goal.returns-in-Some-clause-may
returns-in-Some-clause-may c = λ may.
    may_cause c.args.self.now.list.items c.args.user c.in-Some.place c.index.result.now
    (found (is_for c.args.user) _ _ (ap (position (is_for c.args.user)) (sym c.deref.ensures.value)
    ∙ sym c.place_of.ensures.place ∙ c.in-Some.is))
    c.index.ensures (as_nanos c.args.now) (as_nanos c.args.self.now.period) (c.has_room.ensures.0 may)

pub returns-in-Some-clause-waits : goal.returns-in-Some-clause-waits
returns-in-Some-clause-waits c = λ denied.
    may_not c.args.self.now.list.items c.args.user c.in-Some.place c.index.result.now
    (found (is_for c.args.user) _ _ (ap (position (is_for c.args.user)) (sym c.deref.ensures.value)
    ∙ sym c.place_of.ensures.place ∙ c.in-Some.is))
    c.index.ensures (as_nanos c.args.now) (as_nanos c.args.self.now.period) c.has_room.result denied c.has_room.ensures

pub returns-in-Some-clause-room : goal.returns-in-Some-clause-room
returns-in-Some-clause-room c = λ none room.
    absurd (not_none c.args.self.now.list.items c.args.user c.in-Some.place c.index.result.now
    (found (is_for c.args.user) _ _ (ap (position (is_for c.args.user)) (sym c.deref.ensures.value)
    ∙ sym c.place_of.ensures.place ∙ c.in-Some.is))
    c.index.ensures none)

pub returns-in-Some-clause-own : goal.returns-in-Some-clause-own
returns-in-Some-clause-own c = λ may.
    stays c.args.self.now.list.items c.args.user c.in-Some.place c.index.result.now
    (found (is_for c.args.user) _ _ (ap (position (is_for c.args.user)) (sym c.deref.ensures.value)
    ∙ sym c.place_of.ensures.place ∙ c.in-Some.is))
    c.index.ensures

pub returns-in-Ok-clause-may : goal.returns-in-Ok-clause-may
returns-in-Ok-clause-may c = λ may.
    may_first c.args.self.now.list.items c.args.user (as_nanos c.args.now) (as_nanos c.args.self.now.period)
    (no_ration c.args.self.now.list.items c.args.user (lost (is_for c.args.user) _
    (ap (position (is_for c.args.user)) (sym c.deref.ensures.value)
    ∙ sym c.place_of.ensures.place ∙ c.in_default.is)))

pub returns-in-Ok-clause-own : goal.returns-in-Ok-clause-own
returns-in-Ok-clause-own c = λ may.
    let unmet = lost (is_for c.args.user) c.args.self.now.list.items
    (ap (position (is_for c.args.user)) (sym c.deref.ensures.value)
    ∙ sym c.place_of.ensures.place ∙ c.in_default.is) in
    ap (λ rs. end_of rs c.args.user) c.in-Ok.ensures.items
    ∙ (push_own c.args.self.now.list.items c.args.user _ unmet (same_user-refl c.args.user)
    ∙ sym (ap (λ o. Some (unwrap_or o 0)) (no_ration c.args.self.now.list.items c.args.user unmet)))

pub returns-in-Ok-clause-others : goal.returns-in-Ok-clause-others
returns-in-Ok-clause-others c = λ u differ.
    ap (λ rs. end_of rs u) c.in-Ok.ensures.items
    ∙ push_other c.args.self.now.list.items u _ (other_user c.args.user u (λ e. differ (sym e)))

pub returns-in-Err-clause-waits : goal.returns-in-Err-clause-waits
returns-in-Err-clause-waits c = λ denied.
    none_waits c.args.self.now.list.items c.args.user _
    (no_ration c.args.self.now.list.items c.args.user (lost (is_for c.args.user) _
    (ap (position (is_for c.args.user)) (sym c.deref.ensures.value)
    ∙ sym c.place_of.ensures.place ∙ c.in_default.is)))
