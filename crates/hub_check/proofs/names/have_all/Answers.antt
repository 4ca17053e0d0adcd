use Rattle.hub_check.proofs.Vocabulary.{◌∙◌, ◌&&◌, ◌||◌, ℕ, suc, Some, sym, subst, drop, length, ap, list_all}
use Rattle.hub_check.proofs.Vocabulary.{drop-past, UserId, users_of, same_user, has_act_of}
use Rattle.std.proofs.Common.{◌≤◌, add-one}
use Rattle.hub_check.proofs.Folding.{at_place}
use Rattle.hub_check.proofs.names.have_all.Goals as goal

pub returns-then-not-has_at : goal.returns-then-not-has_at
returns-then-not-has_at c = λ edition h s.
    let p = λ (u : UserId). same_user c.args.owner u || has_act_of c.args.acts.now (Some u) in
    let us = users_of c.args.owner h in
    let i = c.loop-place.place in
    sym (c.loop-place.invariant edition h s ∙ (at_place p us i
    ∙ ap (λ b. b && list_all p (drop (suc i) us)) (sym (c.has_at.ensures edition h s) ∙ c.if-not-has_at.true)))

pub loop-place-preserved : goal.loop-place-preserved
loop-place-preserved c = λ edition h s.
    let p = λ (u : UserId). same_user c.args.owner u || has_act_of c.args.acts.now (Some u) in
    let us = users_of c.args.owner h in
    let i = c.loop-place.place in
    c.loop-place.invariant edition h s ∙ (at_place p us i
    ∙ (ap (λ b. b && list_all p (drop (suc i) us)) (sym (c.has_at.ensures edition h s) ∙ c.if-not-has_at.false)
    ∙ ap (λ k. list_all p (drop k us)) (sym (add-one i))))

pub returns : goal.returns
returns c = λ edition h s.
    let p = λ (u : UserId). same_user c.args.owner u || has_act_of c.args.acts.now (Some u) in
    let us = users_of c.args.owner h in
    let i = c.loop-place.place in
    let over : length us ≤ i = subst (λ (n : ℕ). n ≤ i) (c.user_count-place-end.ensures edition c.args.owner h s)
    c.loop-place-test.false in
    sym (c.loop-place.invariant edition h s ∙ ap (list_all p) (drop-past i us over))
