use Rattle.trail_confined.proofs.Vocabulary.{◌∙◌, ◌++◌, ◌∷◌, [], ap, sym, append-nil, append_assoc, not, slice_index_or}
use Rattle.trail_confined.proofs.Vocabulary.{refl, take, take_more, filter, UserId, is_known, users_of, take_past}
use Rattle.trail_rights.proofs.Stepping.{keeps_next, leaves_next}
use Rattle.trail_confined.proofs.premises.users_with.Goals as goal
use Rattle.trail_confined.proofs.premises.users_with.Goals.{then-not-knows+in_ok-push, else-not-knows}

pub loop-user-init : goal.loop-user-init
loop-user-init c = λ edition owner h stands.
    c.in_ok-users.ensures edition owner h stands ∙ sym (append-nil (users_of owner h))

pub loop-user-preserved : goal.loop-user-preserved
loop-user-preserved c = λ edition owner h stands.
    let p = λ (u : UserId). not (is_known owner h u) in
    let known = users_of owner h in
    let others = c.args.others.now in
    let i = c.loop-user.user-index in
    let x = slice_index_or others i (record { name = [] }) in
    let next = take_more others i _ c.loop-user-test.true in
    let before = c.loop-user.invariant edition owner h stands in
    elim c.if-not-knows.branch [
      | then-not-knows+in_ok-push w ↦ ap (λ v. v.items) w.users-is ∙ w.in_ok-push.ensures.items
          ∙ ap (λ l. l ++ x ∷ []) before ∙ append_assoc known (filter p (take i others)) (x ∷ [])
          ∙ ap (λ l. known ++ l) (keeps_next p others _ i x next
          (ap not (sym (c.knows.ensures edition owner h stands)) ∙ ap not w.if-not-knows.true) refl)
      | else-not-knows w ↦ ap (λ v. v.items) w.users-is ∙ before
          ∙ ap (λ l. known ++ l) (leaves_next p others _ i x next
          (ap not (sym (c.knows.ensures edition owner h stands)) ∙ ap not w.if-not-knows.false) refl)
    ]

pub returns : goal.returns
returns c = λ edition owner h stands.
    c.loop-user.invariant edition owner h stands
    ∙ ap (λ us. users_of owner h ++ filter (λ u. not (is_known owner h u)) us)
    (take_past c.loop-user.user-index c.args.others.now c.loop-user-test.false)
