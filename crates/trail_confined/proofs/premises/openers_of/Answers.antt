use Rattle.trail_confined.proofs.Vocabulary.{◌∙◌, ap, sym, [], slice_index_or, take_more, filter, may_open, take_past}
use Rattle.trail_rights.proofs.Stepping.{keeps_next, leaves_next}
use Rattle.trail_confined.proofs.premises.openers_of.Goals as goal
use Rattle.trail_confined.proofs.premises.openers_of.Goals.{then-may_open+in_ok-push, else-may_open}

pub loop-user-init : goal.loop-user-init
loop-user-init c = λ edition owner h stands. c.new-openers.ensures.items

pub loop-user-preserved : goal.loop-user-preserved
loop-user-preserved c = λ edition owner h stands.
    let users = c.as_slice-user-items.result.now in
    let i = c.loop-user.user-index in
    let x = slice_index_or users i (record { name = [] }) in
    let next = take_more users i _ c.loop-user-test.true in
    let opens = c.may_open.ensures edition owner h stands in
    let before = c.loop-user.invariant edition owner h stands in
    elim c.if-may_open.branch [
      | then-may_open+in_ok-push w ↦ ap (λ v. v.items) w.openers-is ∙ w.in_ok-push.ensures.items
          ∙ keeps_next (may_open edition owner h) users c.loop-user.openers.items i x next
          (sym opens ∙ w.if-may_open.true) before
      | else-may_open w ↦ ap (λ v. v.items) w.openers-is
          ∙ leaves_next (may_open edition owner h) users c.loop-user.openers.items i x next
          (sym opens ∙ w.if-may_open.false) before
    ]

pub returns : goal.returns
returns c = λ edition owner h stands.
    c.loop-user.invariant edition owner h stands
    ∙ ap (filter (may_open edition owner h))
    (take_past c.loop-user.user-index c.as_slice-user-items.result.now c.loop-user-test.false
    ∙ c.as_slice-user-items.ensures.value ∙ c.in_ok-users.ensures edition owner h stands)
