use Rattle.trail_setup.proofs.Vocabulary.{◌≡◌, ◌∙◌, [], List, ap, subst, OnOk, UserId, users_of, PutsAll}
use Rattle.trail_rights.specs.Marks.{acts_in, marked_after}
use Rattle.trail_setup.specs.Setup.{others_of, parts_for}
use Rattle.trail_setup.proofs.Listing.{all_listed}
use Rattle.trail_setup.proofs.setup.push_setup.Goals as goal

pub returns : goal.returns
returns c = λ edition owner said h watched stands.
    let acts = acts_in (marked_after [] said) in
    let after = c.replay-replay.ensures edition owner said watched in
    let are : c.in_ok-users.users.items ≡ users_of owner acts = c.in_ok-users.ensures edition owner acts after in
    let known : c.as_slice.result.now ≡ users_of owner acts = c.as_slice.ensures.value ∙ are in
    let others : c.others_of-others.result.now ≡ others_of (users_of owner acts) = c.others_of-others.ensures
    ∙ ap others_of (c.as_slice-2.ensures.value ∙ are) in
    let start = c.args.out.now.items in
    let end = c.push_later.new.out.items in
    subst (λ (us : List UserId). OnOk c.push_later.result
    (PutsAll (parts_for edition owner acts h (record { state = c.args.state.now; users = us })
    (others_of (users_of owner acts))) start end)) known
    (subst (λ (os : List UserId). OnOk c.push_later.result
    (PutsAll (parts_for edition owner acts h (record {
      state = c.args.state.now;
      users = c.as_slice.result.now;
    }) os) start end)) others
    (all_listed c.push_later.result edition owner acts h (record {
      state = c.args.state.now;
      users = c.as_slice.result.now;
    }) c.others_of-others.result.now start c.push_users.new.out.items c.push.new.out.items c.push_leaders.new.out.items
    c.push_commands.new.out.items c.push_state.new.out.items end c.in_ok-push_users.ensures
    (c.in_ok-push.ensures edition owner h stands) (c.in_ok-push_leaders.ensures edition owner acts after)
    (c.in_ok-push_commands.ensures edition owner h stands.0) c.in_ok-push_state.ensures
    (c.push_later.ensures edition owner h stands)))
