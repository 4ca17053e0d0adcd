use Rattle.trail_setup.proofs.Vocabulary.{◌∙◌, ◌++◌, [], ap, append_assoc, slice_index_or, take, flat_map, take_more}
use Rattle.trail_setup.proofs.Vocabulary.{joins_next, leader_line, leader_lines}
use Rattle.trail_setup.proofs.commands.push_leaders.Goals as goal

pub loop-user-preserved : goal.loop-user-preserved
loop-user-preserved c = λ edition owner h stands.
    let text = leader_lines edition h in
    let users = c.args.users.now in
    let out = c.args.out.now.items in
    let i = c.loop-user.user-index in
    let next = take_more users i _ c.loop-user-test.true in
    let u = slice_index_or users i (record { name = [] }) in
    c.in_ok-push_leaders_of.ensures
    ∙ (ap (λ l. c.loop-user.out.items ++ flat_map (leader_line u) l)
    (c.as_slice.ensures.names ∙ c.leaders_of.ensures edition owner h stands)
    ∙ (ap (λ l. l ++ text u) (c.loop-user.invariant edition owner h stands)
    ∙ (append_assoc out (flat_map text (take i users)) (text u)
    ∙ ap (λ l. out ++ l) (joins_next text users i u next))))
