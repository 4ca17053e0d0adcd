use Rattle.trail_confined.proofs.Vocabulary.{◌∙◌, ◌++◌, [], ap, flat_map, users_of, acts_in}
use Rattle.trail_confined.proofs.Vocabulary.{commands_text, user_text, window_text}
use Rattle.trail_confined.proofs.Texts.{five_parts, same_text}
use Rattle.trail_confined.specs.Standing.{count_text, masks_of}
use Rattle.trail_rights.specs.Marks.{marked_after}
use Rattle.trail_rights.specs.Windows.{windows_of}
use Rattle.trail_confined.proofs.who.push_rights.Goals as goal

pub returns : goal.returns
returns c = λ edition owner said watched seen.
    let h = acts_in (marked_after [] said) in
    let stands = c.replay-replay.ensures edition owner said watched in
    let out = c.args.out.now.items in
    let known = users_of owner h in
    let settlers = c.args.sight.now.settlers.items in
    let users = c.in_ok-users.ensures edition owner h stands in
    let windows = c.windows.ensures ∙ seen.windows in
    same_text c.push_mask_lines.result _ _ _ c.push_mask_lines.ensures
    (ap (λ l. c.push_all_commands.new.out.items ++ l)
    (ap (λ ss. masks_of ss c.as_slice-4.result.now) c.settlers.ensures
    ∙ ap (masks_of settlers) (c.as_slice-4.ensures.value ∙ users))
    ∙ five_parts out (count_text c.args.watch.now.audit.next) (flat_map (user_text edition h) known)
    (flat_map (window_text edition owner h known) (windows_of h)) (flat_map (commands_text edition owner h) known)
    (masks_of settlers known) _ _ _ _ (c.in_ok-push_count.ensures ∙ ap (λ n. out ++ count_text n) c.count.ensures)
    (c.in_ok-push_users.ensures edition owner h stands
    ∙ ap (λ us. c.push_count.new.out.items ++ flat_map (user_text edition h) us) (c.as_slice.ensures.value ∙ users))
    (c.in_ok-push_windows.ensures edition owner h stands
    ∙ (ap (λ us. c.push_users.new.out.items ++ flat_map (window_text edition owner h us) c.windows.result.now)
    (c.as_slice-2.ensures.value ∙ users)
    ∙ ap (λ ws. c.push_users.new.out.items ++ flat_map (window_text edition owner h known) ws) windows))
    (c.in_ok-push_all_commands.ensures edition owner h stands
    ∙ ap (λ us. c.push_windows.new.out.items ++ flat_map (commands_text edition owner h) us)
    (c.as_slice-3.ensures.value ∙ users)))
