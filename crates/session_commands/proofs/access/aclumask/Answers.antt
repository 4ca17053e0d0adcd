use Rattle.session_commands.proofs.Vocabulary.{rules, ◌≡◌, ◌∙◌, ap, sym, refl, List, Acl, known_users, mask_entries}
use Rattle.session_commands.proofs.Vocabulary.{Answer, acting, unless, on_ok}
use Rattle.acl.specs.declared.entries.MaskEntry.{MaskEntry}
use Rattle.acl.specs.Commands.{mask_fault, mask_acts}
use Rattle.session_commands.proofs.OnLists.{acted, says_nothing, unless_none, unless_some}
use Rattle.session_commands.proofs.Quiet.{quietly}
use Rattle.session_commands.proofs.access.aclumask.Goals as goal

pub returns : goal.returns
returns c = quietly ((refl, refl), (says_nothing c.mask.result c.answered.result c.answered.ensures, search rules))
    (λ t st fit passed.
    let entries = c.deref.result.now in
    let by = c.args.caller.user in
    let row : List MaskEntry → Answer = λ es.
    unless Acl (mask_fault t.owner (known_users t) es) (acting t (mask_acts by es)) in
    let same : row (mask_entries t c.args.masks.now) ≡ row entries =
    ap row (ap (mask_entries t) (sym c.as_slice.ensures) ∙ sym (c.in_ok-entries.ensures t st.acl)
    ∙ sym c.deref.ensures.value) in
    acted t (mask_acts by entries) c.args.context.now.state.now c.mask.new.self c.mask.new.follower
    c.args.context.now.made.now _ (row (mask_entries t c.args.masks.now)) (mask_fault t.owner (known_users t) entries)
    c.mask.result c.answered.result c.answered.ensures st (λ none. same ∙ unless_none Acl
    (acting t (mask_acts by entries)) _ none) (λ f is. same ∙ unless_some Acl (acting t (mask_acts by entries)) _ f
    is) (c.mask.ensures.answer t.edition t.owner t.acts st.acl) (on_ok c.mask.result
    (λ done. done t.edition t.owner t.acts st.acl) c.mask.ensures.done) refl)
