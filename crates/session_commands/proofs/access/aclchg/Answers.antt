use Rattle.session_commands.proofs.Vocabulary.{rules, ◌≡◌, ◌∙◌, ap, sym, refl, None, Some, Ok, List}
use Rattle.session_commands.proofs.Vocabulary.{err_from_is_err_and, change_fault, known_users, names_of, objects_of}
use Rattle.session_commands.proofs.Vocabulary.{acting, changes, on_ok}
use Rattle.acl.specs.declared.bits.BitChange.{BitChange}
use Rattle.acl.specs.Commands.{change_acts}
use Rattle.session_model.specs.Commands.{changing_bits}
use Rattle.session_commands.proofs.There.{objects_there}
use Rattle.session_commands.proofs.Naming.{nothing_named}
use Rattle.session_commands.proofs.OnLists.{acted, says_nothing, change_done, change_refused, change_without}
use Rattle.session_commands.proofs.Quiet.{quietly}
use Rattle.session_commands.proofs.access.aclchg.Goals as goal

pub returns-in_err-objects : goal.returns-in_err-objects
returns-in_err-objects c = quietly (search rules) (λ k t st fit passed.
    let names = c.deref.result.now in
    let asked = names_of t c.args.users.now in
    let found = objects_of t c.args.list.now in
    let same : names ≡ asked = c.deref.ensures.value ∙ c.in_ok-names.ensures t st.acl in
    let none = sym (c.change_fault.ensures t.edition t.owner t.acts st.acl) ∙ c.in_default.is in
    let r = c.from_residual-in_err-objects in
    let p = err_from_is_err_and r.result r.ensures.1 in
    rw p.1 (change_without t names asked same found (changing_bits t asked c.args.bits.now) p.0 none
    (nothing_named _ (found ≡ None) _ p.0 p.2 (λ nothing. ap (objects_of t) (sym c.as_slice.ensures) ∙ nothing t
    st.windows) c.in_err-objects.ensures.err)))

pub returns : goal.returns
returns c = quietly ((refl, refl), (says_nothing c.change.result c.answered.result c.answered.ensures, search rules))
    (λ k t st fit passed.
    let names = c.deref-2.result.now in
    let objects = c.deref-3.result.now in
    let bits = c.as_slice-2.result.now in
    let asked = names_of t c.args.users.now in
    let found = objects_of t c.args.list.now in
    let same : names ≡ asked = c.deref-2.ensures.value ∙ c.in_ok-names.ensures t st.acl in
    let at : found ≡ Some objects =
    ap (objects_of t) (sym c.as_slice.ensures) ∙ c.in_ok-objects.ensures.ok t st.windows
    ∙ ap (λ os. Some os) (sym c.deref-3.ensures.value) in
    acted t (change_acts (known_users t) names bits objects) c.args.context.now.state.now c.change.new.self
    c.change.new.follower c.args.context.now.made.now _ (changes t asked found
    (changing_bits t asked c.args.bits.now)) (change_fault t.owner (known_users t) names) c.change.result
    c.answered.result c.answered.ensures st (λ none.
    change_done t names asked same found objects (λ ns. changing_bits t ns c.args.bits.now) at none
    ∙ ap (λ (bs : List BitChange). Ok (acting t (change_acts (known_users t) names bs objects)))
    (sym c.as_slice-2.ensures)) (change_refused t names asked same found (changing_bits t asked c.args.bits.now))
    (c.change.ensures.answer t.edition t.owner t.acts st.acl) (on_ok c.change.result
    (λ done. done t.edition t.owner t.acts st.acl (objects_there t fit.agree c.args.list.now objects at))
    c.change.ensures.done) refl)
