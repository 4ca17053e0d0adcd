use Rattle.session_commands.proofs.Vocabulary.{rules, ◌≡◌, ◌∙◌, ◌++◌, ap, subst, sym, refl, true, Some, change_fault}
use Rattle.session_commands.proofs.Vocabulary.{there, known_users, names_of, every_window, every_command, changes}
use Rattle.session_commands.proofs.Vocabulary.{on_ok}
use Rattle.std.specs.List.{All}
use Rattle.acl.specs.Commands.{add_acts}
use Rattle.session_model.specs.Rights.{add_acts_in}
use Rattle.session_commands.proofs.There.{all_there}
use Rattle.session_commands.proofs.OnLists.{acted, says_nothing, change_done, change_refused}
use Rattle.session_commands.proofs.Quiet.{quietly}
use Rattle.session_commands.proofs.access.acladd.Goals as goal

pub returns : goal.returns
returns c = quietly ((refl, refl), (says_nothing c.add.result c.answered.result c.answered.ensures, search rules))
    (λ k t st fit passed.
    let names = c.deref.result.now in
    let objects = c.deref-2.result.now in
    let asked = names_of t c.args.users.now in
    let all = every_window t ++ every_command in
    let same : names ≡ asked = c.deref.ensures.value ∙ c.in_ok-names.ensures t st.acl in
    let found : objects ≡ all = c.deref-2.ensures.value ∙ c.in_ok-objects.ensures t st.windows in
    let at : Some all ≡ Some objects = ap (λ os. Some os) (sym found) in
    acted t (add_acts (known_users t) names objects) c.args.context.now.state.now c.add.new.self c.add.new.follower
    c.args.context.now.made.now _ (changes t asked (Some all) (add_acts_in t asked))
    (change_fault t.owner (known_users t) names) c.add.result c.answered.result c.answered.ensures st
    (change_done t names asked same (Some all) objects (add_acts_in t) at)
    (change_refused t names asked same (Some all) (add_acts_in t asked))
    (c.add.ensures.answer t.edition t.owner t.acts st.acl) (on_ok c.add.result
    (λ done. done t.edition t.owner t.acts st.acl (subst (All (λ o. there t.acts o ≡ true)) (sym found)
    (all_there t fit.agree))) c.add.ensures.done) refl)
