use Rattle.session_commands.proofs.Vocabulary.{rules, ◌≡◌, ◌∙◌, ap, sym, refl, Option, UserId, named_by, Acl, Answer}
use Rattle.session_commands.proofs.Vocabulary.{acting, unless, on_ok}
use Rattle.acl.specs.declared.entries.NewLeader.{NewLeader}
use Rattle.acl.specs.Commands.{group_acts}
use Rattle.session_model.specs.Naming.{new_leader_of}
use Rattle.session_model.specs.Rights.{group_fault_in}
use Rattle.session_commands.proofs.OnLists.{acted, says_nothing, unless_none, unless_some}
use Rattle.session_commands.proofs.Quiet.{quietly}
use Rattle.session_commands.proofs.access.aclgrp.Goals as goal

pub returns : goal.returns
returns c = quietly ((refl, refl), (says_nothing c.group.result c.answered.result c.answered.ensures, search rules))
    (λ k t st fit passed.
    let name = c.named.result in
    let leader = c.new_leader.result in
    let row : Option UserId → NewLeader → Answer = λ n l.
    unless Acl (group_fault_in t n l) (acting t (group_acts n l)) in
    let same : row (named_by c.args.name.now) (new_leader_of c.args.leader.now) ≡ row name leader =
    ap (λ n. row n (new_leader_of c.args.leader.now)) (sym c.named.ensures)
    ∙ ap (row name) (sym c.new_leader.ensures) in
    acted t (group_acts name leader) c.args.context.now.state.now c.group.new.self c.group.new.follower
    c.args.context.now.made.now _ (row (named_by c.args.name.now) (new_leader_of c.args.leader.now))
    (group_fault_in t name leader) c.group.result c.answered.result c.answered.ensures st
    (λ none. same ∙ unless_none Acl (acting t (group_acts name leader)) _ none)
    (λ f is. same ∙ unless_some Acl (acting t (group_acts name leader)) _ f is)
    (c.group.ensures.answer t.edition t.owner t.acts st.acl) (on_ok c.group.result
    (λ done. done t.edition t.owner t.acts st.acl) c.group.ensures.done) refl)
