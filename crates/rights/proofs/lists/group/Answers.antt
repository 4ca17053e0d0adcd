use Rattle.rights.proofs.Vocabulary.{◌≡◌, ◌∙◌, ◌∷◌, Some, refl, ap, subst, Answers, chosen_leader, followed_by}
use Rattle.rights.proofs.Vocabulary.{users_of, leaders_of, StandsFor, LocksStandFor, leader_in}
use Rattle.acl.specs.declared.act.Act.TheVariants.{Grouped}
use Rattle.acl.specs.declared.entries.NewLeader.{NewLeader}
use Rattle.acl.specs.Commands.{group_fault, group_acts}
use Rattle.rights.proofs.Standing.{stands_on}
use Rattle.rights.proofs.Redoing.{redo, on_ok, chosen}
use Rattle.rights.proofs.lists.group.Goals as goal

pub returns : goal.returns
returns c =
    let u = c.args.user in
    redo c.args.rights.now _ c.group.result c.redone.result (Grouped u c.args.leader) c.redone.ensures
    (λ edition owner h s. (
      group_fault edition owner (users_of owner h) (leaders_of edition h) (Some u) (leader_in c.args.leader),
      subst
          (λ (l : NewLeader). Answers c.group.result
          (group_fault edition owner (users_of owner h) (leaders_of edition h) (Some u) l)) c.leader_in.ensures
          (c.group.ensures.answer edition owner h s.acl),
      refl,
    ))
    (λ is edition owner h s.
    let done = on_ok c.group.result c.group.ensures.done is edition owner h s.acl in
    let given : followed_by h (group_acts (Some u) c.leader_in.result) ≡ Grouped u c.args.leader ∷ h =
    ap (λ (l : NewLeader). Grouped u (chosen_leader l) ∷ h) c.leader_in.ensures
    ∙ ap (λ l. Grouped u l ∷ h) (chosen c.args.leader) in
    stands_on c.args.rights.now _ edition owner h (Grouped u c.args.leader) refl refl refl refl s
    (subst (λ g. StandsFor c.group.new.self edition owner g) given done.stands)
    (subst (λ g. LocksStandFor c.group.new.follower edition owner g) given (done.follower s.locks)))
