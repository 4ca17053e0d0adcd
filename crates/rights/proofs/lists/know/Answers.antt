use Rattle.rights.proofs.Vocabulary.{◌≡◌, ◌∙◌, ◌∷◌, [], List, true, false, not, ◌&&◌, Some, refl, ap, sym, subst}
use Rattle.rights.proofs.Vocabulary.{is_none, false≢true, All-nil, Known, Object, Edition, UserId, change_fault}
use Rattle.rights.proofs.Vocabulary.{History, among, users_of, there, Table, StandsFor, LocksStandFor, StandsAfter}
use Rattle.acl.specs.Commands.{new_name_fault}
use Rattle.acl.specs.Table.{users_in}
use Rattle.rights.proofs.Standing.{stands_on}
use Rattle.rights.proofs.Redoing.{redo, on_ok, new_alone, know_done}
use Rattle.rights.proofs.lists.know.Goals as goal

pub returns-then-knows : goal.returns-then-knows
returns-then-knows c = λ edition owner h s.
    let u : UserId = c.args.user in
    let known : among (users_of owner h) u ≡ true =
    ap (λ (us : List UserId). among us u) (sym s.acl.users)
    ∙
    (ap (λ (t : Table). among (users_in t) u) (sym c.lists.ensures)
    ∙ (sym c.knows.ensures.listed ∙ c.if-knows.true)) in (
      sym (ap (λ b. not b && is_none (new_name_fault owner (users_of owner h) (Some u))) known),
      λ is. absurd
          (false≢true is),
    )

pub returns : goal.returns
returns c =
    let u : UserId = c.args.user in
    let unknown : (owner : UserId) (h : History) (edition : Edition) → StandsAfter c.args.rights.now edition owner h
    → among (users_of owner h) u ≡ false =
    λ owner h edition s. ap (λ (us : List UserId). among us u) (sym s.acl.users)
    ∙
    (ap (λ (t : Table). among (users_in t) u) (sym c.lists.ensures)
    ∙ (sym c.knows.ensures.listed ∙ c.if-knows.false)) in
    redo c.args.rights.now _ c.change.result c.redone.result (Known u) c.redone.ensures
    (λ edition owner h s. (
      change_fault owner (users_of owner h) (Some u ∷ []),
      c.change.ensures.answer edition owner h s.acl,
      new_alone (among (users_of owner h) u) (new_name_fault owner (users_of owner h) (Some u))
          (unknown owner h edition s),
    ))
    (λ is edition owner h s.
    let done = on_ok c.change.result c.change.ensures.done is edition owner h s.acl
    (All-nil (λ (object : Object). there h object ≡ true)) in
    let all = know_done owner h u (unknown owner h edition s) in
    stands_on c.args.rights.now _ edition owner h (Known u) refl refl refl refl s
    (subst (λ g. StandsFor c.change.new.self edition owner g) all done.stands)
    (subst (λ g. LocksStandFor c.change.new.follower edition owner g) all (done.follower s.locks)))
