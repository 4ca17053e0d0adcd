use Rattle.rights.proofs.Vocabulary.{◌≡◌, ◌∙◌, ◌∷◌, [], true, ◌&&◌, Some, refl, ap, sym, subst, length, All, false≢true}
use Rattle.rights.proofs.Vocabulary.{All-cons, All-nil, Set, Object, Edition, OwnerKept, TooManyUsers, UnknownUser}
use Rattle.rights.proofs.Vocabulary.{UserId, change_fault, History, among, users_of, there, same_user, StandsFor}
use Rattle.rights.proofs.Vocabulary.{LocksStandFor, StandsAfter, is_nameable}
use Rattle.std.proofs.Common.{nat_lt}
use Rattle.rights.proofs.Standing.{stands_on}
use Rattle.rights.proofs.Redoing.{redo, on_ok, changeable, listed, set_done, both}
use Rattle.rights.proofs.lists.set.Goals as goal

pub returns-then-not-is_nameable : goal.returns-then-not-is_nameable
returns-then-not-is_nameable c = λ edition owner h s. (
  sym (ap (λ b. b && there h c.args.object)
      (sym (c.is_nameable.ensures edition owner h s) ∙ c.if-not-is_nameable.true)),
  λ is. absurd (false≢true is),
)

pub returns-then-not-is_there : goal.returns-then-not-is_there
returns-then-not-is_there c = λ edition owner h s. (
  sym (ap (λ b. b && there h c.args.object) (sym (c.is_nameable.ensures edition owner h s) ∙ c.if-not-is_nameable.false)
      ∙ (sym (c.is_there.ensures edition owner h s) ∙ c.if-not-is_there.true)),
  λ is. absurd (false≢true is),
)

pub returns : goal.returns
returns c =
    let u : UserId = c.args.user in
    let can : (edition : Edition) (owner : UserId) (h : History) → StandsAfter c.args.rights.now edition owner h
    → is_nameable owner h u ≡ true =
    λ edition owner h s. sym (c.is_nameable.ensures edition owner h s) ∙ c.if-not-is_nameable.false in
    let here : (edition : Edition) (owner : UserId) (h : History) → StandsAfter c.args.rights.now edition owner h
    → there h c.args.object ≡ true =
    λ edition owner h s. sym (c.is_there.ensures edition owner h s) ∙ c.if-not-is_there.false in
    redo c.args.rights.now _ c.change.result c.redone.result (Set u c.args.bit c.args.object c.args.value)
    c.redone.ensures
    (λ edition owner h s. (
      change_fault owner (users_of owner h) (Some u ∷ []),
      c.change.ensures.answer edition owner h s.acl,
      changeable OwnerKept UnknownUser OwnerKept TooManyUsers (same_user owner u) (among (users_of owner h) u)
          (nat_lt (length (users_of owner h)) 64) (can edition owner h s)
          ∙ sym (both (is_nameable owner h u) (there h c.args.object) (can edition owner h s) (here edition owner h s)),
    ))
    (λ is edition owner h s.
    let known = listed OwnerKept UnknownUser OwnerKept TooManyUsers (same_user owner u) (among (users_of owner h) u)
    (can edition owner h s) in
    let all : All (λ object. there h object ≡ true) (c.args.object ∷ []) =
    All-cons (λ object. there h object ≡ true) c.args.object [] (here edition owner h s)
    (All-nil (λ (object : Object). there h object ≡ true)) in
    let done = on_ok c.change.result c.change.ensures.done is edition owner h s.acl all in
    let given = set_done owner h u c.args.bit c.args.object c.args.value known in
    stands_on c.args.rights.now _ edition owner h (Set u c.args.bit c.args.object c.args.value) refl refl refl refl s
    (subst (λ g. StandsFor c.change.new.self edition owner g) given done.stands)
    (subst (λ g. LocksStandFor c.change.new.follower edition owner g) given (done.follower s.locks)))
