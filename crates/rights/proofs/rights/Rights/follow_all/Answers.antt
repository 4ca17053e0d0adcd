use Rattle.rights.proofs.Vocabulary.{◌≡◌, ◌∙◌, ◌∷◌, refl, ap, sym, subst, false≢true, followed_by, followed_by-append}
use Rattle.rights.proofs.Vocabulary.{CanFollow, Rights, StandsAfter}
use Rattle.std.specs.Prelude.{IfNone, IfSome}
use Rattle.rights.specs.Following.{FollowsFront}
use Rattle.rights.proofs.Running.{follow_append, follow_rest, none_left}
use Rattle.rights.proofs.rights.Rights.follow_all.Goals as goal

pub returns-then-not-branch : goal.returns-then-not-branch
returns-then-not-branch c = λ edition owner h s.
    let i = c.acts.invariant edition owner h s in
    let next = c.in-Some.ensures.cases.0 in
    let same = subst (λ r. IfNone r (c.follow_run.new.rights ≡ c.acts.self)) c.in-None.is c.in_ok-after.ensures.none in
    let stands = subst (λ (r : Rights). StandsAfter r edition owner i.0) (sym same) i.1 in
    let done = c.in_ok-follow-in-None.ensures edition owner i.0 stands in (
      (
        λ is. absurd (false≢true is),
        λ all. sym c.if-not-branch.true ∙ (done.0 ∙ (subst (CanFollow edition owner i.0) next (i.2.0 all)).0),
      ),
      λ is. absurd (false≢true is),
    )

pub returns : goal.returns
returns c = λ edition owner h s.
    let i = c.acts.invariant edition owner h s in
    let none = none_left c.acts.rest.now c.in_default.ensures.cases in (
      (λ is. i.2.1 (subst (CanFollow edition owner i.0) (sym none) tt), λ all. refl),
      λ is. subst (StandsAfter c.acts.self edition owner) (ap (followed_by i.0) (sym none) ∙ i.3) i.1,
    )

pub acts-preserved-in-Some-2 : goal.acts-preserved-in-Some-2
acts-preserved-in-Some-2 c = λ edition owner h s.
    let i = c.acts.invariant edition owner h s in
    let front = subst
    (λ r. IfSome r (λ rest. FollowsFront c.acts.self c.follow_run.new.rights c.acts.rest.now rest.now)) c.in-Some-2.is
    c.in_ok-after.ensures.some in
    let f = front edition owner i.0 i.1 in
    let after = c.in-Some-2.after.now in (
      followed_by i.0 f.0,
      f.3,
      (
        λ all. follow_rest edition owner i.0 f.0 after (subst (CanFollow edition owner i.0) f.1 (i.2.0 all)),
        λ rest. i.2.1
            (subst (CanFollow edition owner i.0) (sym f.1) (follow_append edition owner i.0 f.0 after f.2 rest)),
      ),
      sym (followed_by-append i.0 f.0 after) ∙ (ap (followed_by i.0) (sym f.1) ∙ i.3),
    )

pub acts-preserved : goal.acts-preserved
acts-preserved c = λ edition owner h s.
    let i = c.acts.invariant edition owner h s in
    let next = c.in-Some.ensures.cases.0 in
    let same = subst (λ r. IfNone r (c.follow_run.new.rights ≡ c.acts.self)) c.in-None.is c.in_ok-after.ensures.none in
    let stands = subst (λ (r : Rights). StandsAfter r edition owner i.0) (sym same) i.1 in
    let done = c.in_ok-follow-in-None.ensures edition owner i.0 stands in (
      c.in-Some.act.now ∷ i.0,
      done.1 c.if-not-branch.false,
      (
        λ all. (subst (CanFollow edition owner i.0) next (i.2.0 all)).1,
        λ rest. i.2.1 (subst (CanFollow edition owner i.0) (sym next) (sym done.0 ∙ c.if-not-branch.false, rest)),
      ),
      ap (followed_by i.0) (sym next) ∙ i.3,
    )
