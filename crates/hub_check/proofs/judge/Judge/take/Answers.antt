use Rattle.hub_check.proofs.Vocabulary.{◌≡◌, ◌∙◌, [], Bool, List, sym, subst, false≢true, IfOk-weaker, Act, Edition}
use Rattle.hub_check.proofs.Vocabulary.{UserId, History, acts_after, StandsAfter, IsJudged}
use Rattle.rights.specs.declared.rights.Rights.{Rights}
use Rattle.rights.specs.Following.{FollowsAll}
use Rattle.hub_check.proofs.Taken.{good_next, acts_next, bad_next}
use Rattle.hub_check.proofs.judge.Judge.take.Goals as goal

stands_for : (rights : Rights) (edition : Edition) (owner mine : UserId) (h : History) → mine ≡ owner
    → StandsAfter rights edition owner h → StandsAfter rights edition mine h
stands_for rights edition owner mine h is s = subst (λ o. StandsAfter rights edition o h) (sym is) s

pub returns-then-not-branch : goal.returns-then-not-branch
returns-then-not-branch c = λ edition owner entries j.
    let e = c.args.entry.now in
    let h = acts_after [] entries in
    let told = c.in_ok-is_legal.ensures edition h
    (stands_for c.args.self.now.rights edition owner c.args.self.now.owner h j.owner_is j.stands) in (
      λ is. absurd (false≢true is),
      λ _ more. bad_next edition owner [] entries e more j.good
          (λ good. false≢true
          (sym c.if-not-branch.true
          ∙ told.1 (subst (λ o. IsJudged edition o h e) (sym j.owner_is) (good.judgeable.there, good.legal)))),
    )

pub returns : goal.returns
returns c = IfOk-weaker c.follow_all.result _ _
    (λ (b : Bool) f edition owner entries j.
    let e = c.args.entry.now in
    let h = acts_after [] entries in
    let told = c.in_ok-is_legal.ensures edition h
    (stands_for c.args.self.now.rights edition owner c.args.self.now.owner h j.owner_is j.stands) in
    let is = subst (λ o. IsJudged edition o h e) j.owner_is (told.0 c.if-not-branch.false) in
    let t = subst (λ (a : List Act). FollowsAll c.args.self.now.rights c.follow_all.new.self b a) c.acts.ensures f
    edition owner h j.stands in (
      λ yes. record {
        owner_is = j.owner_is;
        good = good_next edition owner [] entries e j.good
            (record { judgeable = record { there = is.0; follow = t.0.0 yes }; legal = is.1 });
        stands = subst (λ past. StandsAfter c.follow_all.new.self edition owner past) (sym (acts_next [] entries e))
            (t.1 yes);
      },
      λ no more. bad_next edition owner [] entries e more j.good
          (λ good. false≢true (sym no ∙ t.0.1 good.judgeable.follow)),
    ))
    c.follow_all.ensures
