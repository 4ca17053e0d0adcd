use Rattle.std.proofs.Common.{◌≡◌, ◌++◌, ◌∙◌, ◌∷◌, [], ℕ, List, Option, ap, map, refl, subst, sym}
use Rattle.std.specs.List.{AllByRecursion}
use Rattle.std.specs.Prelude.{IfSome}
use Rattle.acl.specs.declared.user_id.UserId.{UserId}
use Rattle.trail_confined.specs.Confining.{circle}
use Rattle.trail_confined.specs.declared.why.Question.{Question}
use Rattle.trail_rights.specs.Deciding.{HasDecided, sought_by}
use Rattle.trail_rights.specs.Marks.{marked_after}
use Rattle.trail_rights.specs.Seeing.{HasSeen, sought}
use Rattle.trail_rights.specs.Settling.{HasSettled, setting_by}
use Rattle.trail_rights.specs.declared.sight.Sight.{Sight}
use Rattle.mux_trail.specs.Answers.{acts_of, deciders_for, history_text}
use Rattle.mux_trail.proofs.reading.TrailReading.push_why.Goals as goal

all_first : (owner : UserId) (q : Question) (users : List UserId)
    → AllByRecursion (HasDecided owner []) (deciders_for owner q users)
all_first owner q [] = tt
all_first owner q (u ∷ users) =
    (record { owner_is = refl; listed = refl; there_is = refl; found = refl }, all_first owner q users)

pub returns : goal.returns
returns c = λ edition said w.
    let owner = c.args.self.now.owner in
    let q = c.args.question in
    let who = circle edition (acts_of said) q.user in
    let are : c.in_ok-deciders.deciders.items ≡ deciders_for owner q who = c.in_ok-deciders.ensures
    ∙ ap (deciders_for owner q) (c.as_slice.ensures.value ∙ c.in_ok-users.ensures edition said w) in
    let all = subst (AllByRecursion (HasDecided owner [])) (sym are) (all_first owner q who) in
    let none = subst (AllByRecursion (HasSettled [])) (sym c.new.ensures.items) tt in
    let seen = subst (λ (o : Option Sight). IfSome o (λ s. HasSeen s owner (marked_after [] said))) c.in-Some.is
    (c.in_ok-sight.ensures.seen edition owner said w all none) in
    let looked = subst (λ (o : Option Sight). IfSome o (λ s. sought s
    ≡ (map sought_by c.in_ok-deciders.deciders.items, map setting_by c.new.result.items))) c.in-Some.is
    c.in_ok-sight.ensures.sought in (
      refl,
      record {
        deciders = c.in-Some.sight.deciders.items;
        sought = ap (λ p. p.0) looked ∙ ap (map sought_by) are;
        decided = seen.deciders;
        text = c.in_ok-push_history.ensures
            ∙ ap (λ (out : List ℕ). out ++ history_text owner q.user c.args.self.now.history)
            (c.in_ok-push_reasons.ensures edition (acts_of said) (c.replay.ensures edition owner said w) seen.windows);
      },
    )
