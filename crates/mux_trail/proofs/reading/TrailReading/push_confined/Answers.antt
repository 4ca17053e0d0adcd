use Rattle.std.proofs.Common.{◌≡◌, ◌++◌, ◌∙◌, ◌∷◌, [], List, Option, ap, map, refl, subst, sym}
use Rattle.std.specs.List.{AllByRecursion, flat_map}
use Rattle.std.specs.Prelude.{IfSome}
use Rattle.std.specs.declared.alloc.Global.{Global}
use Rattle.std.specs.declared.vec.Vec.{Vec}
use Rattle.acl.specs.declared.user_id.UserId.{UserId}
use Rattle.trail_confined.specs.Confining.{failing_of, users_with}
use Rattle.trail_confined.specs.Telling.{confinement_text, deciders_of_one}
use Rattle.trail_confined.specs.declared.premises.Premise.{Premise}
use Rattle.trail_rights.specs.Deciding.{HasDecided, sought_by}
use Rattle.trail_rights.specs.Marks.{marked_after}
use Rattle.trail_rights.specs.Masking.{settings_of}
use Rattle.trail_rights.specs.Seeing.{HasSeen, sought}
use Rattle.trail_rights.specs.Settling.{setting_by}
use Rattle.trail_rights.specs.declared.decider.Decider.{Decider}
use Rattle.trail_rights.specs.declared.settler.RightsSetting.{RightsSetting}
use Rattle.trail_rights.specs.declared.sight.Sight.{Sight}
use Rattle.mux_trail.specs.Answers.{acts_of, confined_status}
use Rattle.mux_trail.specs.Asking.{users_named}
use Rattle.mux_trail.proofs.reading.TrailReading.push_confined.Goals as goal

all_first : (owner : UserId) (users : List UserId)
    → AllByRecursion (HasDecided owner []) (flat_map (deciders_of_one owner) users)
all_first owner [] = tt
all_first owner (u ∷ users) = (
  record { owner_is = refl; listed = refl; there_is = refl; found = refl },
  (
    record { owner_is = refl; listed = refl; there_is = refl; found = refl },
    (
      record { owner_is = refl; listed = refl; there_is = refl; found = refl },
      (
        record { owner_is = refl; listed = refl; there_is = refl; found = refl },
        (
          record { owner_is = refl; listed = refl; there_is = refl; found = refl },
          (
            record { owner_is = refl; listed = refl; there_is = refl; found = refl },
            all_first owner users,
          ),
        ),
      ),
    ),
  ),
)

pub returns : goal.returns
returns c = λ edition said w.
    let owner = c.args.self.now.owner in
    let h = acts_of said in
    let named = users_named c.args.names.now in
    let stands = c.replay-replay.ensures edition owner said w in
    let users : c.in_ok-users.users.items ≡ users_with owner h named = c.in_ok-users.ensures edition owner h stands
    ∙ ap (users_with owner h) (c.as_slice.ensures.value ∙ c.in_ok-confined.ensures) in
    let all = subst (AllByRecursion (HasDecided owner [])) (sym c.in_ok-deciders.ensures)
    (all_first owner c.as_slice-2.result.now) in
    let seen = subst (λ (o : Option Sight). IfSome o (λ s. HasSeen s owner (marked_after [] said))) c.in-Some.is
    (c.in_ok-sight.ensures.seen edition owner said w all c.in_ok-settlers.ensures.settled) in
    let looked = subst (λ (o : Option Sight). IfSome o (λ s. sought s
    ≡ (map sought_by c.in_ok-deciders.deciders.items, map setting_by c.in_ok-settlers.settlers.items))) c.in-Some.is
    c.in_ok-sight.ensures.sought in
    let fail : c.in-Some-2.failing.items ≡ failing_of edition owner h named = subst
    (λ (o : Option (Vec Premise Global)). IfSome o (λ f. f.items ≡ failing_of edition owner h named)) c.in-Some-2.is
    (subst (λ (us : List UserId). IfSome c.in_ok-failing.field-0 (λ f. f.items ≡ failing_of edition owner h us))
    (c.as_slice-4.ensures.value ∙ c.in_ok-confined.ensures)
    (c.in_ok-failing.ensures.failing edition owner (marked_after [] said) stands seen)) in
    record {
      sight = c.in-Some.sight;
      seen = seen;
      looked = looked
          ∙ (ap (λ (ds : List Decider). (map sought_by ds, map setting_by c.in_ok-settlers.settlers.items))
          (c.in_ok-deciders.ensures ∙ ap (flat_map (deciders_of_one owner)) (c.as_slice-2.ensures.value ∙ users))
          ∙ ap (λ (ss : List RightsSetting). (
            map sought_by (flat_map (deciders_of_one owner) (users_with owner h named)),
            ss,
          )) (c.in_ok-settlers.ensures.sought ∙ ap settings_of (c.as_slice-3.ensures.value ∙ users)));
      text = c.in_ok-push_confinement.ensures edition h stands
          ∙ ap (λ (fs : List Premise). c.args.out.now.items ++ confinement_text edition owner h c.in-Some.sight fs)
          (c.as_slice-5.ensures.value ∙ fail);
      status_is = c.confined_status.ensures ∙ ap confined_status (c.as_slice-6.ensures.value ∙ fail);
    }
