use Rattle.std.proofs.Common.{◌≡◌, ◌++◌, ◌∙◌, [], ℕ, List, Option, ap, map, refl, subst, sym}
use Rattle.std.specs.List.{AllByRecursion, flat_map}
use Rattle.std.specs.Prelude.{IfSome}
use Rattle.acl.specs.History.{users_of}
use Rattle.trail_confined.specs.Standing.{rights_text}
use Rattle.trail_rights.specs.Deciding.{HasDecided, sought_by}
use Rattle.trail_rights.specs.Marks.{marked_after}
use Rattle.trail_rights.specs.Masking.{settings_of}
use Rattle.trail_rights.specs.Seeing.{HasSeen, sought}
use Rattle.trail_rights.specs.Settling.{setting_by}
use Rattle.trail_rights.specs.declared.decider.Decider.{Decider}
use Rattle.trail_rights.specs.declared.settler.RightsSetting.{RightsSetting}
use Rattle.trail_rights.specs.declared.sight.Sight.{Sight}
use Rattle.mux_trail.specs.Answers.{acts_of, title_text}
use Rattle.mux_trail.proofs.reading.TrailReading.push_who.Goals as goal

pub returns : goal.returns
returns c = λ edition said w.
    let r = c.args.self.now in
    let h = acts_of said in
    let known = c.as_slice.ensures.value
    ∙ c.in_ok-users.ensures edition r.owner h (c.replay.ensures edition r.owner said w) in
    let none = subst (AllByRecursion (HasDecided r.owner [])) (sym c.new.ensures.items) tt in
    let seen = subst (λ (o : Option Sight). IfSome o (λ s. HasSeen s r.owner (marked_after [] said))) c.in-Some.is
    (c.in_ok-sight.ensures.seen edition r.owner said w none c.in_ok-settlers.ensures.settled) in
    let looked = subst (λ (o : Option Sight). IfSome o (λ s. sought s
    ≡ (map sought_by c.new.result.items, map setting_by c.in_ok-settlers.settlers.items))) c.in-Some.is
    c.in_ok-sight.ensures.sought in (
      refl,
      record {
        sight = c.in-Some.sight;
        seen = seen;
        looked = looked
            ∙ (ap (λ (ds : List Decider). (map sought_by ds, map setting_by c.in_ok-settlers.settlers.items))
            c.new.ensures.items
            ∙ ap (λ (ss : List RightsSetting). (map sought_by [], ss))
            (c.in_ok-settlers.ensures.sought ∙ ap settings_of known));
        text = c.in_ok-push_rights.ensures edition r.owner said w seen
            ∙ ap (λ (out : List ℕ). out
            ++ rights_text edition r.owner h r.watch.audit.next c.in-Some.sight.settlers.items)
            (c.in_ok-push_titles.ensures ∙ ap (λ ts. c.args.out.now.items ++ flat_map title_text ts) c.titles.ensures);
      },
    )
