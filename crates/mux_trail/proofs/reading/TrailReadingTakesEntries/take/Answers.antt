use Rattle.std.proofs.Common.{◌≡◌, ◌++◌, ◌∷◌, ◌∙◌, [], List, Option, ap, subst, sym}
use Rattle.acl.specs.declared.leaders.Edition.{Edition}
use Rattle.acl.specs.declared.user_id.UserId.{UserId}
use Rattle.trail_lines.specs.Entries.{Said, said}
use Rattle.trail_log.specs.Choosing.{giver}
use Rattle.trail_log.specs.Naming.{Names, names_with}
use Rattle.trail_rights.specs.Marks.{acts_in, marked_after}
use Rattle.trail_rights.specs.Watching.{HasWatched}
use Rattle.trail_rights.specs.declared.watch.Watch.{Watch}
use Rattle.trail_rights.proofs.Seen.{folds_more}
use Rattle.trail_setup.specs.declared.state.SetupState.{SetupState}
use Rattle.mux_trail.specs.History.{IsNoted, Noted, changed, has_asked, noted}
use Rattle.mux_trail.specs.Reading.{FollowsSaid}
use Rattle.mux_trail.specs.declared.reading.TrailReading.{TrailReading}
use Rattle.mux_trail.specs.declared.words.RightsAsked.{RightsAsked}
use Rattle.mux_trail.proofs.reading.TrailReadingTakesEntries.take.Goals as goal

noted_more : (asked : RightsAsked) (edition : Edition) (owner : UserId) (before : List Said) (x : Said)
    (names more : Names) (n m : Noted) → more ≡ names_with names x
    → m ≡ changed (has_asked asked edition owner (acts_in (marked_after [] (before ++ x ∷ []))) more.1)
    (giver names.0 x.2.event) x n
    → IsNoted asked edition owner before names n → IsNoted asked edition owner (before ++ x ∷ []) more m
noted_more asked edition owner before x names more n m named is so =
    let h = acts_in (marked_after [] (before ++ x ∷ [])) in
    let change = λ (l : Names). changed (has_asked asked edition owner h l.1) (giver names.0 x.2.event) x n in
    subst (λ (k : Noted). IsNoted asked edition owner (before ++ x ∷ []) more k) (sym is)
    (subst (λ (l : Names). IsNoted asked edition owner (before ++ x ∷ []) l (change l)) (sym named)
    (IsNoted.more before x names n so))

pub returns-in_ok-follow-in-Ok : goal.returns-in_ok-follow-in-Ok
returns-in_ok-follow-in-Ok c = λ first edition owner before has.
    let t = c.in-Ok.ensures.tells edition owner before has.watched in
    let x = said c.in-Ok.said in
    let same = c.in_ok-note-in-Ok.ensures.same in
    let h = acts_in (marked_after [] (before ++ x ∷ [])) in
    let more = c.note.new.self.names in
    let change = λ (a : RightsAsked). changed (has_asked a edition owner h more.1)
    (giver c.args.self.now.names.0 x.2.event) x (noted c.args.self.now.history) in
    let changed_so : noted c.note.new.self.history ≡ change first.asked =
    c.in_ok-note-in-Ok.ensures.history edition owner (before ++ x ∷ []) t.watched ∙ ap change has.asked_is in (
      x,
      t.is,
      record {
        owner_is = ap (λ (r : TrailReading). r.owner) same ∙ has.owner_is;
        watched = subst (λ (w : Watch). HasWatched w edition owner (before ++ x ∷ []))
            (sym (ap (λ (r : TrailReading). r.watch) same)) t.watched;
        asked_is = ap (λ (r : TrailReading). r.asked) same ∙ has.asked_is;
        noted_so = noted_more first.asked edition owner before x c.args.self.now.names more
            (noted c.args.self.now.history) (noted c.note.new.self.history) c.in_ok-note-in-Ok.ensures.names
            changed_so has.noted_so;
        first = has.first;
        is_first = has.is_first;
        followed = folds_more FollowsSaid has.first before c.args.self.now.state x c.follow.new.state has.followed
            (subst (λ (s : Option SetupState). FollowsSaid s x c.follow.new.state)
            (ap (λ (r : TrailReading). r.state) same) c.in_ok-follow-in-Ok.ensures);
      },
    )
