use Rattle.std.proofs.Common.{◌≡◌, ◌<◌, ◌∙◌, [], ℕ, List, Option, ap, false, length, subst, sym}
use Rattle.std.proofs.lemmas.Bool.{false≢true}
use Rattle.std.specs.Prelude.{IfSome}
use Rattle.acl.specs.declared.leaders.Edition.{Edition}
use Rattle.acl.specs.declared.user_id.UserId.{UserId}
use Rattle.trail_files.specs.Finishing.{Finishes, is_bad}
use Rattle.trail_files.specs.declared.check.Finish.{Finish}
use Rattle.trail_lines.specs.Entries.{Said}
use Rattle.trail_lines.specs.declared.halt.Halt.{Halt}
use Rattle.trail_lines.specs.declared.halt.Halt.TheVariants as halt
use Rattle.trail_rights.specs.Watching.{HasWatched}
use Rattle.mux_trail.specs.Answers.{Answers, IsAsked}
use Rattle.mux_trail.specs.Reading.{HasRead, IsFileRead, TakesAll}
use Rattle.mux_trail.specs.declared.reading.TrailReading.{TrailReading}
use Rattle.mux_trail.specs.declared.words.Limits.{Limits}
use Rattle.mux_trail.specs.declared.words.RightsAsked.{RightsAsked}
use Rattle.mux_trail.proofs.ask.ask.Goals as goal

-- if nothing is wrong in a file, its entries were taken
taken : (After : List Said → Type 0) (f : Finish) (h : Halt) (n : ℕ) (line : List ℕ) (edition : Edition)
    (owner : UserId) (said : List Said) (behind : Option (List ℕ)) → is_bad f ≡ false → Finishes f h n line behind
    → TakesAll After h line edition owner said → After said
taken After f halt.Nothing n line edition owner said behind fine ends takes = takes
taken After f halt.Torn n line edition owner said behind fine ends takes = takes
taken After f (halt.Last number) n line edition owner said behind fine ends takes = takes
taken After f (halt.Stopped number w) n line edition owner said behind fine ends takes =
    absurd (false≢true (sym fine ∙ ap is_bad ends))

-- before the first entry, and what is asked is what was asked then
fresh : (r : TrailReading) (asked : RightsAsked) (edition : Edition) (owner : UserId)
    → HasRead r asked edition owner [] → HasRead r r.asked edition owner []
fresh r asked edition owner has = subst (λ (a : RightsAsked). HasRead r a edition owner []) (sym has.asked_is) has

of_asked : (r : TrailReading) (first asked : RightsAsked) (edition : Edition) (owner : UserId) (f : Finish)
    (limits : Limits) (bytes : Option (List ℕ)) → first ≡ asked
    → IsFileRead (HasRead r first edition owner) f limits edition owner bytes
    → IsFileRead (HasRead r asked edition owner) f limits edition owner bytes
of_asked r first asked edition owner f limits bytes is read =
    subst (λ (a : RightsAsked). IsFileRead (HasRead r a edition owner) f limits edition owner bytes) is read

pub returns-then-is_bad : goal.returns-then-is_bad
returns-then-is_bad g c =
    let edition = c.in_ok-heading.heading.edition in
    let owner = c.unwrap_or-owner.result in
    let before = c.in_ok-reading.ensures in
    let rest = g.R.Read.remaining c.heading_of.new.reader in (
      c.in_ok-heading.heading,
      rest,
      c.in_ok-heading.ensures,
      subst (λ (u : UserId). IsAsked g.W.Write.contents c.args.asked c.args.limits c.in_ok-status.status
          c.args.output.now c.tell_finish.new.output edition u rest) c.unwrap_or-owner.ensures
          (record {
            reading = c.take_file.new.taker;
            finish = c.in_ok-finish.finish;
            read = of_asked c.take_file.new.taker c.in_ok-reading.reading.asked c.args.asked edition owner
                c.in_ok-finish.finish c.args.limits rest before.asked_is
                (c.in_ok-finish.ensures edition owner (fresh c.in_ok-reading.reading c.args.asked edition owner before));
            bad = λ is. c.in_ok-status.ensures.status;
            good = λ is. absurd (false≢true (sym is ∙ (sym c.is_bad.ensures ∙ c.if-is_bad.true)));
          }),
    )

pub returns-in-Some : goal.returns-in-Some
returns-in-Some g c =
    let edition = c.in_ok-heading.heading.edition in
    let owner = c.unwrap_or-owner.result in
    let r = c.take_file.new.taker in
    let f = c.in_ok-finish.finish in
    let rest = g.R.Read.remaining c.heading_of.new.reader in
    let fine : is_bad f ≡ false = sym c.is_bad.ensures ∙ c.if-is_bad.false in
    let before = c.in_ok-reading.ensures in
    let read = of_asked r c.in_ok-reading.reading.asked c.args.asked edition owner f c.args.limits rest before.asked_is
    (c.in_ok-finish.ensures edition owner (fresh c.in_ok-reading.reading c.args.asked edition owner before)) in
    let said = read.taken.said in
    let has = taken (HasRead r c.args.asked edition owner) f read.halt_is (length said) read.line edition owner said read.behind fine
    read.finishes read.taken.takes in
    let w = subst (λ (u : UserId). HasWatched r.watch edition u said) (sym has.owner_is) has.watched in
    let answers = subst (λ (o : Option ℕ). IfSome o (λ status. Answers g.W.Write.contents c.args.asked edition r
    said status c.args.output.now c.answer.new.output)) c.in-Some.is (c.in_ok-status-2.ensures edition said w) in
    let there = subst (λ (n : ℕ). IfSome c.args.limits.last (λ place. place < n)) c.count-count.ensures
    c.in_ok-is_there.ensures in (
      c.in_ok-heading.heading,
      rest,
      c.in_ok-heading.ensures,
      subst (λ (u : UserId). IsAsked g.W.Write.contents c.args.asked c.args.limits c.in-Some.status
          c.args.output.now c.answer.new.output edition u rest) c.unwrap_or-owner.ensures
          (record {
            reading = r;
            finish = f;
            read = read;
            bad = λ is. absurd (false≢true (sym fine ∙ is));
            good = λ is. (there, answers);
          }),
    )
