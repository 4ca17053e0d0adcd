use Rattle.std.proofs.Common.{arith, ap, ◌≤◌}
use Rattle.web_page.specs.Showing.{Sheet, newer}
use Rattle.web_page.proofs.Updating.{needs_none, needs_some, shows_all, stands_still}
use Rattle.web_page.proofs.sheet.Sheet.update.Goals as goal

pub returns-then-since-self-clause-shows : goal.returns-then-since-self-clause-shows
returns-then-since-self-clause-shows c = λ t b w h.
    let bound : c.look.new.self.moment ≤ c.args.since =
    omega (arith, ap (λ (s : Sheet). s.moment) c.self.view_is, c.if-since-self.true) in
    needs_none c.args.self.now c.look.new.self t c.args.since b c.in_ok-look.ensures.looks w bound h

pub returns-then-since-self-clause-then : goal.returns-then-since-self-clause-then
returns-then-since-self-clause-then c = λ t w. (
  stands_still c.args.self.now c.look.new.self t c.in_ok-look.ensures.looks w,
  shows_all c.args.self.now c.look.new.self t c.in_ok-look.ensures.looks w,
)

pub returns-clause-shows : goal.returns-clause-shows
returns-clause-shows c = λ t b w h. (
  record { head = c.look.new.self.head; rows = newer c.args.since 0 c.look.new.self.rows },
  c.in_ok-spell.ensures,
  needs_some c.args.self.now c.look.new.self t c.args.since b c.in_ok-look.ensures.looks w h,
)

pub returns-clause-then : goal.returns-clause-then
returns-clause-then c = λ t w. (
  stands_still c.args.self.now c.look.new.self t c.in_ok-look.ensures.looks w,
  shows_all c.args.self.now c.look.new.self t c.in_ok-look.ensures.looks w,
)
