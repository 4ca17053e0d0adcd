use Rattle.std.proofs.Common.{◌≡◌, ℕ, List, [], length, subst, arith}
use Rattle.std.proofs.lemmas.Bool.Decides.{nat_tests}
use Rattle.std.proofs.lemmas.List.{nil_from_length}
use Rattle.terminal_model.specs.Reading.{ready}
use Rattle.emulator.specs.Standing.{HasRead}
use Rattle.rebuild.specs.Rebuilt.{starting_as}
use Rattle.rebuild.proofs.Same.{brought}
use Rattle.rebuild.proofs.judging.judge.Goals as goal

pub returns : goal.returns
returns c =
    let few : length c.feed_all.new.out.items ≡ 0 = grind (arith, nat_tests, c.if-not-is_empty.ensures) in
    let none : c.feed_all.new.out.items ≡ [] = nil_from_length c.feed_all.new.out.items few in
    let read =
    subst
    (λ (before : List ℕ). HasRead (ready (starting_as c.args.of.now)) c.args.bytes.now before c.feed_all.new.self
    c.feed_all.new.out.items)
    c.new-answers.ensures.items (c.in_ok-feed_all.ensures.ok _ c.in_ok-twin.ensures) in
    brought c.args.of.now c.feed_all.new.self c.args.bytes.now c.feed_all.new.out.items read none
    (c.is_same.ensures c.if-not-is_same.false)
