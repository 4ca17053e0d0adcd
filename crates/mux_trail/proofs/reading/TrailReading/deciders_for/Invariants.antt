use Rattle.std.proofs.Common.{◌≡◌, take}
use Rattle.mux_trail.specs.Answers.{deciders_for}
use Rattle.mux_trail.proofs.reading.TrailReading.deciders_for.Given as goal

abbrev pub invariant-loop-user : goal.invariant-loop-user
invariant-loop-user l = l.deciders.items ≡ deciders_for l.self.owner l.asked (take l.user-index l.users)
