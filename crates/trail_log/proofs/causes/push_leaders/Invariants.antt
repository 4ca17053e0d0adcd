use Rattle.std.proofs.Common.{◌≡◌, ◌++◌, take}
use Rattle.std.specs.List.{flat_map}
use Rattle.session.specs.Texts.{leader_text}
use Rattle.trail_log.proofs.causes.push_leaders.Given as goal

abbrev pub invariant-loop-leader : goal.invariant-loop-leader
invariant-loop-leader l =
    l.out.items ≡ l.fn.out.items ++ flat_map (leader_text l.bit) (take l.leader-index l.leaders)
