use Rattle.std.proofs.Common.{◌≡◌, ◌≤◌, take, length}
use Rattle.acl_words.specs.Leaders.{remaining_leaders}
use Rattle.acl_words.proofs.leaders.Leaders.without.Given as goal

-- the leaders before this index, without the one who is gone
abbrev pub invariant-loop-leader : goal.invariant-loop-leader
invariant-loop-leader l = (l.left ≡ remaining_leaders l.gone (take l.leader-index l.fn.self))
    × (length l.left ≤ l.leader-index)
