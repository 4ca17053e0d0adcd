use Rattle.std.proofs.Common.{◌≡◌, ◌++◌, ◌-◌, take, replicate}
use Rattle.acl_words.proofs.user_id.UserId.of.Given as goal

-- the bytes before this index are copied, and zeros follow
abbrev pub invariant-loop-i : goal.invariant-loop-i
invariant-loop-i l = l.name ≡ take l.i l.word ++ replicate (20 - l.i) 0
