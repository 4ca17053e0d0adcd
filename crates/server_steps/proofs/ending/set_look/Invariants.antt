use Rattle.std.proofs.Common.{◌≡◌, ◌-◌}
use Rattle.server_steps.specs.Ending.{EachKey, seen_at}
use Rattle.server_steps.proofs.ending.set_look.Given as goal

-- whatever the rest of the keys makes of it, all of them do
abbrev pub invariant-keys : goal.invariant-keys
invariant-keys g l = (new : _)
    → EachKey (λ key old new. new ≡ seen_at l.fn.look key old) (l.key-end - l.key) l.key l.connections new
    → EachKey (λ key old new. new ≡ seen_at l.fn.look key old) l.key-end 0 l.fn.connections new
