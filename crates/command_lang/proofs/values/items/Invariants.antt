use Rattle.std.proofs.Common.{◌≡◌, map}
use Rattle.command_lang.proofs.values.items.Given as goal

abbrev pub invariant-loop-item : goal.invariant-loop-item
invariant-loop-item l = map (λ x. x.now) l.yielded ≡ l.items
