use Rattle.std.specs.Prelude.{◌≡◌}
use Rattle.server_system.proofs.looks.BegunLook.find.Given as goal

abbrev pub invariant-looks : goal.invariant-looks
invariant-looks g l = l.seen ≡ l.fn.seen
