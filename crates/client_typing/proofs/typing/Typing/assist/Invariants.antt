use Rattle.std.proofs.Common.{◌≡◌, ℕ, List, ◌++◌, length}
use Rattle.client_typing.specs.Assisting.{Makes, Standing, at}
use Rattle.client_typing.specs.Following.{IsSet}
use Rattle.client_typing.proofs.typing.Typing.assist.Given as goal

abbrev pub invariant-keys : goal.invariant-keys
invariant-keys l = record {
  sent : List ℕ;
  added : l.out.items ≡ l.fn.out.items ++ sent;
  makes : (more : List ℕ) (last : Standing) → Makes l.page (at l.self) l.rest more last
      → Makes l.page (at l.fn.self) l.fn.keys (sent ++ more) last;
  same : IsSet l.fn.self l.self;
}

abbrev pub decreases-keys : goal.decreases-keys
decreases-keys l = length l.rest
