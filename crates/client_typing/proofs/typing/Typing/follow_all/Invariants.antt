use Rattle.std.proofs.Common.{ℕ, List, ◌++◌, take}
use Rattle.keys.specs.Kept.{StandsFor}
use Rattle.client_typing.specs.Following.{StaysBeside}
use Rattle.client_typing.proofs.typing.Typing.follow_all.Given as goal

abbrev pub invariant-keys : goal.invariant-keys
invariant-keys l = record {
  follows : (before : List ℕ) → StandsFor l.fn.self.keys before
      → StandsFor l.self.keys (before ++ take l.key-index l.keys);
  same : StaysBeside l.fn.self l.self;
}
