use Rattle.std.proofs.Common.{map}
use Rattle.std.specs.String.{string_bytes}
use Rattle.web_options.proofs.Origins.{Taken}
use Rattle.web_options.proofs.listening.named_origins.Given as goal

abbrev pub invariant-loop-name : goal.invariant-loop-name
invariant-loop-name l = Taken l.named l.name-index (map string_bytes l.origins.items)
