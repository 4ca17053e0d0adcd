use Rattle.std.proofs.Common.{◌≡◌, ◌++◌, take}
use Rattle.std.specs.List.{flat_map}
use Rattle.std.specs.Prelude.{codes}
use Rattle.trail_files.specs.Json.{byte_text}
use Rattle.trail_files.proofs.json.push_string.Given as goal

abbrev pub invariant-loop-byte : goal.invariant-loop-byte
invariant-loop-byte l =
    l.out.items ≡ (l.fn.out.items ++ codes "\"") ++ flat_map byte_text (take l.byte-index l.bytes)
