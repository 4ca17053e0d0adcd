use Rattle.std.proofs.Common.{◌≡◌, ◌++◌, drop, length}
use Rattle.std.specs.List.{flat_map}
use Rattle.std.specs.Str.{chars}
use Rattle.std.specs.String.{string_bytes}
use Rattle.web_options.specs.Asking.{quoted}
use Rattle.web_options.proofs.options.put_all_quoted.Given as goal

abbrev pub invariant-loop-it : goal.invariant-loop-it
invariant-loop-it l = string_bytes l.fn.keys ++ flat_map quoted (chars l.text)
    ≡ string_bytes l.keys ++ flat_map quoted (drop (length l.yielded) (chars l.text))
