use Rattle.std.proofs.Common.{◌≡◌, ◌++◌, drop}
use Rattle.std.specs.List.{flat_map}
use Rattle.std.specs.String.{string_bytes}
use Rattle.web_page.specs.Updates.{next_number}
use Rattle.web_page.proofs.line.put_numbers.Given as goal

abbrev pub invariant-loop-number : goal.invariant-loop-number
invariant-loop-number l = string_bytes l.out ++ flat_map next_number (drop l.number-index l.numbers)
    ≡ string_bytes l.fn.out ++ flat_map next_number l.numbers
