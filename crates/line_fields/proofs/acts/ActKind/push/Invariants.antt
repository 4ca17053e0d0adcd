use Rattle.std.proofs.Common.{◌≡◌, ◌++◌, take}
use Rattle.std.specs.List.{flat_map}
use Rattle.line_fields.specs.Acts.{kind_text, after_colon}
use Rattle.line_fields.proofs.acts.ActKind.push.Given as goal

abbrev pub invariant-loop-part : goal.invariant-loop-part
invariant-loop-part l =
    l.out.items ≡ l.fn.out.items ++ (kind_text l.fn.self ++ flat_map after_colon (take l.part-index l.parts))
