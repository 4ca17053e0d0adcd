use Rattle.std.proofs.Common.{◌≡◌, ◌++◌, map, take}
use Rattle.acl.specs.declared.act.Object.TheVariants.{Command}
use Rattle.session_commands.proofs.objects.push_commands.Given as goal

abbrev pub invariant-loop-name : goal.invariant-loop-name
invariant-loop-name l =
    l.objects.items
    ≡ l.fn.objects.items ++ map Command (take l.name-index l.names)
