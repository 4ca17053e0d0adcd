use Rattle.session_commands.proofs.Vocabulary.{◌≡◌, ◌++◌, drop, option_map, Tables, objects_of, StandFor}
use Rattle.session_commands.proofs.objects.objects_of.Given as goal

abbrev pub invariant-loop-item : goal.invariant-loop-item
invariant-loop-item l = (t : Tables) → StandFor t.windows l.windows
    → objects_of t l.list
    ≡ option_map (λ more. l.objects.items ++ more) (objects_of t (drop l.item-index l.list))
