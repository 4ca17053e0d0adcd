use Rattle.trail_setup.proofs.Vocabulary.{take, flat_map, Edition, UserId, History, PutsAll, Stands, known_in, parts_by}
use Rattle.trail_setup.proofs.masks.SetupMasks.push.Given as goal

abbrev pub invariant-loop-by : goal.invariant-loop-by
invariant-loop-by l =
    (edition : Edition) (owner : UserId) (h : History) → Stands l.self.state.now edition owner h
    → PutsAll (flat_map (parts_by l.is_later owner h (known_in l.self) l.start) (take l.by-index l.self.users.now))
    l.fn.out.items l.out.items
