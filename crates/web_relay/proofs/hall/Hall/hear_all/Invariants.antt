use Rattle.web_relay.proofs.Vocabulary.{◌-◌, Hall, HallHears, IsHallToHear, Repeats}
use Rattle.web_relay.proofs.hall.Hall.hear_all.Given as goal

abbrev pub invariant-reads : goal.invariant-reads
invariant-reads g l = (new : Hall g.row.S.Denot) → Repeats IsHallToHear (HallHears g.S.WebStream)
    (16 - l.counter) l.self new
    → Repeats IsHallToHear (HallHears g.S.WebStream) 16 l.fn.self new
