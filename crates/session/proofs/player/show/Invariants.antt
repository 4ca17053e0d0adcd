use Rattle.session.proofs.Vocabulary.{◌-◌, ◌^◌, Appends, Trace, tables_of, StandsFor}
use Rattle.session.proofs.Rising.{shown_below}
use Rattle.session.proofs.player.show.Given as goal

abbrev pub invariant-clients : goal.invariant-clients
invariant-clients g l = (h : Trace) → StandsFor h l.session
    → Appends (g.W.Write.contents l.fn.writer) (g.W.Write.contents l.writer) (shown_below (tables_of h) l.from)

abbrev pub decreases-clients : goal.decreases-clients
decreases-clients g l = 2 ^ 32 - l.from
