use Rattle.session.proofs.Vocabulary.{map, take, Trace, StandsFor, line_of, Behind}
use Rattle.session.proofs.setup_file.set_up.Given as goal

abbrev pub invariant-loop-line : goal.invariant-loop-line
invariant-loop-line l = (h : Trace) → StandsFor h l.fn.session
    → Behind (λ now. StandsFor now l.session) h l.fn.owner (map line_of (take l.line-index l.setup))
