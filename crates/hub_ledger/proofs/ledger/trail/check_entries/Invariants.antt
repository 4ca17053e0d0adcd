use Rattle.hub_ledger.proofs.Vocabulary.{take, HasJudged}
use Rattle.hub_ledger.proofs.ledger.trail.check_entries.Given as goal

-- the entries before this one passed
abbrev pub invariant-places : goal.invariant-places
invariant-places l = HasJudged l.judge l.fn.edition l.fn.owner (take l.place l.entries.entries)
