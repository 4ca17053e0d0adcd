use Rattle.trail_lines.proofs.Vocabulary.{[], Edition, UserId, HasRead}
use Rattle.trail_lines.proofs.Halted.{HasComeTo}
use Rattle.trail_lines.proofs.halt.read_entries.Given as goal

-- the entries so far were read
abbrev pub invariant-loop-number : goal.invariant-loop-number
invariant-loop-number g l = (edition : Edition) (owner : UserId) → HasRead l.fn.audit edition owner []
    → HasComeTo l.fn.audit.times l.audit l.number edition owner (g.R.Read.remaining l.fn.reader)
    (g.R.Read.remaining l.reader)
