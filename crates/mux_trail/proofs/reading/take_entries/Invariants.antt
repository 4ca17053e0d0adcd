use Rattle.std.proofs.Common.{◌≡◌, ◌+◌, ◌≤◌, [], List, length}
use Rattle.acl.specs.declared.leaders.Edition.{Edition}
use Rattle.acl.specs.declared.user_id.UserId.{UserId}
use Rattle.trail_lines.specs.Entries.{Said}
use Rattle.trail_lines.specs.Halting.{AreRead}
use Rattle.trail_lines.specs.Lines.{OfKnown}
use Rattle.mux_trail.proofs.reading.take_entries.Given as goal

-- the entries before the line of this number were taken
abbrev pub invariant-loop-number : goal.invariant-loop-number
invariant-loop-number g l =
    (edition : Edition) (owner : UserId) → g.T.TakesEntries.has_taken l.fn.taker l.fn.taker edition owner []
    → (said : List Said) × g.T.TakesEntries.has_taken l.fn.taker l.taker edition owner said
    × (l.number ≡ length said + 2) × (length said ≤ l.last + 1)
    × OfKnown (g.R.Read.remaining l.fn.reader) (g.R.Read.remaining l.reader) (AreRead said)
