use Rattle.std.proofs.Common.{subst}
use Rattle.trail_files.specs.Finishing.{IsJudged}
use Rattle.mux_trail.proofs.program.check.Goals as goal

pub returns : goal.returns
returns g c = (
  c.in_ok-heading.heading,
  g.R.Read.remaining c.heading_of.new.reader,
  c.in_ok-heading.ensures,
  subst (λ owner. IsJudged c.in_ok-status.status c.in_ok-heading.heading.edition owner
      (g.R.Read.remaining c.heading_of.new.reader)) c.unwrap_or-owner.ensures c.in_ok-status.ensures.judged,
)
