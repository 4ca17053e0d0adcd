use Rattle.std.proofs.Common.{[]}
use Rattle.trail_rights.proofs.sight.Sight.of.Goals as goal

pub returns-clause-seen : goal.returns-clause-seen
returns-clause-seen c = λ owner decided settled.
    c.in_ok-follow_all.ensures.sees owner [] (record {
      windows = c.new.ensures.items;
      deciders = decided;
      settlers = settled;
    })
