use Rattle.std.proofs.Common.{◌≡◌, drop}
use Rattle.trail_log.specs.Naming.{follow_all}
use Rattle.trail_log.proofs.names.Names.follow_all.Given as goal

-- the acts that are left, after those so far
abbrev pub invariant-loop-act : goal.invariant-loop-act
invariant-loop-act l = follow_all (drop l.act-index l.acts) l.self ≡ follow_all l.acts l.fn.self
