use Rattle.std.proofs.Math.Logic.{∥∥₁_map}
use Rattle.server_trail.proofs.Runs.{put_came}
use Rattle.server_trail.proofs.waiting.WaitingLines.put.Goals as goal

pub invariant_of-self : goal.invariant_of-self
invariant_of-self c = record {
  lines = ∥∥₁_map c.args.self.now.lines (λ h. put_came c.args.self.now.taken c.args.place c.args.line.items
      c.args.self.now.merge c.put.new.self c.put.result c.requires h c.put.ensures.ok c.put.ensures.err);
}
