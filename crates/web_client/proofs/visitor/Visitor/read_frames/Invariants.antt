use Rattle.std.proofs.Common.{◌≤◌, ◌-◌, length}
use Rattle.web_client.specs.Asking.{Asks}
use Rattle.web_client.specs.Frames.{page, page_after, Leaves}
use Rattle.web_client.proofs.Frames.{Went}
use Rattle.web_client.proofs.visitor.Visitor.read_frames.Given as goal

abbrev pub invariant-frames : goal.invariant-frames
invariant-frames l = record {
  went : Went l.site.watcher l.count (page l.fn.self) (page_after l.taken l.self);
  within : l.taken ≤ length l.self.input.items;
  few : l.count ≤ 64;
  asks : Asks l.fn.self.identity l.self.identity;
  leaves : Leaves l.fn.self l.self;
}

abbrev pub decreases-frames : goal.decreases-frames
decreases-frames l = 64 - l.count
