use Rattle.std.proofs.Common.{◌≡◌, ◌≤◌, ◌++◌, length, take, drop, ◌-◌}
use Rattle.server_sending.specs.Written.{AreWithin, frames_of_others, without_frames}
use Rattle.server_sending.proofs.typists.drop_frames.Given as goal

abbrev pub invariant-frames : goal.invariant-frames
invariant-frames l = record {
  gone_most : l.gone ≤ l.at;
  kept_most : l.kept ≤ l.i;
  within : AreWithin l.at (drop l.i l.frames) (length l.bytes);
  bytes_are : take (l.at - l.gone) l.bytes ++ without_frames l.user l.at (drop l.i l.frames) (drop l.at l.bytes)
      ≡ without_frames l.user 0 l.initial.frames l.initial.bytes;
  frames_are : take l.kept l.frames ++ frames_of_others l.user l.gone (drop l.i l.frames)
      ≡ frames_of_others l.user 0 l.initial.frames;
}
