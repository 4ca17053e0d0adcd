use Rattle.windows.proofs.Vocabulary.{◌≡◌, ◌≤◌, length, filter, drop, option_copied, is_among, nearest}
use Rattle.windows.proofs.among.nearest.Given as goal

abbrev pub invariant-loop-place : goal.invariant-loop-place
invariant-loop-place l = record {
  within : l.place ≤ length l.rows;
  found : option_copied l.found ≡ nearest l.end (filter (is_among l.among) (drop l.place l.rows));
}

abbrev pub decreases-loop-place : goal.decreases-loop-place
decreases-loop-place l = l.place
