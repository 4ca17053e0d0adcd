use Rattle.trail_setup.proofs.Vocabulary.{◌≡◌, ◌++◌, length, take, drop, masked_in}
use Rattle.trail_setup.proofs.state.set_mask.Given as goal

abbrev pub invariant-loop-place : goal.invariant-loop-place
invariant-loop-place l = record {
  same : l.masks.items ≡ l.fn.masks.items;
  later : masked_in l.by l.user l.bit l.value l.masks.items
      ≡ take l.place l.masks.items ++ masked_in l.by l.user l.bit l.value (drop l.place l.masks.items);
  all : l.place-end ≡ length l.masks.items;
}
