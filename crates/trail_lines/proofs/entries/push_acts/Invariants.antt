use Rattle.trail_lines.proofs.Vocabulary.{◌≡◌, ◌++◌, take, flat_map, done_text}
use Rattle.trail_lines.proofs.entries.push_acts.Given as goal

abbrev pub invariant-loop-act : goal.invariant-loop-act
invariant-loop-act l = l.out.items ≡ l.fn.out.items ++ flat_map done_text (take l.act-index l.acts)
