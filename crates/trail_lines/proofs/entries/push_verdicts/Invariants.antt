use Rattle.trail_lines.proofs.Vocabulary.{◌≡◌, ◌++◌, take, flat_map, checked_text}
use Rattle.trail_lines.proofs.entries.push_verdicts.Given as goal

abbrev pub invariant-loop-verdict : goal.invariant-loop-verdict
invariant-loop-verdict l = l.out.items ≡ l.fn.out.items ++ flat_map checked_text (take l.verdict-index l.verdicts)
