use Rattle.std.proofs.Common.{◌≡◌, ◌++◌, drop}
use Rattle.client_words.specs.Visible.{visible, visible_behind}
use Rattle.client_words.proofs.visible.put_visible.Given as goal

-- what is written, and what is still to be written of the rest
abbrev pub invariant-loop-at : goal.invariant-loop-at
invariant-loop-at l = l.out.items ++ visible_behind l.skip (drop l.at l.text) ≡ l.fn.out.items ++ visible l.text
