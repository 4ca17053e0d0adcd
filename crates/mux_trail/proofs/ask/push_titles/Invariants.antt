use Rattle.std.proofs.Common.{◌≡◌, ◌++◌, take}
use Rattle.std.specs.List.{flat_map}
use Rattle.mux_trail.specs.Answers.{title_text}
use Rattle.mux_trail.proofs.ask.push_titles.Given as goal

abbrev pub invariant-loop-titled : goal.invariant-loop-titled
invariant-loop-titled l =
    l.out.items ≡ l.fn.out.items ++ flat_map title_text (take l.titled-index l.titles)
