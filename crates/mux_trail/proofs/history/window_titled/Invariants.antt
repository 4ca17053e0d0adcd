use Rattle.std.proofs.Common.{◌≡◌, drop}
use Rattle.mux_trail.specs.History.{window_titled, window_titled_or}
use Rattle.mux_trail.proofs.history.window_titled.Given as goal

abbrev pub invariant-loop-titled : goal.invariant-loop-titled
invariant-loop-titled l =
    window_titled_or l.window l.title (drop l.titled-index l.titles) ≡ window_titled l.title l.titles
