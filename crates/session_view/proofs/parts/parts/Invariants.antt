use Rattle.session_view.proofs.Vocabulary.{◌≡◌, length, take, Tables, Matched, Stands, AreFit, ShowsPart}
use Rattle.session_view.proofs.parts.parts.Given as goal

-- one part for each region before this one
abbrev pub invariant-loop-region : goal.invariant-loop-region
invariant-loop-region l = record {
  each : length l.made.items ≡ l.region-index;
  shown : (t : Tables) → Stands t l.state → AreFit t
      → Matched (ShowsPart t l.user) (take l.region-index l.shown) l.made.items;
}
