use Rattle.session_view.proofs.Vocabulary.{take, Tables, AreFit, Stands, ShowBoth}
use Rattle.session_view.proofs.sameness.show_both.Given as goal

-- the regions before this one show both the same
abbrev pub invariant-loop-region : goal.invariant-loop-region
invariant-loop-region l = (t : Tables) → Stands t l.state → AreFit t
    → ShowBoth t l.user l.other (take l.region-index l.shown)
