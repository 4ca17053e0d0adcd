use Rattle.session_state.proofs.Vocabulary.{map, Tables, window_item, numbered, Stands, AreFit, IsList}
use Rattle.session_state.proofs.texts.windows_text.Given as goal

-- the items of the windows of lower numbers
abbrev pub invariant-loop-number : goal.invariant-loop-number
invariant-loop-number l = (t : Tables) → Stands t l.state → AreFit t
    → IsList (map (window_item t l.user l.focus) (numbered t.windows 0 l.number)) l.is_first
    l.text.items
