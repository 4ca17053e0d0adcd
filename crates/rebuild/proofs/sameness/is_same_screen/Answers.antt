use Rattle.std.proofs.Common.{rules}
use Rattle.rebuild.proofs.Equal.{unlike, options, lists, flags, states, places_saved}
use Rattle.rebuild.proofs.sameness.is_same_screen.Goals as goal

pub returns : goal.returns
returns c = λ h.
    search (
      rules,
      unlike states c.state.result c.state-2.result c.if-ne.ensures,
      unlike (options places_saved) c.saved.result c.saved-2.result c.if-ne-2.ensures,
      unlike (lists flags) c.stops.result.now c.stops-else-ne-2.result.now c.if-ne-3.ensures,
    )
