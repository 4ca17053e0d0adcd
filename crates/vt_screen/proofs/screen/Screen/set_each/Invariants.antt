use Rattle.vt_screen.proofs.Vocabulary.{drop, each, meaning, Stored, Performs}
use Rattle.vt_screen.proofs.screen.Screen.set_each.Given as goal

abbrev pub invariant-loop-value : goal.invariant-loop-value
invariant-loop-value l = (new : Stored) → Performs l.self (each (meaning l.setting) (drop l.value-index l.values)) new
    → Performs l.fn.self (each (meaning l.setting) l.values) new
