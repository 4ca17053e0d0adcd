use Rattle.vt_screen.proofs.Vocabulary.{drop, prints, Stored, Performs}
use Rattle.vt_screen.proofs.screen.Screen.print_run.Given as goal

abbrev pub invariant-loop-code : goal.invariant-loop-code
invariant-loop-code l = (new : Stored) → Performs l.self (prints (drop l.code-index l.codes)) new
    → Performs l.fn.self (prints l.codes) new
