use Rattle.vt_screen.proofs.Vocabulary.{sym, subst, get_or, ℕ, List, Some, arith, drop_more, drop_all, Code, Print}
use Rattle.vt_screen.proofs.Vocabulary.{prints, Performs}
use Rattle.vt_screen.proofs.Turns.{performs-on, performs-none}
use Rattle.vt_screen.proofs.screen.Screen.print_run.Goals as goal

pub loop-code-preserved : goal.loop-code-preserved
loop-code-preserved c = λ new h.
    c.loop-code.invariant new
    (subst (λ (codes : List ℕ). Performs c.loop-code.self (prints codes) new)
    (sym (drop_more c.args.codes.now c.loop-code.code-index 0 (omega arith)))
    (performs-on c.loop-code.self c.print_one.new.self new
    (Some (Print (Code (get_or c.args.codes.now c.loop-code.code-index 0)))) _ c.print_one.ensures h))

pub returns : goal.returns
returns c =
    c.loop-code.invariant c.loop-code.self
    (subst (λ (codes : List ℕ). Performs c.loop-code.self (prints codes) c.loop-code.self)
    (sym (drop_all c.loop-code.code-index c.args.codes.now (omega arith))) (performs-none c.loop-code.self))
