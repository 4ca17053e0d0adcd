-- Ignored functions change nothing.
use Rattle.terminal_model.proofs.Vocabulary.{nat_tests, arith, ◌≡◌, ℕ, false, [], Option, ap, nat_lt, Func, SetMargins}
use Rattle.terminal_model.proofs.Vocabulary.{Screen, actions_of, bottom_of, acted_from, acted, all_acted, effect}
use Rattle.terminal_model.proofs.Vocabulary.{all_answered, report}

pub effect-none : (x : Screen) (f : Func) → actions_of f ≡ [] → effect x f ≡ x
effect-none x f h = ap (all_acted x) h

pub report-none : (x : Screen) (f : Func) → actions_of f ≡ [] → report x f ≡ []
report-none x f h = ap (all_answered x) h

pub margins-none : (x : Screen) (top : ℕ) (bottom : Option ℕ) → nat_lt top (bottom_of x.state.rows bottom) ≡ false
    → acted x (SetMargins top bottom) ≡ x
unfolding acted_from
margins-none x top bottom h = grind (arith, nat_tests)
