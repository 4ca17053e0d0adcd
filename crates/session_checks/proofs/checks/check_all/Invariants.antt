use Rattle.std.proofs.Common.{take}
use Rattle.session_model.specs.Tables.{Tables}
use Rattle.session_state.specs.Stands.{Stands}
use Rattle.session_checks.specs.Checked.{Passed, AllMade, listed}
use Rattle.session_checks.proofs.checks.check_all.Given as goal

abbrev pub invariant-loop-check : goal.invariant-loop-check
invariant-loop-check l = (t : Tables) → Stands t l.state → AllMade t (listed l.checks)
    → Passed t (listed (take l.check-index l.checks)) l.fn.verdicts.items l.verdicts.items
