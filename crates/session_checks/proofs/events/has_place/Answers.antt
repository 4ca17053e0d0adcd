use Rattle.std.proofs.Common.{ap, ◌∙◌}
use Rattle.std.specs.Option.{is_some}
use Rattle.session_checks.proofs.Places.{left, none_left}
use Rattle.session_checks.proofs.Standing.{windows_counted}
use Rattle.session_checks.proofs.events.has_place.Goals as goal

pub returns-then-len-lt-WINDOWS : goal.returns-then-len-lt-WINDOWS
returns-then-len-lt-WINDOWS c = λ t st.
    left _ _ 40 _ _ (windows_counted t c.args.state.now st c.len.result c.len.ensures)
    (c.is_some.ensures ∙ ap is_some (c.free_number.ensures t.windows st.windows))
    c.if-len-lt-WINDOWS.true

pub returns-else-len-lt-WINDOWS : goal.returns-else-len-lt-WINDOWS
returns-else-len-lt-WINDOWS c = λ t st.
    none_left _ _ 40 _ (windows_counted t c.args.state.now st c.len.result c.len.ensures)
    c.if-len-lt-WINDOWS.false
