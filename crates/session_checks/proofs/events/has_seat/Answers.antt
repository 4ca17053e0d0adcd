use Rattle.std.proofs.Common.{ap, ◌^◌, nat_lt}
use Rattle.session_checks.proofs.Places.{left, none_left}
use Rattle.session_checks.proofs.Standing.{clients_counted}
use Rattle.session_checks.proofs.events.has_seat.Goals as goal

pub returns-then-len-lt-CLIENTS : goal.returns-then-len-lt-CLIENTS
returns-then-len-lt-CLIENTS c = λ t st.
    left _ _ 64 _ _ (clients_counted t c.args.state.now st c.len.result c.len.ensures)
    (ap (λ n. nat_lt n (2 ^ 32)) st.next_client_is) c.if-len-lt-CLIENTS.true

pub returns-else-len-lt-CLIENTS : goal.returns-else-len-lt-CLIENTS
returns-else-len-lt-CLIENTS c = λ t st.
    none_left _ _ 64 _ (clients_counted t c.args.state.now st c.len.result c.len.ensures)
    c.if-len-lt-CLIENTS.false
