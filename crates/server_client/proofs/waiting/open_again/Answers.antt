use Rattle.std.proofs.lemmas.Result.{on_err_weaker}
use Rattle.server_client.proofs.waiting.open_again.Goals as goal

pub returns-then-is_err-clause-fault : goal.returns-then-is_err-clause-fault
returns-then-is_err-clause-fault g c =
    on_err_weaker c.reopen-met.result (λ met. (met, (c.reopen-met.new.self, c.end_by.ensures.ends)))
    c.reopen-met.ensures.fault
