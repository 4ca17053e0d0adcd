use Rattle.std.proofs.lemmas.Result.{err_from_is_err_and}
use Rattle.web_client.proofs.Judging.{attach_fails}
use Rattle.web_client.proofs.client.WebClient.attach.Goals as goal

pub returns-in_err-ask-clause-fault : goal.returns-in_err-ask-clause-fault
returns-in_err-ask-clause-fault c =
    let p = err_from_is_err_and c.from_residual-in_err-ask.result c.from_residual-in_err-ask.ensures.1 in
    rw (p.1, p.2)
    (attach_fails c.args.rows c.args.columns c.args.token c.in_ok-name.name c.args.name.now
    c.in_err-ask.field-0.0 c.as_slice-digits.ensures.token c.as_str-text.ensures.text c.in_ok-name.ensures
    c.in_err-ask.ensures.fault)
