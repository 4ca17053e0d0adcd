use Rattle.std.proofs.Common.{List, ℕ, ◌≤◌, length, take, drop, rules, arith, refl, ◌∙◌, subst}
use Rattle.std.proofs.lemmas.Result.{err_from_is_err_and}
use Rattle.web_client.specs.declared.identity.Identity.{Identity}
use Rattle.web_client.specs.Asking.{IsNoName}
use Rattle.web_client.specs.Judging.{IsAttach}
use Rattle.web_client.proofs.Login.{login, read_token, rest_is}
use Rattle.web_client.proofs.Judging.{judged, digits, name_fits}
use Rattle.web_client.proofs.identity.attached.Goals as goal

pub returns-in_ok-client-in-Some-name_of-clause-attaches : goal.returns-in_ok-client-in-Some-name_of-clause-attaches
returns-in_ok-client-in-Some-name_of-clause-attaches c =
    login c.args.payload.now c.in-Some.rows c.in-Some.columns c.in-Some-read.token c.in-Some-name_of.name.now
    c.in_ok-client-in-Some-name_of.client (search rules) (search rules) (read_token _ _ c.in-Some-read.ensures)
    (c.in-Some-name_of.ensures.some ∙ rest_is 68 c.args.payload.now)
    c.in_ok-client-in-Some-name_of.ensures.asks c.in_ok-client-in-Some-name_of.ensures.display

pub returns-in-None-clause-attaches : goal.returns-in-None-clause-attaches
returns-in-None-clause-attaches c =
    subst (λ (name : List ℕ). IsNoName name) (rest_is 68 c.args.payload.now) (c.in-None.ensures.none refl)

pub returns-in_err-client-in-Some-name_of-clause-judged : goal.returns-in_err-client-in-Some-name_of-clause-judged
returns-in_err-client-in-Some-name_of-clause-judged c =
    let p = err_from_is_err_and c.from_residual.result c.from_residual.ensures.1 in
    let name = c.in-Some-name_of.name.now in
    rw (p.1, p.2)
    (judged Identity (length name ≤ 8124) (IsAttach c.args.payload.now) c.in_err-client-in-Some-name_of.field-0.0
    (name_fits c.args.payload.now name (c.in-Some-name_of.ensures.some ∙ rest_is 68 c.args.payload.now) (omega arith))
    (omega arith, omega arith, digits (take 64 (drop 4 c.args.payload.now)) c.in-Some-read.token c.in-Some-read.ensures)
    c.in_err-client-in-Some-name_of.ensures.fault)

pub returns-in-None-clause-judged : goal.returns-in-None-clause-judged
returns-in-None-clause-judged c =
    (omega arith, omega arith, digits (take 64 (drop 4 c.args.payload.now)) c.in-Some-read.token c.in-Some-read.ensures)

pub returns-in_ok-client-in-Some-name_of-clause-judged : goal.returns-in_ok-client-in-Some-name_of-clause-judged
returns-in_ok-client-in-Some-name_of-clause-judged c =
    (omega arith, omega arith, digits (take 64 (drop 4 c.args.payload.now)) c.in-Some-read.token c.in-Some-read.ensures)
