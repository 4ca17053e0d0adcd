use Rattle.session_commands.proofs.Vocabulary.{◌==◌, Ok, ap, refl, inr, rules, NoWindow, client_at, parts, both_back}
use Rattle.session_commands.proofs.Vocabulary.{none_back, ClientStands}
use Rattle.std.specs.Option.{option_copied}
use Rattle.session_model.specs.declared.event.Reason.TheVariants as reason
use Rattle.session_commands.proofs.LeavingRows.{given_some, given_none}
use Rattle.session_commands.proofs.Quiet.{quietly}
use Rattle.session_commands.proofs.leaving.detach_client.Goals as goal

pub returns-in_default : goal.returns-in_default
returns-in_default c = quietly (search rules) (λ t st fit.
    let client = c.args.client in
    let none = none_back ClientStands (client_at t client) (option_copied c.get.result)
    (c.get.ensures.stands t.clients st.clients) (ap option_copied c.in_default.is) in
    inr (given_none (client_at t client) NoWindow (λ m. Ok (parts (λ d. d.serial == client) reason.Detached t)) none))

pub returns : goal.returns
returns c = quietly (search rules) (λ t st fit.
    let client = c.args.client in
    let row = both_back ClientStands (client_at t client) (option_copied c.get.result) c.in-Some._client.now
    (c.get.ensures.stands t.clients st.clients) (ap option_copied c.in-Some.is) in (
      parts (λ d. d.serial == client) reason.Detached t,
      given_some (client_at t client) NoWindow (λ m. Ok (parts (λ d. d.serial == client) reason.Detached t)) row.0
          row.1,
      refl,
      c.in_ok-go.ensures.1 t st fit,
    ))
