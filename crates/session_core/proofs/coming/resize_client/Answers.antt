use Rattle.session_core.proofs.Vocabulary.{◌∷◌, [], List, Ok, refl, ap, sym, option_copied, Check, Client, client_at}
use Rattle.session_core.proofs.Vocabulary.{with_client, Deed, changing, done, both_back, ClientStands, Step, StepOutput}
use Rattle.session_core.proofs.Vocabulary.{was_passed, for_there}
use Rattle.session_model.specs.declared.refusal.Check.TheVariants.{Must as must}
use Rattle.session_model.specs.declared.refusal.Refusal.TheVariants.{BadSize}
use Rattle.session_model.specs.Outcomes.{where_passed}
use Rattle.session_model.specs.Comings.{is_client_size, resized}
use Rattle.session_core.proofs.coming.resize_client.Goals as goal

pub returns-clause-step : goal.returns-clause-step
returns-clause-step c = λ t st fit.
    let client = c.args.client in
    let rows = c.args.rows in
    let columns = c.args.columns in
    let before = c.args.step.now in
    let after : Step = record { made = c.leave.new.made; verdicts = c.check_resize.new.verdicts } in
    let first : StepOutput = record before.made { acts = c.reserve.new.self } in
    let row = both_back ClientStands (client_at t client) (option_copied c.get.result)
    c.in-Some._client.now (c.get.ensures.stands t.clients st.clients) (ap option_copied c.in-Some.is) in
    let cs : List Check = must (is_client_size rows columns) BadSize ∷ [] in
    let deed : Client → Deed = λ m. changing (with_client t (resized rows columns m)) in
    let passed = c.in_ok-check_resize.ensures t st in
    let did = c.resize.ensures.answer t row.0 st fit row.1 passed.none in
    was_passed t cs (deed row.0) _ done (Ok c.made_so.result)
    c.resize.new.state c.leave.new.state before after first c.resize.new.made
    (for_there t (λ (m : Client). where_passed t cs done (deed m)) (client_at t client) row.0 row.1)
    passed.none (sym c.made_so.ensures) c.in_ok-reserve.ensures.items refl did
    (c.leave.ensures t (deed row.0) (c.of-focuses.ensures t st fit.sound) did.stands) passed.noted
