use Rattle.session_commands.proofs.Vocabulary.{refl, rules, arranges}
use Rattle.regions.specs.Layouts.{kept_alone}
use Rattle.session_model.specs.Tables as model
use Rattle.session_state.proofs.Keeping.{room_for_one}
use Rattle.session_commands.proofs.Answering.{done_on}
use Rattle.session_commands.proofs.Arranging.{arranged_by}
use Rattle.session_commands.proofs.Paging.{giver_there, done_quietly}
use Rattle.session_commands.proofs.Quiet.{quietly}
use Rattle.session_commands.proofs.pages.only.Goals as goal

pub returns : goal.returns
returns c = quietly (search rules) (λ k gives t st fit free.
    let by = giver_there t k c.args.client c.args.context.now.state.now st gives in
    done_on t k c.args.client by.0 by.1 _ (arranges t by.0 (kept_alone by.0.layout)) _ c.args.context.now.made.now
    c.args.context.now.made.now refl refl (done_quietly t c.args.context.now.state.now c.on_page.new.self c.args.client
    by.0 (λ (d : model.Client). kept_alone d.layout) c.args.context.now.made.now st by.1.at
    (arranged_by kept_alone c.args.context.now.state.now.clients c.on_page.new.self c.args.client
    (λ x is. let page = c.on_page.ensures.there x is in (page.0, search rules, page.2))
    (λ m x s. room_for_one m.rows m.columns s.sized))))
