use Rattle.session_commands.proofs.Vocabulary.{refl, rules, Arrangement, arranges, showing}
use Rattle.session_model.specs.Tables as model
use Rattle.session_model.specs.Deeds.{shown_in_focus}
use Rattle.session_commands.specs.Scrolling as pages
use Rattle.session_commands.proofs.Answering.{done_on}
use Rattle.session_commands.proofs.Arranging.{arranged_by}
use Rattle.session_commands.proofs.Paging.{giver_there, done_quietly}
use Rattle.session_commands.proofs.Quiet.{quietly}
use Rattle.session_commands.proofs.pages.scrollview.Goals as goal

pub returns : goal.returns
returns c = quietly (search rules) (λ k gives t st fit free.
    let by = giver_there t k c.args.client c.args.context.now.state.now st gives in
    let scrolled : model.Client → Arrangement = λ d. showing d (record (shown_in_focus d) { back = c.args.back }) in
    done_on t k c.args.client by.0 by.1 _ (arranges t by.0 (scrolled by.0)) _ c.args.context.now.made.now
    c.args.context.now.made.now refl refl (done_quietly t c.args.context.now.state.now c.on_page.new.self c.args.client
    by.0 scrolled c.args.context.now.made.now st by.1.at (arranged_by (pages.scrolled c.args.back)
    c.args.context.now.state.now.clients c.on_page.new.self c.args.client
    (λ x is. let page = c.on_page.ensures.there x is in (page.0, search rules, page.2)) (λ m x s. s.room))))
