use Rattle.session_commands.proofs.Vocabulary.{refl, rules, Arrangement, enters}
use Rattle.regions.specs.Layouts.{next_focus}
use Rattle.session_model.specs.Tables as model
use Rattle.session_commands.proofs.Answering.{done_on}
use Rattle.session_commands.proofs.Arranging.{arranged_by}
use Rattle.session_commands.proofs.Paging.{giver_there, done_entering}
use Rattle.session_commands.proofs.Shown.{open_at}
use Rattle.session_commands.proofs.Quiet.{quietly}
use Rattle.session_commands.proofs.pages.focus.Goals as goal

pub returns : goal.returns
returns c = quietly (search rules) (λ k gives t st fit free.
    let by = giver_there t k c.args.client c.args.context.now.state.now st gives in
    let m : model.Client = by.0 in
    done_on t k c.args.client m by.1 _ (enters t m (record m.layout { focus = next_focus m.layout }))
    c.enter_focused.new.context.state.now c.args.context.now.made.now c.enter_focused.new.context.made.now refl refl
    (done_entering t c.args.context.now.state.now c.on_page.new.self c.args.client m
    (λ (d : model.Client). record d.layout { focus = next_focus d.layout }) c.enter_focused.new.context.state.now
    c.args.context.now.made.now c.enter_focused.new.context.made.now st by.1.at
    (arranged_by (λ (l : Arrangement). record l { focus = next_focus l }) c.args.context.now.state.now.clients
    c.on_page.new.self c.args.client (λ x is. let page = c.on_page.ensures.there x is in (page.0, search rules, page.2))
    (λ k x s. s.room)) c.enter_focused.ensures.2 (open_at t c.args.client m (next_focus m.layout) fit by.1.at)))
