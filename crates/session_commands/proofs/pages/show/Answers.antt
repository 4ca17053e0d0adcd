use Rattle.session_commands.proofs.Vocabulary.{ℕ, Some, sym, subst, rules, Shown, enters, showing, HasDone, IsOpenThere}
use Rattle.regions.specs.Layouts.{put_in_focus}
use Rattle.session_model.specs.Tables as model
use Rattle.session_commands.proofs.Arranging.{arranged_by}
use Rattle.session_commands.proofs.Paging.{done_entering}
use Rattle.session_commands.proofs.Shown.{at_set}
use Rattle.session_commands.proofs.pages.show.Goals as goal

pub returns : goal.returns
returns c = (
  search rules,
  search rules,
  λ t m w st at serial there.
      let shown : Shown = record { window = Some c.args.window; back = 0 } in
      subst (λ (n : ℕ). HasDone t (enters t m (showing m (record { window = Some n; back = 0 })))
      c.enter_focused.new.context.state.now c.args.context.now.made.now c.enter_focused.new.context.made.now)
      (sym serial) (done_entering t c.args.context.now.state.now c.on_page.new.self c.args.client m
      (λ (d : model.Client). showing d shown) c.enter_focused.new.context.state.now c.args.context.now.made.now
      c.enter_focused.new.context.made.now st at (arranged_by (put_in_focus shown) c.args.context.now.state.now.clients
      c.on_page.new.self c.args.client (λ x is. let page = c.on_page.ensures.there x is in
      (page.0, search rules, page.2)) (λ k x s. s.room)) c.enter_focused.ensures.2
      (at_set (IsOpenThere t) m.layout.shown m.layout.focus shown tt there)),
)
