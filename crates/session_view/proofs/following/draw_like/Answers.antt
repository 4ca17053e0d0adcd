use Rattle.session_view.proofs.Vocabulary.{◌≡◌, ◌∙◌, List, sym, subst, MatchOption-at_none, MatchOption-at_some, View}
use Rattle.session_view.proofs.Vocabulary.{NeedsNoDraw, Client, FitsIn, State, HasDrawnSo, IsSomething, Lead}
use Rattle.session_view.proofs.Alike.{see_alike}
use Rattle.session_view.proofs.Led.{sees, leads_also, own_leads, fits}
use Rattle.session_view.proofs.following.draw_like.Goals as goal

pub returns-then-knows-clause-drawn : goal.returns-then-knows-clause-drawn
returns-then-knows-clause-drawn c = λ yes t st fit led knows.
    let l : Lead = c.args.lead.now in
    let r = c.see_the_same.ensures.granted c.if-not-see_the_same.false t st fit in
    let on = leads_also t c.args.state.now c.args.client l st r.0 r.1 r.2 r.3 r.4 led
    (knows c.if-knows.true r.0 r.2) in (
      r.0,
      r.2,
      sees t c.args.state.now c.args.client l st r.0 r.1 r.2 r.3 r.4 led,
      c.in_ok-deliver.ensures.ok t r.0 st r.2 on,
    )

pub returns-clause-drawn : goal.returns-clause-drawn
returns-clause-drawn c = λ yes t st fit led knows.
    let l : Lead = c.args.lead.now in
    let after : State = c.deliver-2.new.state in
    let r = c.see_the_same.ensures.granted c.if-not-see_the_same.false t st fit in
    let made = MatchOption-at_some _ _ c.in-Some.frame c.in-Some.is c.in_ok-frame.ensures.made in
    let on = own_leads t c.args.state.now c.args.client l st r.0 r.1 r.2 r.3 r.4 led c.in-Some.frame made.0
    (made.1 ∙ c.view.ensures) in (
      r.0,
      r.2,
      sees t c.args.state.now c.args.client l st r.0 r.1 r.2 r.3 r.4 led,
      subst
          (λ (cs : List Client). HasDrawnSo IsSomething t r.0 (record after { clients = cs }) c.args.made.now
          c.deliver-2.new.made) (sym c.keep_spare.ensures)
          (c.in_ok-deliver-2.ensures.ok t r.0 st r.2 on),
    )

pub returns-in_default-clause-left : goal.returns-in_default-clause-left
returns-in_default-clause-left c = λ no t st fit led both. (
  c.if-knows.false,
  (λ m here.
      let l : Lead = c.args.lead.now in
      let clients : List Client = c.args.state.now.clients in
      let is : c.view.result.now ≡ l.frame.view = c.view.ensures in
      let same = see_alike t both.0 both.1 both.4 in
      let of_size = subst (λ (v : View). FitsIn c.args.client clients v) (sym is)
      (fits t c.args.state.now c.args.client l st both.0 both.1 both.2 both.3 same led) in
      let shown = MatchOption-at_none _ _ c.in_default.is c.in_ok-frame.ensures.needless of_size t.clients m st.clients
      here in
      subst (λ (v : View). NeedsNoDraw m.drawn v) is shown.needless),
)
