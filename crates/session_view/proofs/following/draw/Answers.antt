use Rattle.session_view.proofs.Vocabulary.{◌≡◌, ◌∙◌, Some, None, refl, subst, sym, MatchOption-at_none}
use Rattle.session_view.proofs.Vocabulary.{MatchOption-at_some, View, HasSize, Client, FitsIn, IsViewFor}
use Rattle.session_view.proofs.Delivering.{drawn_nothing, drawn_by, drawn_for}
use Rattle.session_view.proofs.following.draw.Goals as goal

pub returns-in_default-2-clause-by : goal.returns-in_default-2-clause-by
returns-in_default-2-clause-by c =
    let clients = c.take_spare-spare.new.self in
    let row = c.in-Some.row.now in
    let v : View = c.in_ok-view_for.field-0 in
    let is : c.in_ok-view.view ≡ v = c.in_ok-view.ensures.value in
    let fits : FitsIn c.args.client clients c.in_ok-view.view = λ x here.
    let e : row ≡ x = cc (c.in-Some.ensures.row, here) in
    subst (λ (y : Client). HasSize y.shadow.rows y.shadow.columns c.in_ok-view.view) e
    (subst (HasSize row.shadow.rows row.shadow.columns) (sym is) c.in_ok-view_for.ensures.size) in
    drawn_nothing c.args.client c.args.state.now clients row c.in_ok-view.view c.args.made.now _
    c.take_spare-spare.ensures
    c.in-Some.ensures.stands
    (subst (IsViewFor (record c.args.state.now { clients = clients }) row) (sym is)
    c.in_ok-view_for.ensures.granted)
    c.keep_spare.new.self (MatchOption-at_none _ _ c.in_default-2.is c.in_ok-frame.ensures.needless fits)
    c.keep_spare.ensures refl refl

pub returns-clause-by : goal.returns-clause-by
returns-clause-by c =
    let clients = c.take_spare-spare.new.self in
    let row = c.in-Some.row.now in
    let v : View = c.in_ok-view_for.field-0 in
    let is : c.in_ok-view.view ≡ v = c.in_ok-view.ensures.value in
    let made = MatchOption-at_some _ _ c.in-Some-2.frame c.in-Some-2.is c.in_ok-frame.ensures.made in
    drawn_by c.args.client c.args.state.now clients row v c.args.made.now _ c.take_spare-spare.ensures
    c.in-Some.ensures.stands c.in_ok-view_for.ensures.granted c.in-Some-2.frame c.deliver.new.state
    (sym c.in-Some.ensures.row)
    made.0 (made.1 ∙ is) c.in_ok-deliver.ensures.ok

pub returns-in_default-2-clause-ok : goal.returns-in_default-2-clause-ok
returns-in_default-2-clause-ok c = drawn_for c.args.client None c.args.state.now _ c.args.made.now _
    (returns-in_default-2-clause-by c)

pub returns-clause-ok : goal.returns-clause-ok
returns-clause-ok c = drawn_for c.args.client (Some c.in-Some-2.frame) c.args.state.now _ c.args.made.now _
    (returns-clause-by c)
