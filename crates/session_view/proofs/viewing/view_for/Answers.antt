use Rattle.session_view.proofs.Vocabulary.{◌≡◌, ◌∙◌, List, ap, map, subst, sym, IsRects, Shown, part_of, Matched, Part}
use Rattle.session_view.proofs.Vocabulary.{ShowsPart, SaysStatus}
use Rattle.session_view.proofs.Granting.{page_sized, view_is}
use Rattle.session_view.proofs.viewing.view_for.Goals as goal

pub compose_over-requires-clause-sized : goal.compose_over-requires-clause-sized
compose_over-requires-clause-sized c =
    page_sized c.rows-rows.result c.columns-columns.result c.in-Ok.rects.status
    (sym c.is_client_size.ensures ∙ c.if-not-is_client_size.false) c.in-Ok.ensures.ok.status_is

pub returns-clause-granted : goal.returns-clause-granted
returns-clause-granted c =
    let row = c.args.client.now in
    let text : c.as_slice.result.now ≡ c.in_ok-status.status = cc in
    view_is c.args.state.now row c.in-Ok.rects (map part_of c.deref-2.result.now)
    c.as_slice.result.now c.compose_over.result
    (subst
    (λ n. IsRects row.layout.shape row.layout.focus n row.shadow.columns c.in-Ok.rects)
    c.rows-rows.ensures
    (subst
    (λ n. IsRects row.layout.shape row.layout.focus c.rows-rows.result n c.in-Ok.rects)
    c.columns-columns.ensures c.in-Ok.ensures.ok))
    c.in-Ok.ensures.each c.in-Ok.ensures.focused (c.in-Ok.ensures.last ∙ c.rows-rows.ensures)
    (λ t st fit.
    ap (map part_of) c.deref-2.ensures.value
    ∙ c.in_ok-panes.ensures.shown t row.user row.layout.shown
    (subst (λ (parts : List Part). Matched (ShowsPart t row.user) row.layout.shown parts)
    (sym c.deref.ensures.value)
    (subst (λ (shown : List Shown). Matched (ShowsPart t row.user) shown c.in_ok-parts.parts.items)
    c.shown.ensures.value (c.in_ok-parts.ensures.shown t st fit))))
    (subst (SaysStatus c.args.state.now row) (sym text) c.in_ok-status.ensures)
    c.compose_over.ensures.size c.compose_over.ensures.exact c.compose_over.ensures.drawable
