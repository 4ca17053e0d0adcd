use Rattle.session.proofs.Vocabulary.{◌≡◌, ◌≤◌, ◌^◌, ◌++◌, ◌+◌, ap, subst, sym, ◌∙◌, arith, Appends, tables_of}
use Rattle.session.proofs.Vocabulary.{view_lines}
use Rattle.session.proofs.Playing.{appends_none, appends_on}
use Rattle.session.proofs.Rising.{shown_below, shown_none, shown_next, shown_all, shown_last}
use Rattle.session.proofs.player.show.Goals as goal

pub clients-init : goal.clients-init
clients-init g c = λ h st.
    subst (λ bytes. Appends (g.W.Write.contents c.args.writer.now) (g.W.Write.contents c.args.writer.now) bytes)
    (sym (shown_none (tables_of h))) (appends_none (g.W.Write.contents c.args.writer.now))

pub clients-preserved : goal.clients-preserved
clients-preserved g c = λ h st.
    let text : c.deref.result.now ≡ view_lines c.in-Some.client c.in_ok-view.view =
    c.deref.ensures
    ∙
    (c.in_ok-print_view.ensures.ok
    ∙ ap (λ bytes. bytes ++ view_lines c.in-Some.client c.in_ok-view.view) c.new-text.ensures.bytes) in
    let next = shown_next h c.clients.from c.in-Some.client c.in_ok-view.view (sym (c.in-Some.ensures.least h st))
    (c.in_ok-view.ensures h st) in
    let put : Appends (g.W.Write.contents c.clients.writer) (g.W.Write.contents c.put.new.writer)
    (view_lines c.in-Some.client c.in_ok-view.view) =
    subst (λ bytes. Appends (g.W.Write.contents c.clients.writer) (g.W.Write.contents c.put.new.writer) bytes) text
    c.in_ok-put.ensures in
    let on = appends_on (g.W.Write.contents c.args.writer.now) (g.W.Write.contents c.clients.writer)
    (g.W.Write.contents c.put.new.writer) (shown_below (tables_of h) c.clients.from)
    (view_lines c.in-Some.client c.in_ok-view.view) (c.clients.invariant h st) put in
    subst (λ bytes. Appends (g.W.Write.contents c.args.writer.now) (g.W.Write.contents c.put.new.writer) bytes)
    (sym (ap (λ n. shown_below (tables_of h) n) c.in-Some-checked_add.ensures.1 ∙ next)) on

pub returns-in-None-clause-shown : goal.returns-in-None-clause-shown
returns-in-None-clause-shown g c = λ h st.
    let text : c.deref.result.now ≡ view_lines c.in-Some.client c.in_ok-view.view =
    c.deref.ensures
    ∙
    (c.in_ok-print_view.ensures.ok
    ∙ ap (λ bytes. bytes ++ view_lines c.in-Some.client c.in_ok-view.view) c.new-text.ensures.bytes) in
    let next = shown_next h c.clients.from c.in-Some.client c.in_ok-view.view (sym (c.in-Some.ensures.least h st))
    (c.in_ok-view.ensures h st) in
    let put : Appends (g.W.Write.contents c.clients.writer) (g.W.Write.contents c.put.new.writer)
    (view_lines c.in-Some.client c.in_ok-view.view) =
    subst (λ bytes. Appends (g.W.Write.contents c.clients.writer) (g.W.Write.contents c.put.new.writer) bytes) text
    c.in_ok-put.ensures in
    let on = appends_on (g.W.Write.contents c.args.writer.now) (g.W.Write.contents c.clients.writer)
    (g.W.Write.contents c.put.new.writer) (shown_below (tables_of h) c.clients.from)
    (view_lines c.in-Some.client c.in_ok-view.view) (c.clients.invariant h st) put in
    let full : 2 ^ 32 ≤ c.in-Some.client + 1 = omega (arith, c.in-None.ensures) in
    subst (λ bytes. Appends (g.W.Write.contents c.args.writer.now) (g.W.Write.contents c.put.new.writer) bytes)
    (sym next ∙ shown_last h (c.in-Some.client + 1) full) on

pub returns-in_default-clause-shown : goal.returns-in_default-clause-shown
returns-in_default-clause-shown g c = λ h st.
    subst (λ bytes. Appends (g.W.Write.contents c.args.writer.now) (g.W.Write.contents c.clients.writer) bytes)
    (shown_all (tables_of h) c.clients.from (sym (c.in_default.ensures.least h st))) (c.clients.invariant h st)
