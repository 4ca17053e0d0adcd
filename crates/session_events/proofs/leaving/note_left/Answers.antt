use Rattle.session_events.proofs.Vocabulary.{◌≡◌, ◌∙◌, ◌+◌, ◌<◌, List, [], ◌∷◌, ◌++◌, None, ap, sym, subst, append-nil}
use Rattle.session_events.proofs.Vocabulary.{append_assoc, drop, length, arith, followed_by, Act, Left}
use Rattle.session_events.proofs.Vocabulary.{followed_by-append, LocksStandFor, Focus, all_left, left_window, leaving}
use Rattle.std.proofs.Common.{get_or, Vec, Global}
use Rattle.std.proofs.lemmas.List.{drop_all}
use Rattle.acl.proofs.InPlace.{drop-next}
use Rattle.session_events.proofs.Left.{one_more, rest_is, pushed}
use Rattle.session_events.proofs.leaving.note_left.Goals.{in-Some, in_default}
use Rattle.session_events.proofs.leaving.note_left.Goals as goal

pub returns-clause-locks : goal.returns-clause-locks
returns-clause-locks c = λ edition owner h st.
    let so_far = c.loop-i.invariant.0 in
    let whole : so_far ≡ all_left c.args.before.now c.args.clients.now =
    sym (append-nil so_far)
    ∙ ap (λ fs. so_far ++ all_left fs c.args.clients.now)
    (sym (drop_all c.loop-i.i c.args.before.now c.loop-i-test.false))
    ∙ c.loop-i.invariant.1 in
    subst (λ acts. LocksStandFor c.loop-i.locks edition owner (followed_by h acts)) whole
    (c.loop-i.invariant.5 edition owner h st)

pub loop-i-preserved : goal.loop-i-preserved
loop-i-preserved c =
    let before = c.args.before.now in
    let now = c.args.clients.now in
    let i = c.loop-i.i in
    let so_far = c.loop-i.invariant.0 in
    let blank : Focus = record { user = record { name = [] }; window = None } in
    let f : Focus = get_or before i blank in
    let inside : i < length before = c.loop-i-test.true in
    let found : c.left_window.result ≡ left_window f.user f.window (drop (i + 1) before) now =
    c.left_window.ensures ∙ ap (λ fs. left_window f.user f.window fs now) (rest_is before (i + 1)) in
    let whole : (so_far ++ leaving f.user c.left_window.result) ++ all_left (drop (i + 1) before) now ≡ all_left before
    now =
    ap (λ o. (so_far ++ leaving f.user o) ++ all_left (drop (i + 1) before) now) found
    ∙ one_more now before i f so_far (sym (drop-next before i blank inside)) c.loop-i.invariant.1 in
    elim c.match-left_window.branch [
      | in-Some w ↦
          let acts = Left f.user w.in-Some.window ∷ [] in
          let more : List Act = so_far ++ acts in (
            more,
            ap (λ o. (so_far ++ leaving f.user o) ++ all_left (drop (i + 1) before) now) (sym w.in-Some.is) ∙ whole,
            ap (λ (v : Vec Act Global). v.items) w.acts-is
                ∙ pushed w.push.result c.loop-i.acts.items w.push.new.self.items (Left f.user w.in-Some.window)
                (w.push.ensures.succeeds (omega arith)) w.push.ensures.items
                ∙ ap (λ xs. xs ++ acts) c.loop-i.invariant.2
                ∙ append_assoc c.args.acts.now.items so_far acts,
            rw w.acts-is (omega arith),
            rw w.acts-is (omega arith),
            λ edition owner h st.
                subst (λ l. LocksStandFor l edition owner (followed_by h more)) (sym w.locks-is)
                (subst (λ k. LocksStandFor w.left.new.self edition owner k) (sym (followed_by-append h so_far acts))
                (w.left.ensures edition owner (followed_by h so_far) (c.loop-i.invariant.5 edition owner h st))),
          )
      | in_default w ↦ (
        so_far,
        ap (λ xs. xs ++ all_left (drop (i + 1) before) now) (sym (append-nil so_far))
            ∙ ap (λ o. (so_far ++ leaving f.user o) ++ all_left (drop (i + 1) before) now) (sym w.in_default.is)
            ∙ whole,
        ap (λ (v : Vec Act Global). v.items) w.acts-is ∙ c.loop-i.invariant.2,
        rw w.acts-is (omega arith),
        rw w.acts-is (omega arith),
        λ edition owner h st.
            subst (λ l. LocksStandFor l edition owner (followed_by h so_far)) (sym w.locks-is)
            (c.loop-i.invariant.5 edition owner h st),
      )
    ]
