use Rattle.trail_rights.proofs.Vocabulary.{◌≡◌, ◌∙◌, [], true, ap, sym, subst, list_all, is_asked, marked_after}
use Rattle.trail_rights.proofs.Vocabulary.{marked_on, HasSeen}
use Rattle.trail_rights.proofs.Kept.{seen_whole}
use Rattle.trail_rights.proofs.watch.Watch.sight.Goals as goal

pub returns-clause-seen : goal.returns-clause-seen
returns-clause-seen c = λ edition owner said w decided settled.
    let all : list_all (is_asked c.args.self.now.acts.asked) c.args.deciders.items ≡ true =
    ap (λ a. list_all (is_asked a) c.args.deciders.items) (sym c.asked.ensures)
    ∙ ap (list_all (is_asked c.asked.result)) (sym c.as_slice.ensures.value) ∙ sym c.are_asked.ensures
    ∙ c.if-not-are_asked.false in
    seen_whole c.args.self.now.acts.asked c.in_ok-sight.sight owner (marked_after [] said) c.args.deciders.items
    (ap (λ p. p.0) c.in_ok-sight.ensures.sought) all
    (subst (HasSeen c.in_ok-sight.sight owner) (ap (marked_on []) c.marked.ensures ∙ w.kept.acts)
    (c.in_ok-sight.ensures.seen owner decided settled))
