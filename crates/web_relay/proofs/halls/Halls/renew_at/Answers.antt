use Rattle.web_relay.proofs.Vocabulary.{◌≡◌, ◌∙◌, None, ap, Slab, get, Hall, Halls}
use Rattle.web_relay.proofs.Turns.{where-it-was, insert-others}
use Rattle.web_relay.proofs.halls.Halls.renew_at.Goals as goal

pub returns-in-Some-made-clause-others : goal.returns-in-Some-made-clause-others
returns-in-Some-made-clause-others g c = λ other apart.
    let old : Slab (Hall g.row.S.Denot) = c.args.self.now.list in
    let removed : Slab (Hall g.row.S.Denot) = c.try_remove.new.self in
    let before : Slab (Hall g.row.S.Denot) = c.made.new.self.list in
    let next : removed.vacant_key ≡ c.args.place =
    where-it-was (get old c.args.place) c.try_remove.result
    (λ (e : get old c.args.place ≡ None). rw e at c.in-Some.ensures.some) c.try_remove.ensures.value
    c.try_remove.ensures.key_is_next in
    insert-others c.insert.result before c.insert.new.self c.args.place _
    (ap (λ (h : Halls g.row.S.Denot). h.list.vacant_key) c.made.ensures.same ∙ next) c.insert.ensures.key
    c.insert.ensures.updates
    c.insert.ensures.err other apart
    ∙ ap (λ (h : Halls g.row.S.Denot). get h.list other) c.made.ensures.same
    ∙ c.try_remove.ensures.updates.others other apart
