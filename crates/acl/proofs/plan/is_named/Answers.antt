use Rattle.acl.proofs.Vocabulary.{◌∙◌, ap, sym, ◌||◌, list_any, names_user, users_in, table_of}
use Rattle.acl.proofs.NameLemmas.{among-with_names}
use Rattle.acl.proofs.plan.is_named.Goals as goal

pub returns-then-knows : goal.returns-then-knows
returns-then-knows c =
    c.if-knows.true ∙ sym (among-with_names (users_in (table_of c.args.lists.now)) c.args.before.now c.args.user
    ∙ ap (λ k. k || list_any (names_user c.args.user) c.args.before.now) (sym c.knows.ensures.listed ∙ c.if-knows.true))

pub returns-else-knows : goal.returns-else-knows
returns-else-knows c =
    c.names_any.ensures
    ∙ sym (among-with_names (users_in (table_of c.args.lists.now)) c.args.before.now c.args.user
    ∙ ap (λ k. k || list_any (names_user c.args.user) c.args.before.now)
    (sym c.knows.ensures.listed ∙ c.if-knows.false))
