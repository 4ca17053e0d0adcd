use Rattle.server_users.proofs.Vocabulary.{sym, ◌∙◌, ap, position, same_user}
use Rattle.server_users.proofs.Places.{found, lost, without_first, without_none}
use Rattle.server_session.proofs.books.remove.Goals as goal

pub returns-in-Some : goal.returns-in-Some
returns-in-Some c = c.remove.ensures.items
    ∙ without_first c.args.guests.now.items c.args.user c.in-Some.place
    (found (same_user c.args.user) _ _ (ap (position (same_user c.args.user)) (sym c.deref.ensures.value)
    ∙ sym c.place_of.ensures.place ∙ c.in-Some.is))

pub returns-in_default : goal.returns-in_default
returns-in_default c = sym (without_none c.args.guests.now.items c.args.user
    (lost (same_user c.args.user) _ (ap (position (same_user c.args.user)) (sym c.deref.ensures.value)
    ∙ sym c.place_of.ensures.place ∙ c.in_default.is)))
