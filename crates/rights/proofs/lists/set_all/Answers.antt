use Rattle.rights.proofs.Vocabulary.{sym, subst, ◌∙◌, Bool, IfOk-weaker, OwnerKept, TooManyUsers, UnknownUser, among}
use Rattle.rights.proofs.Vocabulary.{users_of, same_user, StandsFor}
use Rattle.rights.proofs.Redoing.{on_ok, listed, sets_done}
use Rattle.rights.proofs.Running.{all_there, on_all}
use Rattle.rights.proofs.lists.set_all.Goals as goal

pub returns : goal.returns
returns c =
    let u = c.args.user in
    let changes = c.args.changes.now in
    let objects = c.args.objects.now in
    IfOk-weaker c.redone.result _ _
    (λ (b : Bool) t is edition owner h s named free.
    let known = listed OwnerKept UnknownUser OwnerKept TooManyUsers (same_user owner u) (among (users_of owner h) u)
    named in
    let done = on_ok c.change.result c.change.ensures.done (t.0 is) edition owner h s.acl
    (all_there c.args.rights.now.locks edition owner h s.locks objects free) in
    let on = on_all c.args.rights.now.locks edition owner u changes objects free h s.locks named in (
      on.0,
      record {
        acl = subst (λ g. StandsFor c.change.new.self edition owner g) (sets_done owner h u changes objects known)
            done.stands;
        locks = on.1.0;
        clients = s.clients ∙ sym on.1.1;
        differ = s.differ;
        count = s.count ∙ sym on.1.2;
      },
    ))
    c.redone.ensures
