use Rattle.rights.proofs.Vocabulary.{◌≡◌, ◌∙◌, ◌∷◌, ℕ, false, not, List, ap, sym, subst, ◌==◌, list_any, UserId}
use Rattle.rights.proofs.Vocabulary.{StandsFor-aside, Differ}
use Rattle.acl.specs.declared.act.Act.TheVariants.{Attached}
use Rattle.writelock.proofs.LockLemmas.{LocksStandFor-Attached}
use Rattle.rights.proofs.moves.attach.Goals as goal

pub returns : goal.returns
returns c = λ edition owner h s.
    let rows = c.args.rights.now.clients.items in
    let row : ℕ × UserId = (c.args.client, c.args.user) in
    let none : list_any (λ (d : ℕ × UserId). d.0 == c.args.client) rows ≡ false =
    ap (λ (l : List (ℕ × UserId)). list_any (λ (d : ℕ × UserId). d.0 == c.args.client) l) (sym c.deref.ensures.value)
    ∙ (sym c.has_client.ensures ∙ c.if-has_client.false) in (
      sym (ap not
          (ap (λ (l : List (ℕ × UserId)). list_any (λ (d : ℕ × UserId). d.0 == c.args.client) l) (sym s.clients)
          ∙ none)),
      λ is. record {
        acl = StandsFor-aside c.args.rights.now.acl edition owner h (Attached c.args.client c.args.user) tt s.acl;
        locks = LocksStandFor-Attached c.args.rights.now.locks edition owner h c.args.client c.args.user s.locks;
        clients = c.in_ok-insert.ensures.items ∙ ap (λ (l : List (ℕ × UserId)). row ∷ l) s.clients;
        differ = subst Differ (sym c.in_ok-insert.ensures.items) (none, s.differ);
        count = s.count;
      },
    )
