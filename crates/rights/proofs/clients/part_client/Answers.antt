use Rattle.rights.proofs.Vocabulary.{◌≡◌, ◌∙◌, not, ◌&&◌, List, Option, false, ap, sym, subst, option_map_or, UserId}
use Rattle.rights.proofs.Vocabulary.{same_user, Differ, last_in}
use Rattle.rights.proofs.Rows.{Row, others, is_users, last_is, differ_on}
use Rattle.rights.proofs.clients.part_client.Goals as goal

pub returns : goal.returns
returns c = λ edition owner h s here.
    let rows = c.args.clients.now.items in
    let client = c.args.client in
    let kept : c.drop_client.new.clients.items ≡ others rows client = c.drop_client.ensures in
    let last : c.last_user.result ≡ last_in rows client = c.last_user.ensures
    ∙ ap (λ (l : List Row). last_in l client) c.deref.ensures.value in (
      c.parted.ensures edition owner h client s (λ u.
          ap (λ (l : List Row). is_users u l && not (is_users u (others l client))) (sym here.0)
          ∙ (last_is rows client u here.1
          ∙ ap (λ (o : Option UserId). option_map_or (same_user u) o false) (sym last))),
      (
        kept ∙ ap (λ (l : List Row). others l client) here.0,
        subst Differ (sym kept) (differ_on rows client here.1),
      ),
    )
