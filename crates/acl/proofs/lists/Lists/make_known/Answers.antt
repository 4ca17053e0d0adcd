use Rattle.acl.proofs.Vocabulary.{◌≡◌, ◌∙◌, ap, refl, Option, None, Some, is_some, false, if◌then◌else◌, true≢false}
use Rattle.acl.proofs.Vocabulary.{lookup, keys_of, Row, same_user, same_pair, row_of, new_row, table_of}
use Rattle.indexmap.proofs.CallerLemmas.{insert_entry-new}
use Rattle.acl.proofs.RowLemmas.{lookup-without_user, bits_on-new_row, keys_of-push}
use Rattle.acl.proofs.StandsForUsers.{StandsFor-Known}
use Rattle.acl.proofs.lists.Lists.make_known.Goals as goal

none : (o : Option Row) → is_some o ≡ false → o ≡ None
none None e = refl
none (Some r) e = absurd (true≢false e)

pub returns-clause-stands : goal.returns-clause-stands
returns-clause-stands c =
    let t = table_of c.args.self.now in
    let u = c.args.user in
    λ edition owner h s new.
    let absent : row_of t u ≡ None = none (row_of t u) (s.known u ∙ new) in
    StandsFor-Known t edition owner h s u c.insert.new.self.entries c.forget_masks.new.masks.entries
    (new_row t.command_preset t.window_preset)
    (let ins = rw c.unwrap.ensures at c.insert.ensures.entries in
    ap keys_of (ins ∙ insert_entry-new same_user c.args.self.now.rows u _ absent) ∙ keys_of-push t.rows u _)
    (λ q. let up = rw c.unwrap.ensures at c.insert.ensures.updates in up.0 q
    ∙ ap (λ r. if same_user u q then Some r else row_of t q) c.new-row.ensures)
    (λ p. ap (lookup (same_pair p)) c.forget_masks.ensures.forgotten ∙ lookup-without_user u p t.masks)
    refl
    (bits_on-new_row t s.slots.all)
    absent
