use Rattle.acl.proofs.Vocabulary.{◌≡◌, ◌∙◌, ap, Option, None, Bool, true, false, if◌then◌else◌, refl, option_map}
use Rattle.acl.proofs.Vocabulary.{lookup, keys_of, Row, same_user, without_leader, same_pair, users_in, table_of}
use Rattle.indexmap.proofs.CallerLemmas.{keys-shift_remove_entry}
use Rattle.acl.proofs.RowLemmas.{lookup-revalued, lookup-without_user, keys_of-revalued, remove_key-user}
use Rattle.acl.proofs.StandsForUsers.{StandsFor-Gone}
use Rattle.acl.proofs.lists.Lists.make_gone.Goals as goal

mapped : (c : Bool) (f : Row → Row) (o : Option Row)
    → option_map f (if c then None else o) ≡ (if c then None else option_map f o)
mapped true f o = refl
mapped false f o = refl

pub returns-clause-stands : goal.returns-clause-stands
returns-clause-stands c =
    let t = table_of c.args.self.now in
    let u = c.args.user in
    λ edition owner h s other. StandsFor-Gone t edition owner h s u c.forget_leader.new.rows.entries
    c.forget_masks.new.masks.entries
    (ap keys_of c.forget_leader.ensures.forgotten
    ∙ keys_of-revalued (λ _ row. without_leader u row) c.shift_remove.new.self.entries
    ∙ ap keys_of c.shift_remove.ensures.entries ∙ keys-shift_remove_entry (same_user u) t.rows
    ∙ remove_key-user u (users_in t))
    (λ q. ap (lookup (same_user q)) c.forget_leader.ensures.forgotten
    ∙ lookup-revalued (λ _ row. without_leader u row) q c.shift_remove.new.self.entries
    ∙ ap (option_map (without_leader u)) (c.shift_remove.ensures.updates.0 q)
    ∙ mapped (same_user u q) (without_leader u) (lookup (same_user q) t.rows))
    (λ p. ap (lookup (same_pair p)) c.forget_masks.ensures.forgotten ∙ lookup-without_user u p t.masks)
    other
