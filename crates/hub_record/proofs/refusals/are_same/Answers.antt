use Rattle.std.proofs.Common.{◌≡◌, ◌↔◌, Bool, true, sym, subst, rules}
use Rattle.std.specs.Cmp.Lexicographic.{pointwise, pointwise_decides}
use Rattle.acl.specs.declared.user_id.UserId.{UserId}
use Rattle.acl.specs.Same.{same_user}
use Rattle.acl.proofs.StandsForLemmas.{same_user-true, same_user-refl}
use Rattle.hub_record.proofs.refusals.are_same.Goals as goal

decides : (u v : UserId) → (same_user u v ≡ true → u ≡ v) × (u ≡ v → same_user u v ≡ true)
decides u v = (same_user-true u v, λ e. subst (λ w. same_user u w ≡ true) e (same_user-refl u))

pub returns : goal.returns
returns c =
    let told : c.eq.result ≡ pointwise same_user c.args.leaders.now c.args.other.now = search rules in
    subst (λ (b : Bool). (b ≡ true) ↔ (c.args.leaders.now ≡ c.args.other.now)) (sym told)
    (pointwise_decides decides c.args.leaders.now c.args.other.now)
