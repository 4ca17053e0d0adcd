use Rattle.std.proofs.Common.{◌∙◌, ◌&&◌, not, ap, sym}
use Rattle.acl.proofs.FollowingLemmas.{known-among}
use Rattle.acl.specs.History.{among, users_of}
use Rattle.hub_check.proofs.says.is_other.Goals as goal

pub returns : goal.returns
returns c = λ edition h s.
    c.knows.ensures edition c.args.owner h s
    ∙ known-among c.args.rights.now.acl edition c.args.owner h s.acl c.args.user
    ∙ ap (λ b. not b && among (users_of c.args.owner h) c.args.user) (sym (sym c.eq.ensures ∙ c.if-eq.false))
