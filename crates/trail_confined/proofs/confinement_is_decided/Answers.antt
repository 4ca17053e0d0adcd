use Rattle.std.proofs.Common.{sym, ◌∙◌}
use Rattle.trail_confined.proofs.ShutOut.{confinement_decided}
use Rattle.trail_confined.proofs.confinement_is_decided.Goals as goal

pub returns : goal.returns
returns c = λ r edition owner h users bit stands.
    confinement_decided edition owner h bit users
    (λ u known. sym (c.users_listed.ensures r.acl edition owner h u stands.acl) ∙ known)
