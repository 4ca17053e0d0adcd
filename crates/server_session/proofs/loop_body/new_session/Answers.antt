use Rattle.std.proofs.Common.{subst, sym}
use Rattle.std.specs.Prelude.{IfOk}
use Rattle.acl.specs.declared.leaders.Edition.{Edition}
use Rattle.acl.specs.declared.leaders.Edition.TheVariants.{Second}
use Rattle.acl.specs.declared.user_id.UserId.{UserId}
use Rattle.session.specs.Trace.{begun}
use Rattle.hub.specs.Seats.{StandsFor}
use Rattle.server_session.proofs.loop_body.new_session.Goals as goal

pub returns : goal.returns
returns g c =
    subst (λ (x : Edition). IfOk c.new.result (StandsFor (begun x g.L.Begun.owner))) (sym c.requires.0)
    (subst (λ (x : UserId). IfOk c.new.result (StandsFor (begun Second x))) (sym c.requires.1) c.new.ensures.ok)
