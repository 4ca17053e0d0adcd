use Rattle.std.proofs.Common.{Result, subst}
use Rattle.std.specs.Prelude.{IfOk}
use Rattle.std.specs.declared.io.Error.{Error}
use Rattle.acl.specs.declared.user_id.UserId.{UserId}
use Rattle.trail_files.specs.declared.check.Finish.{Finish}
use Rattle.trail_log.specs.Logging.{HasLogged}
use Rattle.mux_trail.specs.Diary.{IsLogged}
use Rattle.mux_trail.specs.Reading.{IsFileRead}
use Rattle.mux_trail.proofs.diary.tell_log.Goals as goal

pub returns : goal.returns
returns g c =
    let edition = c.in_ok-heading.heading.edition in
    let owner = c.unwrap_or-owner.result in
    let log = c.take_file-finish.new.taker.log in
    let rest = g.R.Read.remaining c.heading_of.new.reader in
    let read = subst (λ (r : Result Finish Error). IfOk r (λ f. IsFileRead (HasLogged log edition owner) f c.args.limits
    edition owner rest)) c.in_ok-finish.was (c.take_file-finish.ensures edition owner c.in-Ok.ensures.logged) in (
      c.in_ok-heading.heading,
      rest,
      c.in_ok-heading.ensures,
      subst (λ (u : UserId). IsLogged c.args.limits c.in_ok-status.status edition u rest) c.unwrap_or-owner.ensures
          (record {
            log = log;
            finish_is = c.in_ok-finish.finish;
            read = read;
            status_is = c.in_ok-status.ensures;
          }),
    )
