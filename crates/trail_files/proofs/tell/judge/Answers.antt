use Rattle.std.proofs.Common.{◌≡◌, ◌∙◌, List, Option, subst, sym, ℕ}
use Rattle.std.specs.Io.KnownBytes.{Appends}
use Rattle.acl.specs.declared.leaders.Edition.{Edition}
use Rattle.acl.specs.declared.user_id.UserId.{UserId}
use Rattle.trail_lines.specs.declared.audit.Audit.{Audit}
use Rattle.trail_lines.specs.declared.audit.Times.{Times}
use Rattle.trail_files.specs.declared.check.Finish.{Finish}
use Rattle.trail_files.specs.Finishing.{IsChecked}
use Rattle.trail_files.proofs.Telling.{told}
use Rattle.trail_files.proofs.tell.judge.Goals as goal

-- from the times before the first entry
begun : (f : Finish) (a b : Times) (audit : Audit) (edition : Edition) (owner : UserId) (old : Option (List ℕ)) → a ≡ b
    → IsChecked f a audit edition owner old → IsChecked f b audit edition owner old
begun f a b audit edition owner old e = subst (λ times. IsChecked f times audit edition owner old) e

pub returns-clause-judged : goal.returns-clause-judged
returns-clause-judged g c = (
  c.check_lines.new.audit,
  c.in_ok-finish.finish,
  begun _ _ _ _ _ _ _ c.in_ok-audit.ensures.times
      (c.in_ok-finish.ensures c.args.edition c.args.owner c.in_ok-audit.ensures.begun),
  sym c.in-Some.ensures,
)

pub returns-clause-told : goal.returns-clause-told
returns-clause-told g c =
    let audit = c.check_lines.new.audit in
    let f = c.in_ok-finish.finish in
    let is = begun _ _ _ _ _ _ _ c.in_ok-audit.ensures.times
    (c.in_ok-finish.ensures c.args.edition c.args.owner c.in_ok-audit.ensures.begun) in (
      audit,
      f,
      is,
      sym c.in-Some.ensures,
      subst (Appends (g.W.Write.contents c.args.output.now) (g.W.Write.contents c.write_all.new.self))
          (c.as_slice.ensures.value ∙ (c.in_ok-text.ensures ∙ told f is.halt_is audit is.line c.args.edition
          c.args.owner is.read.said is.rest is.read.tells is.read.times is.finishes)) c.in_ok-write_all.ensures.bytes,
    )
