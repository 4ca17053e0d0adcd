use Rattle.std.proofs.Common.{sym, ◌∙◌}
use Rattle.rebuild.proofs.Same.{lent-line}
use Rattle.rebuild.proofs.sameness.has_same_kept_line.Goals as goal

pub returns-in-Some-Some : goal.returns-in-Some-Some
returns-in-Some-Some c = λ h.
    lent-line c.in-Some-Some.ours c.args.a.now.screen.kept c.args.n c.in-Some-Some.ensures
    ∙ c.is_same_line.ensures h
    ∙ sym (lent-line c.in-Some-Some.theirs c.args.b.now.screen.kept c.args.n c.in-Some-Some.ensures')
