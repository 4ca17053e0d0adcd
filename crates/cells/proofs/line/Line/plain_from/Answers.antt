use Rattle.cells.proofs.Vocabulary.{subst, ArePlainFrom}
use Rattle.cells.proofs.OverPlain.{blanks_plain}
use Rattle.cells.proofs.line.Line.plain_from.Goals as goal

pub returns-then-self : goal.returns-then-self
returns-then-self c = subst (ArePlainFrom 0) c.self.view_is (c.self.invariant.plain c.if-self.true)

pub returns-else-self : goal.returns-else-self
returns-else-self c = subst (ArePlainFrom c.self.inside.used) c.self.view_is
    (blanks_plain c.self.inside.used c.self.inside.cells.items c.self.invariant.used_part.blank)
