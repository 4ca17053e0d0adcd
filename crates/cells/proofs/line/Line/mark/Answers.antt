use Rattle.cells.proofs.Vocabulary.{ap, ◌∙◌, get_or_default, Cell, blank}
use Rattle.cells.proofs.Used.{IsUsed-set}
use Rattle.cells.proofs.line.Line.mark.Goals as goal

pub invariant_of-self : goal.invariant_of-self
invariant_of-self c =
    record {
      used_part =
          rw c.max-self-inside.ensures
          (IsUsed-set c.self.inside.cells.items c.self.inside.used c.args.column _
          (rw c.self.view_is c.requires.inside)
          (ap (λ (x : Cell). x.shape)
          (c.index_mut.ensures.value
          ∙ get_or_default c.self.inside.cells.items c.args.column _ blank (rw c.self.view_is c.requires.inside)))
          c.self.invariant.used_part);
      plain = λ e. absurd (cc);
    }
