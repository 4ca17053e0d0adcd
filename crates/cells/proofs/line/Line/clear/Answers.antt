use Rattle.cells.proofs.Vocabulary.{List, drop, length, replicate, sym, ap, ◌∙◌, subst, take_at, Cell, blank}
use Rattle.cells.proofs.Vocabulary.{ArePlainFrom}
use Rattle.cells.proofs.OverPlain.{noted_blank}
use Rattle.cells.proofs.line.Line.clear.Goals as goal

pub clear_used-requires-clause-plain : goal.clear_used-requires-clause-plain
clear_used-requires-clause-plain c = λ e. subst (ArePlainFrom 0) (sym c.as_mut_slice.ensures.value)
    (c.self.invariant.plain e)

pub invariant_of-self : goal.invariant_of-self
invariant_of-self c = noted_blank (length c.as_mut_slice.result.now) c.self.inside.cells.len c.clear_used.new.cells _
    (c.clear_used.auto.cells ∙ c.as_mut_slice.ensures.len) c.clear_used.ensures

pub returns : goal.returns
returns c =
    take_at c.clear_used.new.cells (drop (length c.clear_used.new.cells) c.self.inside.cells.items)
    c.self.inside.cells.len (c.clear_used.auto.cells ∙ c.as_mut_slice.ensures.len)
    ∙ c.clear_used.ensures
    ∙ ap (λ (line : List Cell). replicate (length line) blank) (c.as_mut_slice.ensures.value ∙ c.self.view_is)
