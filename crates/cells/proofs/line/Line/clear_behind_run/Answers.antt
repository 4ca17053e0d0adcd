use Rattle.cells.proofs.Vocabulary.{◌≡◌, List, drop, false, length, replicate, ap, sym, ◌∙◌, subst, arith, take_at}
use Rattle.cells.proofs.Vocabulary.{Cell, blank, plain, cells_spliced, narrow_cells, ArePlainFrom}
use Rattle.cells.proofs.OverPlain.{noted_run}
use Rattle.cells.proofs.line.Line.clear_behind_run.Goals as goal

pub clear_behind_run-requires-clause-plain : goal.clear_behind_run-requires-clause-plain
clear_behind_run-requires-clause-plain c = λ e. subst (ArePlainFrom 0) (sym c.as_mut_slice.ensures.value)
    (c.self.invariant.plain e)

pub invariant_of-self : goal.invariant_of-self
invariant_of-self c =
    let line : length c.as_mut_slice.result.now ≡ length c.args.self.now = ap length
    (c.as_mut_slice.ensures.value ∙ c.self.view_is) in
    noted_run c.args.codes.now (length c.as_mut_slice.result.now) c.self.inside.cells.len c.clear_behind_run.new.cells _
    (c.clear_behind_run.auto.cells ∙ c.as_mut_slice.ensures.len)
    (omega (arith, line, c.requires.room)) c.clear_behind_run.ensures

pub returns : goal.returns
returns c =
    take_at c.clear_behind_run.new.cells (drop (length c.clear_behind_run.new.cells) c.self.inside.cells.items)
    c.self.inside.cells.len (c.clear_behind_run.auto.cells ∙ c.as_mut_slice.ensures.len)
    ∙ c.clear_behind_run.ensures
    ∙ ap (λ (line : List Cell). cells_spliced 0 (narrow_cells c.args.codes.now plain false) (length c.args.codes.now)
    (replicate (length line) blank)) (c.as_mut_slice.ensures.value ∙ c.self.view_is)
