use Rattle.cells.proofs.Vocabulary.{List, ◌∙◌, ap, Cell, taken, unprotected_erased}
use Rattle.cells.proofs.Used.{IsUsed-stored, erased_behind}
use Rattle.cells.proofs.OverPlain.{plain-stored, erased_plain}
use Rattle.cells.proofs.line.Line.erase_unprotected.Goals as goal

pub invariant_of-self : goal.invariant_of-self
invariant_of-self c =
    let items : List Cell = c.self.inside.cells.items in
    record {
      used_part =
          IsUsed-stored (unprotected_erased c.as_mut_slice.result.now c.args.from c.args.end) c.self.inside.used
          c.self.inside.used c.erase_unprotected.new.cells c.as_mut_slice.result.now items c.self.inside.cells.len
          (c.erase_unprotected.auto.cells ∙ c.as_mut_slice.ensures.len) c.erase_unprotected.ensures
          c.as_mut_slice.ensures.value c.self.invariant.used_part c.self.invariant.used_part.inside
          (λ k past inside. ap (λ cells. taken items (unprotected_erased cells c.args.from c.args.end k))
          c.as_mut_slice.ensures.value
          ∙ erased_behind items c.args.from c.args.end c.self.inside.used k c.self.invariant.used_part.blank past);
      plain = λ e.
          plain-stored (unprotected_erased c.as_mut_slice.result.now c.args.from c.args.end)
          c.erase_unprotected.new.cells c.as_mut_slice.result.now items c.self.inside.cells.len
          (c.erase_unprotected.auto.cells ∙ c.as_mut_slice.ensures.len) c.erase_unprotected.ensures
          c.as_mut_slice.ensures.value
          (erased_plain items c.as_mut_slice.result.now c.args.from c.args.end (c.self.invariant.plain e));
    }
