use Rattle.cells.proofs.Vocabulary.{◌≡◌, ◌<◌, ◌≤◌, List, length, replicate, ◌∙◌, ap, sym, subst, arith, ⊎_elim}
use Rattle.cells.proofs.Vocabulary.{length-replicate, cases_lt, Cell, blank, taken, spliced, IsUsed}
use Rattle.cells.proofs.Used.{IsUsed-stored, spliced_behind}
use Rattle.cells.proofs.OverPlain.{plain-stored, plain_spliced, plain_blanks}
use Rattle.cells.proofs.UsedSplices.{all_blank_from, blanks_at}
use Rattle.cells.proofs.line.Line.splice.Goals as goal

pub splice_used-self-inside-requires-clause-used : goal.splice_used-self-inside-requires-clause-used
splice_used-self-inside-requires-clause-used c = subst (IsUsed c.self.inside.used) (sym c.as_mut_slice.ensures.value)
    c.self.invariant.used_part

pub invariant_of-self : goal.invariant_of-self
invariant_of-self c =
    let items : List Cell = c.self.inside.cells.items in
    let fresh : List Cell = replicate c.args.count blank in
    let used = c.self.inside.used in
    let next = c.splice_used-self-inside.result in
    let is = c.splice_used-self-inside.ensures in
    let width : length c.as_mut_slice.result.now ≡ length items = ap length c.as_mut_slice.ensures.value in
    let line : length items ≡ length c.args.self.now = ap length c.self.view_is in
    record {
      used_part =
          IsUsed-stored (spliced c.args.at fresh c.args.rest (length c.as_mut_slice.result.now)) used next
          c.splice_used-self-inside.new.cells c.as_mut_slice.result.now items c.self.inside.cells.len
          (c.splice_used-self-inside.auto.cells ∙ c.as_mut_slice.ensures.len) is.value c.as_mut_slice.ensures.value
          c.self.invariant.used_part
          (⊎_elim
          (λ (some : c.args.rest < used). omega (arith, is.moved some, width))
          (λ (none : used ≤ c.args.rest). omega (arith, is.all_out none, c.self.invariant.used_part.inside))
          (cases_lt c.args.rest used))
          (λ k past inside. ap (λ n. taken items (spliced c.args.at fresh c.args.rest n k)) width ∙ ⊎_elim
          (λ (some : c.args.rest < used). spliced_behind c.args.at fresh items c.args.rest used k
          c.self.invariant.used_part.blank
          (omega (arith, is.moved some, width, length-replicate c.args.count blank, inside, past)))
          (λ (none : used ≤ c.args.rest). all_blank_from c.args.at fresh c.args.rest used items (blanks_at c.args.count)
          none c.self.invariant.used_part.blank k (omega (arith, is.all_out none, past)))
          (cases_lt c.args.rest used));
      plain = λ e.
          plain-stored (spliced c.args.at fresh c.args.rest (length c.as_mut_slice.result.now))
          c.splice_used-self-inside.new.cells c.as_mut_slice.result.now items c.self.inside.cells.len
          (c.splice_used-self-inside.auto.cells ∙ c.as_mut_slice.ensures.len) is.value c.as_mut_slice.ensures.value
          (plain_spliced c.args.at fresh items c.args.rest (length c.as_mut_slice.result.now)
          (plain_blanks c.args.count) (c.self.invariant.plain e));
    }
