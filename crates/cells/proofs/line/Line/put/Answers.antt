use Rattle.std.proofs.Common.{◌+◌, length, ◌∙◌, ap, arith}
use Rattle.cells.proofs.Used.{IsUsed-spliced}
use Rattle.cells.proofs.line.Line.put.Goals as goal

pub invariant_of-self : goal.invariant_of-self
invariant_of-self c =
    let width = ap length c.as_mut_slice.ensures.value in
    let line = ap length c.self.view_is in
    record {
      used_part = IsUsed-spliced c.args.at c.args.fresh.now (c.args.at + length c.args.fresh.now) c.self.inside.used
          c.max-self-inside.result c.put.new.cells c.as_mut_slice.result.now c.self.inside.cells.items
          c.self.inside.cells.len
          (c.put.auto.cells ∙ c.as_mut_slice.ensures.len) c.put.ensures c.as_mut_slice.ensures.value
          c.self.invariant.used_part
          (omega (arith, c.max-self-inside.ensures, c.self.invariant.used_part.inside, width, line, c.requires.room))
          (λ k past inside. omega (arith, c.max-self-inside.ensures, width, inside, past));
      plain = λ e. absurd (cc);
    }
