use Rattle.cells.proofs.Vocabulary.{◌≡◌, ◌∙◌, length, replicate, rules, sym, take_at}
use Rattle.cells.proofs.Used.{IsUsed-filled}
use Rattle.cells.proofs.line.Line.fill.Goals as goal

pub invariant_of-self : goal.invariant_of-self
invariant_of-self c =
    let made : c.fill.new.self ≡ replicate (length c.as_mut_slice.result.now) c.args.cell = search rules in
    let same : c.len-self-inside.result ≡ length c.as_mut_slice.result.now = c.len-self-inside.ensures
    ∙ sym c.as_mut_slice.ensures.len in
    record {
      used_part =
          rw (
            take_at c.fill.new.self _ c.self.inside.cells.len (c.fill.ensures.len ∙ c.as_mut_slice.ensures.len),
            same,
            made,
          ) (IsUsed-filled (length c.as_mut_slice.result.now) c.args.cell c.requires.narrow);
      plain = λ e. absurd (cc);
    }
