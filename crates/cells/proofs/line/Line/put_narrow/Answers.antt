use Rattle.cells.proofs.Vocabulary.{[], ◌∷◌, List, length, ◌∙◌, sym, ap, arith, Cell, spliced}
use Rattle.cells.proofs.OverPlain.{plain-stored, plain_one, plain_spliced}
use Rattle.cells.proofs.Used.{IsUsed-spliced}
use Rattle.cells.proofs.line.Line.put_narrow.Goals as goal
use Rattle.cells.proofs.line.Line.put_narrow.Goals.{then-self, else-self}

pub invariant_of-self : goal.invariant_of-self
invariant_of-self c =
    let width = ap length c.as_mut_slice.ensures.value in
    let line = ap length c.self.view_is in
    record {
      used_part = IsUsed-spliced c.args.at (c.args.cell ∷ []) c.args.rest c.self.inside.used
          c.used_after-self-inside.result c.put_narrow.new.cells c.as_mut_slice.result.now c.self.inside.cells.items
          c.self.inside.cells.len
          (c.put_narrow.auto.cells ∙ c.as_mut_slice.ensures.len) c.put_narrow.ensures c.as_mut_slice.ensures.value
          c.self.invariant.used_part
          (omega (
            arith,
            c.used_after-self-inside.ensures,
            c.len.ensures,
            c.self.invariant.used_part.inside,
            width,
            line,
            c.requires.room,
          ))
          (λ k past inside. omega (arith, c.used_after-self-inside.ensures, c.len.ensures, width, inside, past));
      plain = λ e. elim c.if-self.branch [
        | then-self w ↦
            let fresh : List Cell = c.args.cell ∷ [] in
            let items : List Cell = c.self.inside.cells.items in
            plain-stored (spliced c.args.at fresh c.args.rest (length c.as_mut_slice.result.now))
            c.put_narrow.new.cells c.as_mut_slice.result.now items c.self.inside.cells.len
            (c.put_narrow.auto.cells ∙ c.as_mut_slice.ensures.len) c.put_narrow.ensures
            c.as_mut_slice.ensures.value
            (plain_spliced c.args.at fresh items c.args.rest (length c.as_mut_slice.result.now)
            (plain_one c.args.cell (w.is_plain-self-inside.ensures.0 (sym w.self-is ∙ e)))
            (c.self.invariant.plain w.if-self.true))
        | else-self w ↦ absurd (cc)
      ];
    }
